use Rattle.std.proofs.Common.{◌++◌, vec_items, sym, ap, ◌∙◌, arith}
use Rattle.std.proofs.lemmas.Fmt.{decimal_digit}
use Rattle.script.proofs.show.show_number.Goals as goal

pub returns-then-n-lt10 : goal.returns-then-n-lt10
returns-then-n-lt10 c = c.in_ok-push.ensures.items ∙ ap (λ l. vec_items c.args.out.now ++ l) (sym (decimal_digit c.args.n (omega (arith, c.if-n-lt10.true))))
