use Rattle.std.proofs.Common.{vec_items, sym, ap, ◌∙◌, subst, arith, true-eqb}
use Rattle.std.proofs.lemmas.Fmt.{decimal_digit}
use Rattle.std.proofs.lemmas.List.{nil_from_length}
use Rattle.script.specs.Showing.{shown, Written}
use Rattle.script.proofs.show.show_bytes.Goals as goal

pub returns-then-is_empty : goal.returns-then-is_empty
returns-then-is_empty c =
    let none = nil_from_length c.args.bytes.now (true-eqb _ 0 c.if-is_empty.ensures) in
    subst (λ l. Written c.show_number.result l (vec_items c.args.out.now) (vec_items c.show_number.new.out)) (decimal_digit 0 (omega arith) ∙ ap shown (sym none)) c.show_number.ensures
