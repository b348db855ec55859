use Rattle.std.proofs.Common.{◌++◌, refl, sym, ap, ◌∙◌, arith}
use Rattle.std.proofs.lemmas.Result.{err_from_is_err_and}
use Rattle.script.specs.Spelling.{paired}
use Rattle.script.proofs.Spelt.{stands_for_none, plain_paired, length_paired, too_long}
use Rattle.script.proofs.bytes.add_plain.Goals as goal

pub returns-then-not-is_plain : goal.returns-then-not-is_plain
returns-then-not-is_plain c = (stands_for_none _ (sym c.is_plain.ensures ∙ c.if-not-is_plain.true), refl)

pub returns-in_err-longer : goal.returns-in_err-longer
returns-in_err-longer c =
    let w = c.args.word.now in
    let means = plain_paired w (sym c.is_plain.ensures ∙ c.if-not-is_plain.false) in
    let p = err_from_is_err_and c.from_residual.result c.from_residual.ensures.1 in
    rw (p.1, p.2) (too_long _ (paired w) _ _ _ _ _ _ means (length_paired w) (c.len.ensures ∙ c.args.out.now.ok.0) refl c.in_err-longer.ensures)

pub returns-in_err-try_reserve : goal.returns-in_err-try_reserve
returns-in_err-try_reserve c =
    let w = c.args.word.now in
    let means = plain_paired w (sym c.is_plain.ensures ∙ c.if-not-is_plain.false) in
    let p = err_from_is_err_and c.from_residual-in_err-try_reserve.result c.from_residual-in_err-try_reserve.ensures.1 in
    rw (p.1, p.2) (paired w, means, omega (arith, length_paired w, c.len.ensures, c.args.out.now.ok.0, c.in_ok-longer.ensures), c.try_reserve.ensures.items)

pub returns : goal.returns
returns c =
    let w = c.args.word.now in (
      paired w,
      plain_paired w (sym c.is_plain.ensures ∙ c.if-not-is_plain.false),
      omega (arith, length_paired w, c.len.ensures, c.args.out.now.ok.0, c.in_ok-longer.ensures),
      c.push_pairs.ensures ∙ ap (λ l. l ++ paired w) c.try_reserve.ensures.items,
    )
