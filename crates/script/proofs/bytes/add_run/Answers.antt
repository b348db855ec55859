use Rattle.std.proofs.Common.{◌≡◌, Some, replicate, refl, ◌∙◌, arith}
use Rattle.std.proofs.lemmas.List.{length-replicate}
use Rattle.std.proofs.lemmas.Result.{err_from_is_err_and}
use Rattle.script.specs.Numerals.{numeral}
use Rattle.script.specs.Spelling.{one_byte}
use Rattle.script.proofs.Spelt.{run_is, too_long}
use Rattle.script.proofs.bytes.add_run.Goals as goal

pub returns-in_err-total : goal.returns-in_err-total
returns-in_err-total c =
    let n = c.in_ok-n.n in
    let b = c.in_ok-b.b in
    let counted : Some n ≡ numeral c.args.count.now = grind arith in
    let valued : Some b ≡ one_byte c.args.value.now = grind arith in
    let means = run_is c.args.count.now c.args.value.now n b counted valued in
    let p = err_from_is_err_and c.from_residual-in_err-total.result c.from_residual-in_err-total.ensures.1 in
    rw (p.1, p.2) (too_long _ (replicate n b) _ _ _ n _ _ means (length-replicate n b) (c.len.ensures ∙ c.args.out.now.ok.0) refl c.in_err-total.ensures)

pub returns-in_err-resize : goal.returns-in_err-resize
returns-in_err-resize c =
    let n = c.in_ok-n.n in
    let b = c.in_ok-b.b in
    let counted : Some n ≡ numeral c.args.count.now = grind arith in
    let valued : Some b ≡ one_byte c.args.value.now = grind arith in
    let means = run_is c.args.count.now c.args.value.now n b counted valued in
    let p = err_from_is_err_and c.from_residual-in_err-resize.result c.from_residual-in_err-resize.ensures.1 in
    rw (p.1, p.2) (replicate n b, means, omega (arith, length-replicate n b, c.len.ensures, c.args.out.now.ok.0, c.in_ok-total.ensures), c.in_err-resize.ensures.items)
