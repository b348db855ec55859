use Rattle.std.proofs.Common.{◌≡◌, Some, None, Err, sym, ap, ◌∙◌, arith}
use Rattle.std.proofs.lemmas.Result.{err_from_is_err_and}
use Rattle.script.specs.Numerals.{numeral}
use Rattle.jowlspur.specs.declared.wrong.Wrong.TheVariants.{Missing, Number}
use Rattle.jowlspur.proofs.Parsing.{numbered_none, numbered_not, numbered_some}
use Rattle.jowlspur.proofs.request.Line.next_number.Goals as goal

pub returns-in_err-word : goal.returns-in_err-word
returns-in_err-word c =
    let none : c.next.result ≡ None = grind arith in
    let fault : c.in_err-word.field-0.0 ≡ Missing = grind (arith, none) in
    let p = err_from_is_err_and c.from_residual.result c.from_residual.ensures.1 in
    rw (p.1, p.2) (numbered_none _ (rw none at c.next.ensures.steps).0.0 ∙ ap Err (sym fault))

pub returns-in_err-n : goal.returns-in_err-n
returns-in_err-n c =
    let some : c.next.result ≡ Some c.in_ok-word.word = grind arith in
    let not : None ≡ numeral c.in_ok-word.word.now = grind arith in
    let fault : c.in_err-n.field-0.0 ≡ Number = grind arith in
    let p = err_from_is_err_and c.from_residual-in_err-n.result c.from_residual-in_err-n.ensures.1 in
    rw (p.1, p.2) (numbered_not _ _ _ (rw some at c.next.ensures.steps).0 not ∙ ap Err (sym fault))

pub returns : goal.returns
returns c =
    let some : c.next.result ≡ Some c.in_ok-word.word = grind arith in
    let is : Some c.in_ok-n.n ≡ numeral c.in_ok-word.word.now = grind arith in
    numbered_some _ _ _ (rw some at c.next.ensures.steps).0 _ is
