use Rattle.std.proofs.Common.{◌≡◌, Some, None, Err, ap, ◌∙◌, arith}
use Rattle.std.proofs.lemmas.Result.{err_from_is_err_and}
use Rattle.script.specs.Numerals.{numeral}
use Rattle.jowlspur.specs.declared.wrong.Wrong.TheVariants.{Number}
use Rattle.jowlspur.proofs.Parsing.{last_none, last_not, last_some}
use Rattle.jowlspur.proofs.request.Line.last_number.Goals as goal

pub returns-in_default : goal.returns-in_default
returns-in_default c = last_none _ c.in_default.ensures.steps.0.0

pub returns-in_err-n : goal.returns-in_err-n
returns-in_err-n c =
    let fault : c.in_err-n.field-0.0 ≡ Number = grind arith in
    let not : None ≡ numeral c.in-Some.word.now = grind arith in
    let p = err_from_is_err_and c.from_residual.result c.from_residual.ensures.1 in
    p.1 ∙ ap Err p.2 ∙ ap Err fault ∙ last_not _ _ _ c.in-Some.ensures.steps.0 not

pub returns-in_err-end : goal.returns-in_err-end
returns-in_err-end c =
    let is : Some c.in_ok-n.n ≡ numeral c.in-Some.word.now = grind arith in
    let p = err_from_is_err_and c.from_residual-in_err-end.result c.from_residual-in_err-end.ensures.1 in
    p.1 ∙ ap Err p.2 ∙ last_some _ _ _ c.in-Some.ensures.steps.0 _ is _ c.in_err-end.ensures

pub returns : goal.returns
returns c =
    let is : Some c.in_ok-n.n ≡ numeral c.in-Some.word.now = grind arith in
    last_some _ _ _ c.in-Some.ensures.steps.0 _ is _ c.in_ok-end.ensures
