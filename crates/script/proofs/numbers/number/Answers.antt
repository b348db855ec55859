use Rattle.std.proofs.Common.{◌+◌, get_or, drop, sym, ◌∙◌, arith}
use Rattle.std.proofs.lemmas.List.{at_drop_more}
use Rattle.script.specs.Numerals.{and_then, value_after, fitting}
use Rattle.script.proofs.Reading.{digit_refused, numeral_some}
use Rattle.script.proofs.numbers.number.Goals as goal

pub returns-in_err-n : goal.returns-in_err-n
returns-in_err-n c =
    let w = c.args.word.now in
    let i = c.loop-digit.digit-index in
    let n = c.loop-digit.n in
    let next = at_drop_more (λ l. and_then (value_after n l) fitting) w i 0 c.loop-digit-test.true in
    let none = digit_refused n (get_or w i 0) (drop (i + 1) w) c.in_err-n.ensures in
    c.from_residual.ensures ∙ sym (numeral_some w (omega arith) ∙ sym c.loop-digit.invariant.0 ∙ next ∙ none)
