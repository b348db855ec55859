use Rattle.std.proofs.Common.{◌≡◌, ℕ, ◌+◌, true, false, not, eqb, List, take, Some, rules, sym, ap, ◌∙◌}
use borrow.Author.Tests.{tests}
use Rattle.std.proofs.lemmas.Iterator.{IsFirst-from_position, YieldsList-from_slice}
use Rattle.std.proofs.lemmas.List.{take_rest}
use Rattle.script.proofs.Reading.{cut_at_none, cut_at_some}
use Rattle.script.proofs.numbers.cut.Goals as goal

pub returns-in_err-i : goal.returns-in_err-i
returns-in_err-i c =
    let w = c.args.word.now in
    let p = λ (b : ℕ). not (eqb b c.args.at) in
    let first = IsFirst-from_position _ _ _ (λ x. p x ≡ false) (λ x. p x ≡ true) c.position.ensures.ran (YieldsList-from_slice w cc) (λ x q k. search (rules, tests)) (λ x q k. search (rules, tests)) in
    rw c.from_residual.ensures (cut_at_none c.args.at w _ c.in_err-i.was first)

pub returns : goal.returns
returns c =
    let w = c.args.word.now in
    let p = λ (b : ℕ). not (eqb b c.args.at) in
    let first = IsFirst-from_position _ _ _ (λ x. p x ≡ false) (λ x. p x ≡ true) c.position.ensures.ran (YieldsList-from_slice w cc) (λ x q k. search (rules, tests)) (λ x q k. search (rules, tests)) in
    cut_at_some c.args.at w _ c.in_ok-i.i c.in_ok-i.was first ∙ ap (λ (l : List ℕ). Some (take c.in_ok-i.i w, l)) (sym (take_rest w (c.in_ok-i.i + 1)))
