use Rattle.std.proofs.Common.{◌≡◌, true, false, rules, sym, ◌∙◌}
use borrow.Author.Tests.{tests}
use Rattle.std.proofs.lemmas.Iterator.{IsFirst-from_position, YieldsList-from_slice}
use Rattle.script.proofs.Prefix.{leading_is}
use Rattle.script.proofs.front.leading.Goals as goal

pub returns-clause-count : goal.returns-clause-count
returns-clause-count g c = λ p h.
    let bytes = c.args.bytes.now in
    let first = IsFirst-from_position _ _ _ (λ x. p x ≡ false) (λ x. p x ≡ true) c.position.ensures.ran (YieldsList-from_slice bytes cc) (λ x q k. search (rules, tests, h)) (λ x q k. search (rules, tests, h)) in
    c.unwrap_or.ensures ∙ sym (leading_is p bytes _ first)
