use Rattle.std.proofs.Common.{None, rules}
use borrow.Author.Tests.{tests}
use Rattle.std.proofs.lemmas.Iterator.{YieldsList-from_slice}
use Rattle.array.proofs.Chains.{any_by_index}
use Rattle.array.proofs.Assigning.{assigned}
use Rattle.array.specs.Planning.{Shared, slot_view}
use Rattle.array.proofs.making.is_assigned.Goals as goal

pub returns : goal.returns
returns c =
    assigned c.args.groups.now c.args.e.now.row c.any.result
    (any_by_index (λ x. Shared c.args.e.now.row (slot_view x)) None _ _ _ c.any.ensures.ran (YieldsList-from_slice c.args.groups.now cc) (λ x q k. search (rules, tests)) (λ x q k. search (rules, tests)))
