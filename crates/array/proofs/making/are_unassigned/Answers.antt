use Rattle.std.proofs.Common.{[], ℕ, length, rules}
use borrow.Author.Tests.{tests}
use Rattle.std.proofs.lemmas.Iterator.{YieldsList-from_slice}
use Rattle.layout.specs.declared.extent.ExtentRow.{ExtentRow}
use Rattle.layout.specs.Extents.{Sound}
use Rattle.group.specs.Filling.{extent, no_extent}
use Rattle.array.specs.Configuration.{configuration}
use Rattle.array.specs.Planning.{Assigned}
use Rattle.array.proofs.Chains.{any_by_index, none_by_index}
use Rattle.array.proofs.making.are_unassigned.Goals as goal

pub returns : goal.returns
returns c =
    let es = c.args.extents.now in
    let Taken = λ (e : ExtentRow). Sound e × Assigned (configuration c.args.groups.now []) e in
    let none =
    none_by_index (λ (i : ℕ). Taken (extent es i)) (length es) c.any.result
    (any_by_index Taken no_extent _ _ _ c.any.ensures.ran (YieldsList-from_slice es cc) (λ x q k. search (rules, tests)) (λ x q k. search (rules, tests))) in
    (λ t i h ok g j has o. none.0 t i h (ok, (g, j, has, o)), λ each. none.1 (λ i h taken. each i h taken.0 taken.1.0 taken.1.1 taken.1.2 taken.1.3))
