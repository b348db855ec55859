use Rattle.std.proofs.Common.{None, ◌∙◌}
use Rattle.std.proofs.lemmas.List.{length-set}
use Rattle.array.specs.Arrays.{config}
use Rattle.array.specs.Configuration.{with_group}
use Rattle.array.proofs.Keeping.{kept_of, group_set, group_deleted, numbered_cleared, fields_by}
use Rattle.array.proofs.tables.Array.delete_group.Goals as goal

pub invariant_of-self : goal.invariant_of-self
invariant_of-self c =
    let a = c.args.self.now in
    let g = c.args.g in
    fields_by _ _ (with_group (config a) g None) (length-set a.groups g None ∙ a.eight) a.sixteen (numbered_cleared a.groups g a.numbered) (group_set a.groups a.volumes g None)
    (group_deleted (config a) g (c.is_unused.ensures.0 c.in_ok-ensure.ensures) (kept_of a))

pub returns : goal.returns
returns c = ((c.in_ok-slot.ensures.0.0, (c.is_unused.ensures.0 c.in_ok-ensure.ensures, tt)), group_set c.args.self.now.groups c.args.self.now.volumes c.args.g None)
