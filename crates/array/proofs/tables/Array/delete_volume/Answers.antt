use Rattle.std.proofs.Common.{None, ◌∙◌}
use Rattle.std.proofs.lemmas.List.{length-set}
use Rattle.array.specs.Arrays.{config}
use Rattle.array.specs.Configuration.{with_volume}
use Rattle.array.proofs.Keeping.{kept_of, volume_set, volume_deleted, fields_by}
use Rattle.array.proofs.tables.Array.delete_volume.Goals as goal

pub invariant_of-self : goal.invariant_of-self
invariant_of-self c =
    let a = c.args.self.now in
    let v = c.args.v in
    fields_by _ _ (with_volume (config a) v None) a.eight (length-set a.volumes v None ∙ a.sixteen) a.numbered (volume_set a.groups a.volumes v None) (volume_deleted (config a) v (kept_of a))

pub returns : goal.returns
returns c = (c.in_ok-volume.ensures.0, volume_set c.args.self.now.groups c.args.self.now.volumes c.args.v None)
