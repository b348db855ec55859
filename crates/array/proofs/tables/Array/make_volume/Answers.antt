use Rattle.std.proofs.Common.{Some, ap, ◌∙◌}
use Rattle.std.proofs.lemmas.List.{length-set}
use Rattle.array.specs.Arrays.{config}
use Rattle.array.specs.Configuration.{VolumeConfig, with_volume, new_volume}
use Rattle.array.proofs.Keeping.{kept_of, volume_set, volume_made, fields_by}
use Rattle.array.proofs.tables.Array.make_volume.Goals as goal

pub invariant_of-self : goal.invariant_of-self
invariant_of-self c =
    let a = c.args.self.now in
    let v = c.args.v in
    let rs = c.args.runs.now in
    let ok = c.in_ok-check_volume.ensures.0 in
    fields_by _ _ (with_volume (config a) v (new_volume rs)) a.eight (length-set a.volumes v _ ∙ a.sixteen) a.numbered
    (volume_set a.groups a.volumes v (Some c.volume_on.result) ∙ ap (λ (x : VolumeConfig). with_volume (config a) v (Some x)) c.volume_on.ensures)
    (volume_made (config a) v rs ok.1.0.1 ok.0.2 ok.1.0.0 ok.1.1.0 ok.1.1.1.0.0 ok.1.1.1.0.1 (kept_of a))

pub returns : goal.returns
returns c = (
  c.in_ok-check_volume.ensures.0,
  volume_set c.args.self.now.groups c.args.self.now.volumes c.args.v (Some c.volume_on.result)
      ∙ ap (λ (x : VolumeConfig). with_volume (config c.args.self.now) c.args.v (Some x)) c.volume_on.ensures,
)
