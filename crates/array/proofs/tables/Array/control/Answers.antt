use Rattle.std.proofs.Common.{◌<◌, length, None, arith}
use Rattle.std.proofs.lemmas.List.{get_or_default}
use Rattle.array.proofs.Control.{control_set, control_fields}
use Rattle.array.proofs.tables.Array.control.Goals as goal

pub invariant_of-self : goal.invariant_of-self
invariant_of-self c =
    let l : c.args.v < length c.args.self.now.volumes = omega arith in
    control_fields c.args.self.now c.args.v c.args.on l _ c.with_control.result (get_or_default c.args.self.now.volumes c.args.v c.index-self-v.result None l) c.with_control.ensures

pub returns : goal.returns
returns c =
    let l : c.args.v < length c.args.self.now.volumes = omega (arith, c.args.self.now.sixteen) in
    control_set c.args.self.now c.args.v c.args.on l _ c.with_control.result (get_or_default c.args.self.now.volumes c.args.v c.index-self-v.result None l) c.with_control.ensures
