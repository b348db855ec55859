use Rattle.array.proofs.Control.{control_mapped, mapped_fields}
use Rattle.array.proofs.tables.Array.control_all.Goals as goal

pub invariant_of-self : goal.invariant_of-self
invariant_of-self c = mapped_fields c.args.self.now c.args.on c.loop-volume.volume-items c.loop-volume.volume-index c.loop-volume.invariant c.loop-volume-test.false

pub returns : goal.returns
returns c = control_mapped c.args.self.now c.args.on c.loop-volume.volume-items c.loop-volume.volume-index c.loop-volume.invariant c.loop-volume-test.false
