use Rattle.array.specs.Arrays.{config}
use Rattle.array.specs.Configuration.{configuration}
use Rattle.array.proofs.Control.{ControlledTo}
use Rattle.array.proofs.tables.Array.control_all.Given as goal

abbrev pub invariant-loop-volume : goal.invariant-loop-volume
invariant-loop-volume l = ControlledTo (config l.fn.self) (configuration l.fn.self.groups l.volume-items) l.on l.volume-index
