use Rattle.std.proofs.Common.{◌≡◌, length}
use Rattle.group.specs.Making.{FitsTo, MadeTo}
use Rattle.group.proofs.record.Group.new.Given as goal

abbrev pub invariant-loop-i : goal.invariant-loop-i
invariant-loop-i l = (length l.members ≡ 8) × FitsTo l.extents l.geometry.rows l.i × MadeTo l.extents l.members l.i
