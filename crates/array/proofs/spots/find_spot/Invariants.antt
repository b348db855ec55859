use Rattle.std.proofs.Common.{◌≡◌, ◌+◌, drop}
use Rattle.array.specs.Places.{blocks_in, spot_in}
use Rattle.array.proofs.spots.find_spot.Given as goal

abbrev pub invariant-loop-run : goal.invariant-loop-run
invariant-loop-run l = (l.b + blocks_in (drop l.run-index l.runs) ≡ l.left + blocks_in l.runs) × (spot_in l.runs l.b ≡ spot_in (drop l.run-index l.runs) l.left)
