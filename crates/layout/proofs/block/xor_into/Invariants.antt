use Rattle.std.proofs.Common.{◌≡◌, take}
use Rattle.layout.specs.Blocks.{xor}
use Rattle.layout.proofs.block.xor_into.Given as goal

abbrev pub invariant-loop-i : goal.invariant-loop-i
invariant-loop-i l = l.byte-items ≡ xor l.initial.byte-items (take l.i l.src)
