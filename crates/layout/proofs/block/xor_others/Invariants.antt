use Rattle.std.proofs.Common.{◌≡◌, [], length, drop, set, replicate}
use Rattle.layout.specs.Blocks.{xor, xor_all}
use Rattle.layout.proofs.block.xor_others.Given as goal

abbrev pub invariant-loop-i : goal.invariant-loop-i
invariant-loop-i l = (length l.all ≡ 512) × (xor l.all (xor_all (drop l.i (set l.blocks l.m []))) ≡ xor (replicate 512 0) (xor_all (set l.blocks l.m [])))
