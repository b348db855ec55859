use Rattle.std.proofs.Common.{◌≡◌, ◌+◌, ◌-◌, ◌≤◌, ◌++◌, map, length, drop, vec_items, vec_len, vec_capacity}
use Rattle.script.proofs.Spelt.{pair_of}
use Rattle.script.proofs.bytes.push_pairs.Given as goal

abbrev pub invariant-loop-high : goal.invariant-loop-high
invariant-loop-high l = (vec_items l.out ++ map pair_of (drop l.high-index l.pairs) ≡ vec_items l.initial.out ++ map pair_of l.pairs)
    × (vec_len l.out + (length l.pairs - l.high-index) ≤ vec_capacity l.out)
