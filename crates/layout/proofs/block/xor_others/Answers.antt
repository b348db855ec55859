use Rattle.std.proofs.Common.{◌≡◌, ℕ, ◌+◌, ◌<◌, ◌≢◌, List, [], length, get_or, drop, set, sym, ap, ◌∙◌, length-set, get_or-set_other, get_or-set_same}
use Rattle.layout.specs.Blocks.{xor, xor_all}
use Rattle.layout.specs.XorBytes.{others_step, others_skip, others_end}
use Rattle.layout.proofs.block.xor_others.Goals as goal
use Rattle.layout.proofs.block.xor_others.Goals.{then-i-m, else-i-m}

pub loop-i-preserved : goal.loop-i-preserved
loop-i-preserved c =
    let bs : List (List ℕ) = c.args.blocks.now in
    let cut : List (List ℕ) = set bs c.args.m [] in
    let i = c.loop-i.i in
    let lt : i < length bs = c.loop-i-test.true in
    let long : i < length cut = simp length-set lt in
    let rest = xor_all (drop (i + 1) cut) in
    elim c.if-i-m.branch [
      | then-i-m w ↦
          let ne : i ≢ c.args.m = w.if-i-m.true in
          let e : c.if-i-m.all ≡ xor c.loop-i.all (get_or bs i []) = w.all-is ∙ w.xor_block.ensures in (
            ap length w.all-is ∙ w.xor_block.array_long,
            ap (λ (a : List ℕ). xor a rest) e ∙ others_step c.loop-i.all cut i long (get_or bs i []) (rw get_or-set_other) ∙ c.loop-i.invariant.1,
          )
      | else-i-m w ↦
          let e : get_or cut i [] ≡ [] = ap (λ (m : ℕ). get_or (set bs m []) i []) (sym w.if-i-m.false) ∙ get_or-set_same bs i [] [] lt in (
            ap length w.all-is ∙ c.loop-i.invariant.0,
            ap (λ (a : List ℕ). xor a rest) w.all-is ∙ others_skip c.loop-i.all cut i long e ∙ c.loop-i.invariant.1,
          )
    ]

pub returns : goal.returns
returns c =
    sym (others_end c.loop-i.all (set c.args.blocks.now c.args.m []) c.loop-i.i (simp length-set c.loop-i-test.false)) ∙ c.loop-i.invariant.1
