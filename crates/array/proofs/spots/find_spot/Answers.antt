use Rattle.std.proofs.Common.{◌<◌, length, sym, ap, ◌∙◌, arith}
use Rattle.std.proofs.lemmas.List.{at_drop_all}
use Rattle.array.specs.Places.{Spot, blocks_in}
use Rattle.array.proofs.Walking.{blocks_drop, spot_here, spot_past}
use Rattle.array.proofs.spots.find_spot.Goals as goal

pub returns-then-left-run : goal.returns-then-left-run
returns-then-left-run c =
    let rs = c.args.runs.now in
    let i = c.loop-run.run-index in
    let h : i < length rs = omega arith in
    let is = c.loop-run.invariant.1 ∙ spot_here rs i h c.loop-run.left (omega arith) in
    record {
      below = omega (arith, blocks_drop rs i h, c.loop-run.invariant.0);
      group = ap (λ (s : Spot). s.group) (sym is);
      block = ap (λ (s : Spot). s.block) (sym is);
    }

pub loop-run-preserved : goal.loop-run-preserved
loop-run-preserved c =
    let rs = c.args.runs.now in
    let i = c.loop-run.run-index in
    let h : i < length rs = omega arith in
    (omega (arith, blocks_drop rs i h, c.loop-run.invariant.0), c.loop-run.invariant.1 ∙ spot_past rs i h c.loop-run.left (omega arith))

pub returns : goal.returns
returns c = omega (arith, at_drop_all blocks_in c.args.runs.now c.loop-run.run-index (omega arith), c.loop-run.invariant.0)
