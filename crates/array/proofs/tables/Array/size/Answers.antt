use Rattle.std.proofs.Common.{ap, ◌∙◌, arith}
use Rattle.array.specs.Configuration.{VolumeConfig}
use Rattle.array.specs.Places.{blocks_in}
use Rattle.array.proofs.Looking.{found_fit}
use Rattle.array.proofs.Walking.{blocks_sum}
use Rattle.array.proofs.tables.Array.size.Goals as goal

pub count_blocks-requires : goal.count_blocks-requires
count_blocks-requires c =
    let told = c.in_ok-volume.ensures in
    omega (arith, found_fit c.args.self.now c.args.v told.0.0 c.in_ok-volume.volume.now c.active.result.now c.active.ensures told.1, blocks_sum c.active.result.now)

pub returns : goal.returns
returns c =
    let told = c.in_ok-volume.ensures in
    (told.0, c.count_blocks.ensures ∙ blocks_sum c.active.result.now ∙ ap blocks_in c.active.ensures ∙ ap (λ (v : VolumeConfig). blocks_in v.runs) told.1)
