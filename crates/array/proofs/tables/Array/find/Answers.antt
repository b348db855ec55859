use Rattle.std.proofs.Common.{◌≡◌, ◌≤◌, Some, arith}
use Rattle.std.proofs.lemmas.Option.{MatchOption-at_some}
use Rattle.array.specs.Finding.{SpotAt}
use Rattle.array.specs.Places.{blocks_in}
use Rattle.array.proofs.Looking.{found_short, spot_below, group_there, found_at}
use Rattle.array.proofs.Checking.{not_held}
use Rattle.array.proofs.tables.Array.find.Goals as goal

pub find_spot-requires : goal.find_spot-requires
find_spot-requires c =
    let told = c.in_ok-volume.ensures in
    found_short c.args.self.now c.args.at.volume told.0.0 c.in_ok-volume.volume.now c.active.result.now c.active.ensures told.1

pub returns-in_err-slot : goal.returns-in_err-slot
returns-in_err-slot c =
    let told = c.in_ok-volume.ensures in
    let there : c.find_spot.result ≡ Some c.in_ok-spot.spot = grind arith in
    let at = MatchOption-at_some (blocks_in c.active.result.now ≤ c.args.at.block) (SpotAt c.active.result.now c.args.at.block) c.in_ok-spot.spot there c.find_spot.ensures in
    absurd (group_there c.args.self.now c.args.at.volume told.0.0 c.in_ok-volume.volume.now c.active.result.now c.active.ensures told.1 c.args.at.block c.in_ok-spot.spot at (not_held _ _ _ c.in_err-slot.ensures.0))

pub returns : goal.returns
returns c =
    let a = c.args.self.now in
    let x = c.in_ok-volume.volume.now in
    let told = c.in_ok-volume.ensures in
    let there : c.find_spot.result ≡ Some c.in_ok-spot.spot = grind arith in
    let at = MatchOption-at_some (blocks_in c.active.result.now ≤ c.args.at.block) (SpotAt c.active.result.now c.args.at.block) c.in_ok-spot.spot there c.find_spot.ensures in (
      (told.0.0, (spot_below a c.args.at.volume told.0.0 x c.active.result.now c.active.ensures told.1 c.args.at.block c.in_ok-spot.spot at, tt)),
      found_at a c.args.at.volume told.0.0 x c.active.result.now c.active.ensures told.1 c.args.at.block c.in_ok-spot.spot at c.in_ok-slot.slot.now c.in_ok-slot.ensures.1,
    )
