use Rattle.std.proofs.Common.{◌<◌, length, arith}
use Rattle.std.proofs.lemmas.Result.{err_from_is_err_and}
use Rattle.buses.specs.Fitting.{fitting}
use Rattle.buses.proofs.Locating.{refused, few_drives, small_drives, located}
use Rattle.buses.proofs.memory.MemoryBus.locate.Goals as goal

pub returns-in_err-reach : goal.returns-in_err-reach
returns-in_err-reach c =
    let m = c.args.self.now in
    let at = c.args.at in
    let p = err_from_is_err_and c.from_residual.result c.from_residual.ensures.1 in
    let no = rw c.present.ensures at c.in_err-reach.ensures in
    rw (p.1, p.2) (refused m.bytes.now m.drives.number m.drives.capacity at.drive at.block c.args.len c.in_err-reach.field-0.0 no)

pub start_of-requires-clause-few : goal.start_of-requires-clause-few
start_of-requires-clause-few c =
    let m = c.args.self.now in
    few_drives m.bytes.now m.drives.number m.drives.capacity c.args.at.drive c.args.at.block c.args.len (omega (arith, c.present.ensures, c.in_ok-reach.ensures.0))

pub start_of-requires-clause-small : goal.start_of-requires-clause-small
start_of-requires-clause-small c =
    let m = c.args.self.now in
    small_drives m.bytes.now m.drives.number m.drives.capacity c.args.at.drive c.args.at.block c.args.len (omega (arith, c.present.ensures, c.in_ok-reach.ensures.0))

pub returns : goal.returns
returns c =
    let m = c.args.self.now in
    let ok = c.in_ok-reach.ensures in
    let dn : c.args.at.drive < fitting (length m.bytes.now) m.drives.number m.drives.capacity = omega arith in
    located m.bytes.now m.drives.number m.drives.capacity c.args.at.drive c.args.at.block c.args.len dn c.start_of.result ok.1 ok.2 c.start_of.ensures.value
