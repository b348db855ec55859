use Rattle.group.proofs.Holding.{holds_elsewhere}
use Rattle.group.proofs.work.other_rows_hold.Goals as goal

pub returns : goal.returns
returns g c = holds_elsewhere g.M.Method g.met.M.Method.sound
