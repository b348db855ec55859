use Rattle.std.proofs.Common.{length, subst}
use Rattle.group.specs.Requests.{Settled}
use Rattle.group.proofs.Deciding.{changes}
use Rattle.group.proofs.rows.Row.write.Goals as goal

pub returns-clause-changes : goal.returns-clause-changes
returns-clause-changes g c =
    let k = g.M.Method in
    let row = c.args.self.now in
    let gs = row.members.now in
    let n = g.B.Bus.drives c.rewrite.new.bus in
    changes k row.strip row.row gs g.met.M.Method.sound row.enough row.few c.args.p c.requires.user c.args.new.now (g.B.Bus.drives c.args.bus.now) n c.rewrite.ensures.holds c.settle.result
    (subst (λ v. Settled (k.tolerance (length gs)) n row.row gs v c.settle.result) c.home.ensures c.settle.ensures)
