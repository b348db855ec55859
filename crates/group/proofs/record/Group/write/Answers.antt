use Rattle.std.proofs.Common.{sym, refl, subst, rules}
use Rattle.group.specs.Record.{raised, Writes}
use Rattle.group.specs.Requests.{RowWrite}
use Rattle.group.proofs.Answering.{is_mapped}
use Rattle.group.proofs.Recording.{write_told, told_at}
use Rattle.group.proofs.record.Group.write.Goals as goal

pub returns : goal.returns
returns g c =
    let a = c.in_ok-place.place in
    let told = c.write.ensures in
    let group = c.args.self.now in
    let m = g.B.Bus.drives c.args.bus.now in
    let n = g.B.Bus.drives c.write.new.bus in
    subst (λ v. Writes {U = Unit {0}} g.M.Method m n group c.args.q c.args.bytes.now v) (sym (is_mapped (raised group) c.write.result c.map_err.result _ (λ e d made. search rules) c.map_err.ensures.cases))
    (write_told g.M.Method g.met.M.Method.sound m n group group.eight c.args.q c.args.bytes.now a c.in_ok-place.ensures (Unit {0}) c.front-new.result c.write.result
    (told_at (λ t r gs y. RowWrite g.M.Method m n t r a.slot c.front-new.result y gs) _ a.strip _ a.row _ _ _ c.write.result c.row-row.ensures.strip c.row-row.ensures.row c.row-row.ensures.members refl
    (record { frame = told.frame; decided = told.decided; changes = told.changes }))
    c.front-new.ensures)
