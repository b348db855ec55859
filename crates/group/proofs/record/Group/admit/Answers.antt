use Rattle.std.proofs.Common.{◌<◌, Result, sym, ◌∙◌, subst, arith}
use Rattle.layout.specs.Places.{PlaceOf, protected}
use Rattle.layout.specs.Refusals.{Answered}
use Rattle.layout.specs.declared.geometry.Place.{Place}
use Rattle.layout.specs.declared.refusal.Refusal.{Refusal}
use Rattle.layout.specs.declared.refusal.Refusal.TheVariants.{Outside}
use Rattle.group.specs.Record.{width_of, Lies}
use Rattle.group.proofs.Answering.{was_ok}
use Rattle.group.proofs.record.Group.admit.Goals as goal

pub returns-then-not-lies : goal.returns-then-not-lies
returns-then-not-lies g c =
    let k = g.M.Method in
    let group = c.args.self.now in
    let told = was_ok c.locate.result c.map_err.result _ c.map_err.ensures.cases _ c.in_ok-place.was in
    let here = subst (λ (v : Result Place Refusal). Answered (c.args.q < protected k (width_of group) group.geometry.rows) (PlaceOf k (width_of group) group.geometry.depth group.geometry.rows c.args.q) Outside v) told c.locate.ensures.place in
    (omega arith, omega arith, λ a r. c.if-not-lies.ensures (subst (λ v. Lies (g.B.Bus.drives c.args.bus.now) group v) (r.place.row ∙ sym here.1.row) r.lies))
