use Rattle.std.proofs.Common.{◌≡◌, Err, Result, sym, subst, rules}
use Rattle.std.proofs.lemmas.Result.{err_from_is_err_and}
use Rattle.group.specs.declared.fault.GroupFault.{GroupFault}
use Rattle.group.specs.declared.fault.GroupFault.TheVariants.{Failed}
use Rattle.group.specs.declared.fill.Stop.{Stop}
use Rattle.group.specs.Filling.{FillsOne, Fills, extent}
use Rattle.group.proofs.Answering.{was_ok, was_err}
use Rattle.group.proofs.Filled.{member_filled, member_stops}
use Rattle.group.proofs.fill.fill.Goals as goal

pub loop-member-preserved : goal.loop-member-preserved
loop-member-preserved g c =
    let s = g.B.Bus.drives c.loop-member.bus in
    let n = g.B.Bus.drives c.fill_extent.new.bus in
    let es = c.args.extents.now in
    let i = c.loop-member.member-counter in
    let told = subst (λ (x : Result (Unit {0}) Stop). FillsOne s n (extent es i) x) (was_ok c.fill_extent.result c.map_err.result _ c.map_err.ensures.cases _ c.in_ok-map_err.was) c.fill_extent.ensures in
    member_filled (g.B.Bus.drives c.args.bus.now) s n es i c.loop-member-test.true c.loop-member.invariant
    (c.if-not-sound_rows.ensures i c.loop-member-test.true) told.0 told.1

pub returns-in_err-map_err : goal.returns-in_err-map_err
returns-in_err-map_err g c =
    let p = was_err c.fill_extent.result c.map_err.result _ c.map_err.ensures.cases _ c.in_err-map_err.was in
    let m = g.B.Bus.drives c.args.bus.now in
    let s = g.B.Bus.drives c.loop-member.bus in
    let n = g.B.Bus.drives c.fill_extent.new.bus in
    let es = c.args.extents.now in
    let i = c.loop-member.member-counter in
    let made = p.2 in
    let is : c.in_err-map_err.field-0.0 ≡ Failed c.args.number p.0.row i p.0.fault = search rules in
    let out = err_from_is_err_and c.from_residual.result c.from_residual.ensures.1 in
    rw (out.1, out.2)
    (subst (λ (x : GroupFault). Fills {U = Unit {0}} m n es c.args.number (Err x)) (sym is)
    (member_stops m s n es i c.loop-member-test.true c.loop-member.invariant (Unit {0}) c.args.number p.0 c.if-not-sound_rows.ensures
    (subst (λ (x : Result (Unit {0}) Stop). FillsOne s n (extent es i) x) p.1 c.fill_extent.ensures)))
