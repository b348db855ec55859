use Rattle.std.proofs.Common.{◌≡◌, ◌+◌, Err, Result, sym, subst, rules}
use Rattle.std.proofs.lemmas.Result.{err_from_is_err_and}
use Rattle.bus.specs.declared.fault.BusFault.{BusFault}
use Rattle.bus.specs.Requests.{Writes}
use Rattle.group.specs.declared.fill.Stop.{Stop}
use Rattle.group.specs.Filling.{zeros, FillsOne}
use Rattle.group.proofs.Answering.{was_ok, was_err}
use Rattle.group.proofs.Filled.{filled_more, filled_stops}
use Rattle.group.proofs.fill.fill_extent.Goals as goal

pub loop-row-preserved : goal.loop-row-preserved
loop-row-preserved g c =
    let s = g.B.Bus.drives c.loop-row.bus in
    let n = g.B.Bus.drives c.write.new.self in
    let e = c.args.e in
    let k = c.loop-row.row-counter in
    filled_more (g.B.Bus.drives c.args.bus.now) s n e k c.loop-row-test.true c.loop-row.invariant
    (subst (λ (x : Result (Unit {0}) BusFault). Writes s n e.drive (e.start + k) zeros x) (was_ok c.write.result c.map_err.result _ c.map_err.ensures.cases _ c.in_ok-map_err.was) c.write.ensures)

pub returns-in_err-map_err : goal.returns-in_err-map_err
returns-in_err-map_err g c =
    let s = g.B.Bus.drives c.loop-row.bus in
    let n = g.B.Bus.drives c.write.new.self in
    let e = c.args.e in
    let k = c.loop-row.row-counter in
    let p = was_err c.write.result c.map_err.result _ c.map_err.ensures.cases _ c.in_err-map_err.was in
    let made = p.2 in
    let is : c.in_err-map_err.field-0.0 ≡ record { row = k; fault = p.0 } = search rules in
    let out = err_from_is_err_and c.from_residual.result c.from_residual.ensures.1 in
    rw (out.1, out.2)
    (subst (λ (x : Stop). FillsOne {U = Unit {0}} (g.B.Bus.drives c.args.bus.now) n e (Err x)) (sym is)
    (filled_stops (g.B.Bus.drives c.args.bus.now) s n e k c.loop-row-test.true c.loop-row.invariant p.0
    (subst (λ (x : Result (Unit {0}) BusFault). Writes s n e.drive (e.start + k) zeros x) p.1 c.write.ensures)))
