use Rattle.std.proofs.Common.{map, vec_items, ap, arith}
use Rattle.controller.specs.Runs.{logged}
use Rattle.controller.proofs.Running.{run_new, calls_more, run_more, run_all}
use Rattle.controller.proofs.run.run.Goals as goal

pub loop-request-init : goal.loop-request-init
loop-request-init g c =
    let m = c.in_ok-log.ensures in
    (m.len, omega arith, m.capacity, ap (map logged) m.items, run_new (g.B.Bus.drives c.args.bus.now) c.new-array.result (vec_items c.in_ok-log.log) m.items c.new-array.ensures)

pub loop-request-preserved : goal.loop-request-preserved
loop-request-preserved g c =
    let i = c.loop-request.invariant in
    let t = c.in_ok-event.ensures.turned in
    let log = vec_items c.loop-request.log in
    let more = vec_items c.push_reserved.new.self in (
      omega (arith, c.push_reserved.ensures.len, i.0),
      omega (arith, c.loop-request-test.true),
      omega (arith, c.push_reserved.ensures.capacity, i.2),
      calls_more log more c.in_ok-event.event c.push_reserved.ensures.items c.args.requests.now c.loop-request.request-index _ c.loop-request-test.true i.3 t.question,
      run_more log more c.in_ok-event.event c.push_reserved.ensures.items
          (g.B.Bus.drives c.args.bus.now) c.loop-request.array c.turn.new.array (g.B.Bus.drives c.loop-request.bus) (g.B.Bus.drives c.between.new.bus) (g.B.Bus.drives c.turn.new.bus)
          i.4 c.between.ensures t.goes,
    )

pub returns : goal.returns
returns g c =
    let i = c.loop-request.invariant in
    run_all (g.B.Bus.drives c.args.bus.now) (g.B.Bus.drives c.loop-request.bus) c.args.requests.now c.loop-request.request-index (vec_items c.loop-request.log) c.loop-request.array
    c.loop-request-test.false i.3 i.4
