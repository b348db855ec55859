use Rattle.std.proofs.Common.{◌<◌, arith}
use Rattle.layout.specs.Places.{protected}
use Rattle.layout.proofs.PlaceLaws.{place_of, one_place_each}
use Rattle.layout.proofs.geometry.Geometry.locate.Goals as goal

pub returns-then-q-protected_blocks-clause-each : goal.returns-then-q-protected_blocks-clause-each
returns-then-q-protected_blocks-clause-each g c =
    let v = c.args.self.now in
    one_place_each g.M.Method g.met.M.Method.sound v.members v.depth v.rows (omega arith) (omega arith) (omega arith) (omega arith)

pub returns-clause-place : goal.returns-clause-place
returns-clause-place g c =
    let m = g.M.Method in
    let v = c.args.self.now in
    let lt : c.args.q < protected m v.members v.rows = omega arith in (
      lt,
      place_of m g.met.M.Method.sound v.members v.depth v.rows (omega arith) (omega arith) (omega arith) (omega arith)
          c.args.q c.width_of-width.result c.home_of.result lt c.width_of-width.ensures c.home_of.ensures,
    )

pub returns-clause-each : goal.returns-clause-each
returns-clause-each g c =
    let v = c.args.self.now in
    one_place_each g.M.Method g.met.M.Method.sound v.members v.depth v.rows (omega arith) (omega arith) (omega arith) (omega arith)
