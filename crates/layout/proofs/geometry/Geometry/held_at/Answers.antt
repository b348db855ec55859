use Rattle.std.proofs.Common.{◌≡◌, ◌+◌, ◌*◌, ◌%◌, option_map, rules, arith}
use Rattle.layout.proofs.PlaceLaws.{held_map}
use Rattle.layout.proofs.geometry.Geometry.held_at.Goals as goal

pub returns : goal.returns
returns g c =
    let v = c.args.self.now in
    let t = c.strip_of-strip.result in
    let w = c.width_of.result in
    let p = c.slot_at-slot.result in
    let e : c.map.result ≡ option_map (λ s. t * (v.depth * w) + (s * v.depth + c.args.row % v.depth)) p = search rules in (
      (omega arith, omega arith),
      rw e (held_map g.M.Method g.met.M.Method.sound v.members v.depth v.rows (omega arith) (omega arith) (omega arith) (omega arith)
          c.args.member c.args.row p t w (omega arith) c.strip_of-strip.ensures c.width_of.ensures c.slot_at-slot.ensures),
    )
