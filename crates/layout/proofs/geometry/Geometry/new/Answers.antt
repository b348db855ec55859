use Rattle.std.proofs.Common.{arith}
use Rattle.layout.proofs.Strips.{multiple_of}
use Rattle.layout.proofs.geometry.Geometry.new.Goals as goal

pub invariant_of-result : goal.invariant_of-result
invariant_of-result g c =
    let s = g.met.M.Method.sound in
    let f = c.in_ok-check.ensures.0 in
    record {
      some_members = omega (arith, s.least_some, f.least_members);
      few_members = f.most_members;
      some_depth = f.least_depth;
      small_depth = f.most_depth;
      some_rows = f.least_rows;
      few_rows = omega arith;
      whole_strips = multiple_of c.args.depth (g.M.Method.cycle c.args.members) c.args.rows f.multiple;
    }
