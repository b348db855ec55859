use Rattle.std.proofs.Common.{length, refl, rules}
use Rattle.bus.proofs.Worsening.{writes_count}
use Rattle.buses.specs.Joined.{joined}
use Rattle.buses.proofs.Joining.{writes_part, writes_named, renamed_by, first_part, second_part, neither, fails_below}
use Rattle.buses.proofs.joined.JoinedBusBus.write.Goals as goal

pub returns-in-Some-First : goal.returns-in-Some-First
returns-in-Some-First g c =
    let s = g.A.Bus.drives c.args.self.now.first in
    let t = g.B.Bus.drives c.args.self.now.second in
    let u = g.A.Bus.drives c.write.new.self in
    let at = c.args.at in
    let lies = rw c.in-Some-First.field-0-is at c.in-Some-First.ensures in
    record {
      writes = writes_part (λ v. joined v t) s u at.drive at.drive (first_part s t at.drive lies.0 lies.1) at.block c.args.bytes.now c.write.result c.write.result
          (writes_named s u at.drive at.block c.args.bytes.now c.write.result c.write.ensures) c.write.ensures;
      fails = fails_below s t u t (writes_count s u at.drive at.block c.args.bytes.now c.write.result c.write.ensures) refl;
    }

pub returns-in-Some-Second : goal.returns-in-Some-Second
returns-in-Some-Second g c =
    let s = g.A.Bus.drives c.args.self.now.first in
    let t = g.B.Bus.drives c.args.self.now.second in
    let u = g.B.Bus.drives c.write-written.new.self in
    let at = c.args.at in
    let e = c.in-Some-Second.e in
    let lies = rw c.in-Some-Second.field-0-is at c.in-Some-Second.ensures in
    record {
      writes = writes_part (λ v. joined s v) t u at.drive e (second_part s t at.drive lies.0 e lies.1) at.block c.args.bytes.now c.write-written.result c.map_err.result (renamed_by at.drive _ (λ i j q. search rules) c.write-written.result c.map_err.result c.map_err.ensures.cases) c.write-written.ensures;
      fails = fails_below s t s u refl (writes_count t u e at.block c.args.bytes.now c.write-written.result c.write-written.ensures);
    }

pub returns-in-None : goal.returns-in-None
returns-in-None g c =
    let s = g.A.Bus.drives c.args.self.now.first in
    let t = g.B.Bus.drives c.args.self.now.second in
    record {
      writes = neither s t c.args.at.drive c.args.at.block (length c.args.bytes.now) c.in-None.ensures;
      fails = fails_below s t s t refl refl;
    }
