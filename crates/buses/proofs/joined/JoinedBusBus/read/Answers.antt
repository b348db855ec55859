use Rattle.std.proofs.Common.{length, refl, rules}
use Rattle.bus.proofs.Worsening.{reads_worsen}
use Rattle.buses.specs.Joined.{joined}
use Rattle.buses.proofs.Joining.{reads_part, reads_named, renamed_by, first_part, second_part, neither, fails_below}
use Rattle.buses.proofs.joined.JoinedBusBus.read.Goals as goal

pub returns-in-Some-First : goal.returns-in-Some-First
returns-in-Some-First g c =
    let s = g.A.Bus.drives c.args.self.now.first in
    let t = g.B.Bus.drives c.args.self.now.second in
    let u = g.A.Bus.drives c.read.new.self in
    let at = c.args.at in
    let lies = rw c.in-Some-First.field-0-is at c.in-Some-First.ensures in
    record {
      reads = reads_part (λ v. joined v t) s u at.drive at.drive (first_part s t at.drive lies.0 lies.1) at.block c.args.buf.now c.read.new.buf c.read.result c.read.result
          (reads_named s u at.drive at.block c.args.buf.now c.read.new.buf c.read.result c.read.ensures) c.read.ensures;
      fails = fails_below s t u t (reads_worsen s u at.drive at.block c.args.buf.now c.read.new.buf c.read.result c.read.ensures).count refl;
    }

pub returns-in-Some-Second : goal.returns-in-Some-Second
returns-in-Some-Second g c =
    let s = g.A.Bus.drives c.args.self.now.first in
    let t = g.B.Bus.drives c.args.self.now.second in
    let u = g.B.Bus.drives c.read-read.new.self in
    let at = c.args.at in
    let e = c.in-Some-Second.e in
    let lies = rw c.in-Some-Second.field-0-is at c.in-Some-Second.ensures in
    record {
      reads = reads_part (λ v. joined s v) t u at.drive e (second_part s t at.drive lies.0 e lies.1) at.block c.args.buf.now c.read-read.new.buf c.read-read.result c.map_err.result (renamed_by at.drive _ (λ i j q. search rules) c.read-read.result c.map_err.result c.map_err.ensures.cases) c.read-read.ensures;
      fails = fails_below s t s u refl (reads_worsen t u e at.block c.args.buf.now c.read-read.new.buf c.read-read.result c.read-read.ensures).count;
    }

pub returns-in-None : goal.returns-in-None
returns-in-None g c =
    let s = g.A.Bus.drives c.args.self.now.first in
    let t = g.B.Bus.drives c.args.self.now.second in
    record {
      reads = (refl, neither s t c.args.at.drive c.args.at.block (length c.args.buf.now) c.in-None.ensures);
      fails = fails_below s t s t refl refl;
    }
