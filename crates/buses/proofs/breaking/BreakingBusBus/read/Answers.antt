use Rattle.std.proofs.Common.{length, sym, refl, ap, subst}
use Rattle.std.proofs.lemmas.Result.{err_from_is_err_and}
use Rattle.bus.specs.Requests.{Faults, Reads}
use Rattle.buses.specs.Breaking.{marked, FailsAsTold}
use Rattle.buses.proofs.Marking.{held_back, fails_stopped, fails_through, reads_marked}
use Rattle.buses.proofs.breaking.BreakingBusBus.read.Goals as goal

pub returns-in_err-access-clause-reads : goal.returns-in_err-access-clause-reads
returns-in_err-access-clause-reads g c =
    let k = c.args.self.now in
    let s = g.B.Bus.drives k.below in
    let ms = c.access.new.self.left in
    let at = c.args.at in
    let len = length c.args.buf.now in
    let e = sym (ap g.B.Bus.drives c.in_err-access.ensures.below) in
    let f = c.in_err-access.field-0.0 in
    let p = err_from_is_err_and c.from_residual.result c.from_residual.ensures.1 in
    rw (p.1, p.2) (refl, subst (λ v. Faults (marked s k.left) (marked v ms) at.drive at.block len f) e (held_back s k.left ms at.drive at.block len f c.in_err-access.ensures.stops))

pub returns-in_err-access-clause-fails : goal.returns-in_err-access-clause-fails
returns-in_err-access-clause-fails g c =
    let k = c.args.self.now in
    let s = g.B.Bus.drives k.below in
    let ms = c.access.new.self.left in
    let at = c.args.at in
    let e = sym (ap g.B.Bus.drives c.in_err-access.ensures.below) in
    let f = c.in_err-access.field-0.0 in
    subst (λ v. FailsAsTold s v k.left ms at.drive) e (fails_stopped s k.left ms at.drive at.block (length c.args.buf.now) f c.in_err-access.ensures.stops)

pub returns-clause-reads : goal.returns-clause-reads
returns-clause-reads g c =
    let k = c.args.self.now in
    let s = g.B.Bus.drives k.below in
    let t = g.B.Bus.drives c.read.new.self in
    let at = c.args.at in
    let e = ap g.B.Bus.drives c.in_ok-access.ensures.below in
    reads_marked s t k.left c.access.new.self.left at.drive at.block c.args.buf.now c.read.new.buf c.read.result c.in_ok-access.ensures.stops
    (subst (λ v. Reads v t at.drive at.block c.args.buf.now c.read.new.buf c.read.result) e c.read.ensures)

pub returns-clause-fails : goal.returns-clause-fails
returns-clause-fails g c =
    let k = c.args.self.now in
    let s = g.B.Bus.drives k.below in
    let t = g.B.Bus.drives c.read.new.self in
    let at = c.args.at in
    fails_through s k.left c.access.new.self.left at.drive at.block (length c.args.buf.now) t c.in_ok-access.ensures.stops
