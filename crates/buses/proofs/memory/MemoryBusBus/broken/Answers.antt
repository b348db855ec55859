use Rattle.std.proofs.Common.{length, sym, ap, ◌∙◌, ⊎_elim, arith}
use Rattle.std.proofs.lemmas.Bool.{cases_lt, le-leb, lt-leb}
use Rattle.buses.specs.Fitting.{fitting}
use Rattle.buses.specs.Images.{working_is, at_beyond}
use Rattle.buses.proofs.memory.MemoryBusBus.broken.Goals as goal

pub returns : goal.returns
returns c =
    let m = c.args.self.now in
    let d = c.args.d in
    let n = c.present.result in
    ⊎_elim
    (λ h. lt-leb n d h ∙ sym (working_is m.bytes.now (fitting (length m.bytes.now) m.drives.number m.drives.capacity) m.drives.capacity d (omega arith)))
    (λ h. le-leb n d h ∙ sym (ap (λ v. v.broken) (at_beyond m.bytes.now (fitting (length m.bytes.now) m.drives.number m.drives.capacity) m.drives.capacity d (omega arith))))
    (cases_lt d n)
