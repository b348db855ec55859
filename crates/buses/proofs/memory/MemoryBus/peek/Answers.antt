use Rattle.std.proofs.Common.{◌≡◌, ◌+◌, ◌-◌, length, take, drop, refl, ap, ◌∙◌, arith}
use Rattle.buses.proofs.Locating.{found_read}
use Rattle.buses.proofs.memory.MemoryBus.peek.Goals as goal

pub returns-clause-reads : goal.returns-clause-reads
returns-clause-reads c =
    let m = c.args.self.now in
    let a = c.in_ok-a.a in
    let size : a + 512 - a ≡ 512 = omega arith in
    found_read m.bytes.now m.drives.number m.drives.capacity c.args.at.drive c.args.at.block (length c.args.buf.now) a c.in_ok-a.ensures c.args.buf.now c.copy_from_slice.new.self refl
    (c.copy_from_slice.ensures.after ∙ ap (λ w. take w (drop a m.bytes.now)) size)
