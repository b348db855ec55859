use Rattle.std.proofs.Common.{length, refl, arith}
use Rattle.buses.proofs.Locating.{found_write, found_after}
use Rattle.buses.proofs.memory.MemoryBusBus.write.Goals as goal

pub returns : goal.returns
returns c =
    let m = c.args.self.now in
    record {
      writes = found_write m.bytes.now m.drives.number m.drives.capacity c.args.at.drive c.args.at.block (length c.args.bytes.now) c.in_ok-a.a c.in_ok-a.ensures c.copy_from_slice.new.self c.args.bytes.now _ refl (omega arith) c.copy_from_slice.ensures.after;
      unbroken = tt;
      after = found_after m.bytes.now m.drives.number m.drives.capacity c.args.at.drive c.args.at.block (length c.args.bytes.now) c.in_ok-a.a c.in_ok-a.ensures c.copy_from_slice.new.self c.args.bytes.now _ (omega arith) c.copy_from_slice.ensures.after;
      named = refl;
      drives = refl;
    }
