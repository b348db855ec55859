use Rattle.std.proofs.Common.{◌<◌, length, sym, refl, arith}
use Rattle.buses.proofs.Marking.{told_working, told_broken}
use Rattle.buses.proofs.breaking.BreakingBus.break_in.Goals as goal

pub returns-then-not-is_gone : goal.returns-then-not-is_gone
returns-then-not-is_gone g c =
    let k = c.args.self.now in
    let h : c.args.d < length (g.B.Bus.drives k.below) = omega arith in
    record {
      told = told_working (g.B.Bus.drives k.below) k.left c.args.d c.args.n h (omega (arith, (g.met.B.Bus.sound k.below).few)) (sym c.if-not-is_gone.ensures);
      below = refl;
    }

pub returns-else-not-is_gone : goal.returns-else-not-is_gone
returns-else-not-is_gone g c =
    let k = c.args.self.now in
    let h : c.args.d < length (g.B.Bus.drives k.below) = omega arith in
    record {
      told = told_broken (g.B.Bus.drives k.below) k.left c.args.d c.args.n h (omega (arith, (g.met.B.Bus.sound k.below).few)) (sym c.if-not-is_gone.ensures);
      below = refl;
    }
