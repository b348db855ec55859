use Rattle.std.proofs.Common.{length}
use Rattle.group.specs.Sweeps.{concerned}
use Rattle.group.proofs.Spreading.{Spreads}
use Rattle.group.proofs.rows.Row.spread.Given as goal

abbrev pub invariant-loop-i : goal.invariant-loop-i
invariant-loop-i g l =
    Spreads (concerned (g.M.Method.check (length l.self.members.now) l.self.strip) l.home) (g.B.Bus.drives l.initial.bus) l.self.row l.self.members.now l.blocks l.i (g.B.Bus.drives l.bus)
