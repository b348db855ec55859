use Rattle.std.proofs.Common.{◌≡◌, length}
use Rattle.group.proofs.Gathering.{Gathers}
use Rattle.group.proofs.rows.Row.gather.Given as goal

abbrev pub invariant-loop-i : goal.invariant-loop-i
invariant-loop-i g l = record {
  count : length l.parts.blocks.now ≡ length l.self.members.now;
  strip : l.parts.strip ≡ l.self.strip;
  gathers : Gathers l.tolerance (g.B.Bus.drives l.initial.bus) l.self.row l.self.members.now l.i (g.B.Bus.drives l.bus) l.parts.unread.now l.parts.blocks.now;
}
