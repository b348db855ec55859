use Rattle.group.proofs.Filled.{FilledMembers}
use Rattle.group.proofs.fill.fill.Given as goal

abbrev pub invariant-loop-member : goal.invariant-loop-member
invariant-loop-member g l = FilledMembers (g.B.Bus.drives l.initial.bus) (g.B.Bus.drives l.bus) l.extents l.member-counter
