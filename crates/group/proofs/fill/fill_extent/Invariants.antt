use Rattle.group.proofs.Filled.{FilledTo}
use Rattle.group.proofs.fill.fill_extent.Given as goal

abbrev pub invariant-loop-row : goal.invariant-loop-row
invariant-loop-row g l = FilledTo (g.B.Bus.drives l.initial.bus) (g.B.Bus.drives l.bus) l.e l.row-counter
