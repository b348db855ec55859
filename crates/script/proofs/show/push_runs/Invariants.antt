use Rattle.std.proofs.Common.{◌≡◌, cond, [], ◌∷◌, ◌++◌, vec_items}
use Rattle.script.specs.Showing.{shown_runs, Extends}
use Rattle.script.proofs.Runs.{rest_shown}
use Rattle.script.proofs.show.push_runs.Given as goal

abbrev pub invariant-loop-run : goal.invariant-loop-run
invariant-loop-run l = record {
  left : vec_items l.out ++ rest_shown (cond l.first [] (32 ∷ [])) l.run-iterator.rest.now ≡ vec_items l.initial.out ++ shown_runs l.bytes;
  extends : Extends (vec_items l.initial.out) (vec_items l.out);
}
