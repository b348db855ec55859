use Rattle.std.proofs.Common.{◌≡◌, cond, [], ◌∷◌, ◌++◌, eqb, length, get_or, vec_items, sym, ap, ◌∙◌, append-nil, rules}
use Rattle.std.specs.List.{IsChunkByPrefix}
use Rattle.std.proofs.lemmas.List.Sorted.{answers_always}
use Rattle.script.specs.Showing.{shown_run}
use Rattle.script.proofs.Writing.{extends_on, run_written}
use Rattle.script.proofs.show.push_runs.Goals as goal
use Rattle.script.proofs.show.push_runs.Goals.{then-not-first+in_ok-push, else-not-first}

pub loop-run-preserved : goal.loop-run-preserved
loop-run-preserved c =
    let left = c.loop-run.run-iterator.rest.now in
    let run = c.in-Some.run'.now in
    let parts = c.in-Some.ensures.steps in
    let chunk : IsChunkByPrefix eqb left (length run) = (parts.2 eqb (answers_always _ _ _ (λ f a r g h. search rules))).1 in
    let sep = cond c.loop-run.first [] (32 ∷ []) in
    let mid : vec_items c.if-not-first.out ≡ vec_items c.loop-run.out ++ sep = elim c.if-not-first.branch [
      | then-not-first+in_ok-push w ↦ ap vec_items w.out-is ∙ w.in_ok-push.ensures.items ∙ ap (λ b. vec_items c.loop-run.out ++ cond b [] (32 ∷ [])) (sym w.if-not-first.true)
      | else-not-first w ↦ ap vec_items w.out-is ∙ sym (append-nil (vec_items c.loop-run.out)) ∙ ap (λ b. vec_items c.loop-run.out ++ cond b [] (32 ∷ [])) (sym w.if-not-first.false)
    ] in
    record {
      left = run_written left run _ sep _ _ _ _ parts.0 parts.1 chunk c.loop-run.invariant.left mid c.in_ok-push_shown_run.ensures;
      extends = extends_on _ _ _ (extends_on _ _ _ c.loop-run.invariant.extends (sep, mid)) (shown_run (length run, get_or run 0 0), c.in_ok-push_shown_run.ensures);
    }
