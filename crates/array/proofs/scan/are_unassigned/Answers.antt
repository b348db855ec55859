use Rattle.std.proofs.Common.{ℕ, ◌<◌, length, None, rules}
use borrow.Author.Tests.{tests}
use Rattle.std.proofs.lemmas.Iterator.{YieldsList-from_slice}
use Rattle.array.specs.declared.volume.Run.{Run}
use Rattle.array.specs.Configuration.{RunsOverlap, run}
use Rattle.array.proofs.Chains.{all_by_index}
use Rattle.array.proofs.Runs.{NoneOf, no_such_run}
use Rattle.array.proofs.scan.are_unassigned.Goals as goal

pub returns : goal.returns
returns c =
    let rs = c.args.runs.now in
    let Met = λ (s : Run). (i : ℕ) × (i < length rs) × RunsOverlap (run rs i) s in
    let none =
    no_such_run Met c.all.result c.args.volumes.now
    (all_by_index (NoneOf Met) None _ _ _ c.all.ensures.ran (YieldsList-from_slice c.args.volumes.now cc) (λ x q k. search (rules, tests)) (λ x q k. search (rules, tests))) in
    (λ t i h v j has o. none.0 t v j has (i, h, o), λ each. none.1 (λ v j has met. each met.0 met.1 v j has met.2))
