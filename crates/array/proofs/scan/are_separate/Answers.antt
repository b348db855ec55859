use Rattle.std.proofs.Common.{rules}
use borrow.Author.Tests.{tests}
use Rattle.std.proofs.lemmas.Iterator.{YieldsList-from_slice}
use Rattle.std.proofs.lemmas.Iterator.Consumers.{YieldsList-from_enumerate}
use Rattle.array.specs.Configuration.{no_run}
use Rattle.array.proofs.Chains.{all_by_index}
use Rattle.array.proofs.Runs.{Apart, separate_by_index}
use Rattle.array.proofs.scan.are_separate.Goals as goal

pub returns : goal.returns
returns c =
    separate_by_index c.args.runs.now c.all.result
    (all_by_index (Apart c.args.runs.now) (0, no_run) _ _ _ c.all.ensures.ran (YieldsList-from_enumerate (YieldsList-from_slice c.args.runs.now (cc)) (cc)) (λ x q k. search (rules, tests)) (λ x q k. search (rules, tests)))
