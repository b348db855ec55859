use Rattle.std.proofs.Common.{◌≡◌, None, rules}
use borrow.Author.Tests.{tests}
use Rattle.std.proofs.lemmas.Iterator.{YieldsList-from_slice}
use Rattle.array.proofs.Chains.{all_by_index}
use Rattle.array.proofs.Runs.{NoneOf, no_such_run}
use Rattle.array.proofs.scan.is_unused.Goals as goal

pub returns : goal.returns
returns c =
    no_such_run (λ r. r.group ≡ c.args.g) c.all.result c.args.volumes.now
    (all_by_index (NoneOf (λ r. r.group ≡ c.args.g)) None _ _ _ c.all.ensures.ran (YieldsList-from_slice c.args.volumes.now cc) (λ x q k. search (rules, tests)) (λ x q k. search (rules, tests)))
