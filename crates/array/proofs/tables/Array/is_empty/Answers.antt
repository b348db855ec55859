use Rattle.std.proofs.Common.{◌≡◌, None, false, rules}
use borrow.Author.Tests.{tests}
use Rattle.std.proofs.lemmas.Iterator.{YieldsList-from_slice}
use Rattle.array.specs.Configuration.{group_view, is_some}
use Rattle.array.proofs.Chains.{all_by_index}
use Rattle.array.proofs.Vacancy.{none_named}
use Rattle.array.proofs.tables.Array.is_empty.Goals as goal

pub returns : goal.returns
returns c =
    none_named group_view c.all.result c.args.self.now.groups
    (all_by_index (λ o. is_some o ≡ false) None _ _ _ c.all.ensures.ran (YieldsList-from_slice c.args.self.now.groups cc) (λ x q k. search (rules, tests)) (λ x q k. search (rules, tests)))
