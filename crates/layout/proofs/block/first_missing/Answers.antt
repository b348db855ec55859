use Rattle.std.proofs.Common.{rules}
use borrow.Author.Tests.{tests}
use Rattle.std.proofs.lemmas.Iterator.{YieldsList-from_slice}
use Rattle.std.proofs.lemmas.Iterator.Search.{position_from_yields_List}
use Rattle.layout.proofs.Found.{missing_found}
use Rattle.layout.proofs.block.first_missing.Goals as goal

pub returns : goal.returns
returns c =
    let xs = c.args.missing.now in
    missing_found xs c.position.result (position_from_yields_List (λ gone. gone) _ _ _ c.position.ensures.ran (YieldsList-from_slice xs cc) (λ x b q k. search (rules, tests)))
