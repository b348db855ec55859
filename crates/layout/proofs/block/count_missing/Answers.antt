use Rattle.std.proofs.Common.{rules}
use Rattle.std.proofs.iter.runs.Made.{chains}
use Rattle.layout.proofs.Found.{counted}
use Rattle.layout.proofs.block.count_missing.Goals as goal

pub returns : goal.returns
returns c = counted c.args.missing.now c.count.result (search (rules, chains))
