use Rattle.std.proofs.Common.{◌∙◌, rules, tests}
use Rattle.std.proofs.lemmas.Iterator.{YieldsList-from_slice}
use Rattle.std.proofs.lemmas.Iterator.Consumers.{YieldsList-from_filter, YieldsList-at, count_from_yields_List}
use Rattle.group.specs.Group.{missing}
use Rattle.group.proofs.Counts.{counted}
use Rattle.group.proofs.rows.Row.count_missing.Goals as goal

pub returns : goal.returns
returns g c =
    let gone = missing (g.B.Bus.drives c.args.bus.now) c.args.self.now.row in
    count_from_yields_List c.filter.result _ c.count.ensures.ran
    (YieldsList-from_filter _ gone (YieldsList-at c.filter.ensures.source (YieldsList-from_slice c.args.self.now.members.now cc)) c.filter.ensures.closure (λ x b q k. search (rules, tests)))
    ∙ counted gone c.args.self.now.members.now
