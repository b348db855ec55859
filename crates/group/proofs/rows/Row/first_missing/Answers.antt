use Rattle.std.proofs.Common.{◌≡◌, true, false, rules, tests}
use Rattle.std.proofs.lemmas.Iterator.{IsFirst-from_position, YieldsList-from_slice}
use Rattle.group.specs.Group.{missing}
use Rattle.group.proofs.Counts.{first_gone}
use Rattle.group.proofs.rows.Row.first_missing.Goals as goal

pub returns : goal.returns
returns g c =
    let m = g.B.Bus.drives c.args.bus.now in
    first_gone m c.args.self.now.row c.args.self.now.members.now c.position.result
    (IsFirst-from_position _ _ _ (λ v. missing m c.args.self.now.row v ≡ true) (λ v. missing m c.args.self.now.row v ≡ false) c.position.ensures.ran (YieldsList-from_slice c.args.self.now.members.now cc)
    (λ x q k. search (rules, tests)) (λ x q k. search (rules, tests)))
