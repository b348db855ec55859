use Rattle.std.proofs.Common.{sym, ap, ◌∙◌}
use Rattle.buses.specs.Joined.{at_neither}
use Rattle.buses.proofs.Joining.{first_part, second_part}
use Rattle.buses.proofs.joined.JoinedBusBus.broken.Goals as goal

pub returns-in-Some-First : goal.returns-in-Some-First
returns-in-Some-First g c =
    let j = c.args.self.now in
    let lies = rw c.in-Some-First.field-0-is at c.in-Some-First.ensures in
    c.broken.ensures ∙ sym (ap (λ v. v.broken) (first_part (g.A.Bus.drives j.first) (g.B.Bus.drives j.second) c.args.d lies.0 lies.1).same)

pub returns-in-Some-Second : goal.returns-in-Some-Second
returns-in-Some-Second g c =
    let j = c.args.self.now in
    let lies = rw c.in-Some-Second.field-0-is at c.in-Some-Second.ensures in
    c.broken-in-Some-Second.ensures ∙ sym (ap (λ v. v.broken) (second_part (g.A.Bus.drives j.first) (g.B.Bus.drives j.second) c.args.d lies.0 c.in-Some-Second.e lies.1).same)

pub returns-in-None : goal.returns-in-None
returns-in-None g c =
    let j = c.args.self.now in
    sym (ap (λ v. v.broken) (at_neither (g.A.Bus.drives j.first) (g.B.Bus.drives j.second) c.args.d c.in-None.ensures))
