use Rattle.std.proofs.Common.{◌||◌, sym, ap, ◌∙◌}
use Rattle.buses.specs.Breaking.{gone, left_of, broken_marked}
use Rattle.buses.proofs.breaking.BreakingBusBus.broken.Goals as goal

pub returns-then-broken : goal.returns-then-broken
returns-then-broken g c =
    let k = c.args.self.now in
    c.if-broken.true
    ∙ ap (λ v. v || gone (left_of k.left c.args.d)) (sym c.if-broken.true ∙ c.broken.ensures)
    ∙ sym (broken_marked (g.B.Bus.drives k.below) k.left c.args.d)

pub returns-else-broken : goal.returns-else-broken
returns-else-broken g c =
    let k = c.args.self.now in
    c.is_gone.ensures
    ∙ ap gone c.left_of.ensures
    ∙ ap (λ v. v || gone (left_of k.left c.args.d)) (sym c.if-broken.false ∙ c.broken.ensures)
    ∙ sym (broken_marked (g.B.Bus.drives k.below) k.left c.args.d)
