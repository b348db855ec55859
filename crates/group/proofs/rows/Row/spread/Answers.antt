use Rattle.std.proofs.Common.{◌+◌, List, length, sym, ap, ◌∙◌, subst}
use Rattle.bus.specs.Drives.{Drive}
use Rattle.group.specs.Sweeps.{concerned}
use Rattle.group.proofs.Spreading.{Spreads, spreads_skip, spreads_send}
use Rattle.group.proofs.rows.Row.spread.Goals as goal
use Rattle.group.proofs.rows.Row.spread.Goals.{then-concerns, else-concerns}

pub loop-i-preserved : goal.loop-i-preserved
loop-i-preserved g c =
    let m = g.B.Bus.drives c.args.bus.now in
    let s = g.B.Bus.drives c.loop-i.bus in
    let r = c.args.self.now.row in
    let gs = c.args.self.now.members.now in
    let bs = c.args.blocks.now in
    let i = c.loop-i.i in
    let to = concerned (g.M.Method.check (length gs) c.args.self.now.strip) c.args.home in
    elim c.if-concerns.branch [
      | then-concerns w ↦
          subst (λ (x : List Drive). Spreads to m r gs bs (i + 1) x) (sym (ap g.B.Bus.drives w.bus-is))
          (spreads_send to m r gs bs c.requires.shape i s c.loop-i-test.true c.loop-i.invariant (g.B.Bus.drives w.send.new.bus) w.send.ensures (sym c.concerns.ensures ∙ w.if-concerns.true))
      | else-concerns w ↦
          subst (λ (x : List Drive). Spreads to m r gs bs (i + 1) x) (sym (ap g.B.Bus.drives w.bus-is))
          (spreads_skip to m r gs bs i s (sym c.concerns.ensures ∙ w.if-concerns.false) c.loop-i.invariant)
    ]
