use Rattle.std.proofs.Common.{◌≡◌, ◌<◌, Option, None, Some, MatchOption, length, sym, subst, arith}
use Rattle.group.specs.Sweeps.{Gathered}
use Rattle.layout.specs.Blocks.{missing_count}
use Rattle.group.proofs.Holding.{lost_since}
use Rattle.group.proofs.Gathering.{gathers_skip, gathers_all}
use Rattle.group.proofs.rows.Row.gather.Goals as goal
use Rattle.group.proofs.rows.Row.gather.Goals.{else-loop-i-test, then-loop-i-test+then-unread-tolerance}

-- what is told of each answer, told otherwise
otherwise : {K : Type 0} (x : Option K) (N A : Type 0) (Y B : K → Type 0) → (N → A) → ((k : K) → Y k → B k) → MatchOption x N Y → MatchOption x A B
otherwise None N A Y B none some h = none h
otherwise (Some k) N A Y B none some h = some k h

pub returns-clause-answer : goal.returns-clause-answer
returns-clause-answer g c =
    let tolerance = g.M.Method.tolerance in
    let st = c.tolerance-tolerance.result in
    let m = g.B.Bus.drives c.args.bus.now in
    let n = g.B.Bus.drives c.loop-i.bus in
    let row = c.args.self.now in
    let gs = row.members.now in
    let ps = c.loop-i.parts in
    let o = ps.unread.now in
    let bs = ps.blocks.now in
    let a = c.loop-i.invariant in
    let long : length o ≡ length gs = omega (arith, ps.marked, a.count) in
    let at_end : Gathered st m n row.row gs o bs =
    elim c.loop-i-test.branch [
      | else-loop-i-test w ↦ gathers_all st m row.row gs c.loop-i.i n o bs (omega (arith, w.loop-i-test.false)) long a.gathers
      | then-loop-i-test+then-unread-tolerance w ↦
          gathers_all st m row.row gs (length gs) n o bs (omega arith) long (gathers_skip st m row.row gs c.loop-i.i (length gs) n o bs (omega (arith, w.loop-i-test.true)) (omega (arith, w.if-unread-tolerance.true, w.unread.ensures)) a.gathers)
    ] in
    let got : Gathered (tolerance (length gs)) m n row.row gs o bs = subst (λ v. Gathered v m n row.row gs o bs) c.tolerance-tolerance.ensures at_end in
    otherwise c.known.result _ _ _ _
    (λ l. lost_since (tolerance (length gs)) m n row.row gs o bs got (subst (λ v. tolerance v < missing_count o) a.count l))
    (λ k e. subst (λ v. (length v.blocks.now ≡ length gs) × (v.strip ≡ row.strip) × Gathered (tolerance (length gs)) m n row.row gs v.unread.now v.blocks.now) (sym e) (a.count, a.strip, got))
    c.known.ensures
