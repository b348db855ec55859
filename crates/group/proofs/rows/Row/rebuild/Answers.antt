use Rattle.std.proofs.Common.{◌≡◌, ℕ, ◌≤◌, List, [], length, get_or, subst, refl}
use Rattle.layout.specs.Blocks.{missing_count}
use Rattle.group.specs.Group.{member, Frame, Ours, NoBlock, Its, ItsBlock}
use Rattle.group.proofs.Frames.{frame_trans, frame_wider}
use Rattle.group.proofs.Holding.{shape_still, fine_since, holds_read, known_row, holds_behind}
use Rattle.group.proofs.Deciding.{stored_frame, rebuilds_by}
use Rattle.group.proofs.rows.Row.rebuild.Goals as goal
use Rattle.group.proofs.rows.Row.rebuild.Given.{Over}
use Rattle.group.proofs.rows.Row.rebuild.Goals.{After-store}

-- what storing the block changes
wrote : (g : Over) (c : After-store g) → Frame (g.B.Bus.drives c.gather.new.bus) (g.B.Bus.drives c.store.new.bus) (Its (member c.args.self.now.members.now c.args.i)) (ItsBlock c.args.self.now.row (member c.args.self.now.members.now c.args.i))
wrote g c = stored_frame g.M.Method c.args.self.now.strip c.args.self.now.row c.args.self.now.members.now c.args.i (g.B.Bus.drives c.args.bus.now) _ _ c.block-block.result.now c.store.result c.store.ensures

pub returns-clause-frame : goal.returns-clause-frame
returns-clause-frame g c =
    let row = c.args.self.now in
    let gs = row.members.now in
    let i = c.args.i in
    let its = ItsBlock row.row (member gs i) in
    frame_trans _ _ _ (Ours gs) its
    (frame_wider _ _ (Ours gs) (Ours gs) NoBlock its (λ d x. x) (λ d b x. absurd x) c.gather.ensures.frame)
    (frame_wider _ _ (Its (member gs i)) (Ours gs) its its (λ d e. (i, c.requires.inside, e)) (λ d b x. x) (wrote g (goal.at.returns-clause-frame g c).After-store))

pub returns-clause-keeps : goal.returns-clause-keeps
returns-clause-keeps g c = λ us u h.
    let k = g.M.Method in
    let row = c.args.self.now in
    let gs = row.members.now in
    let read = c.gather.ensures.frame in
    holds_behind k row.strip row.row gs _ _ c.args.i c.requires.inside c.requires.behind (shape_still _ _ row.row gs (Ours gs) NoBlock read c.requires.shape) (wrote g (goal.at.returns-clause-keeps g c).After-store)
    g.met.M.Method.sound row.enough row.few us (holds_read k row.strip row.row gs _ _ us read h)

pub returns-clause-rebuilds : goal.returns-clause-rebuilds
returns-clause-rebuilds g c =
    let k = g.M.Method in
    let row = c.args.self.now in
    let gs = row.members.now in
    let i = c.args.i in
    let m = g.B.Bus.drives c.args.bus.now in
    let a = g.B.Bus.drives c.gather.new.bus in
    let b = c.block-block.result.now in
    let known = c.in-Some.known in
    let ps = known.parts in
    let told = c.in-Some.ensures.answer in
    let o = ps.unread.now in
    let bs = ps.blocks.now in
    rebuilds_by k row.strip row.row gs i m a (g.B.Bus.drives c.store.new.bus) b c.store.result c.requires.inside c.requires.behind
    (shape_still m a row.row gs (Ours gs) NoBlock c.gather.ensures.frame c.requires.shape)
    (fine_since (k.tolerance (length gs)) m a row.row gs o bs told.2 (subst (λ v. missing_count o ≤ k.tolerance v) told.0 known.enough))
    (known_row k row.strip row.row gs (λ (l t : ℕ) (vs : List (List ℕ)). b ≡ get_or (k.row l t vs) i []) o bs (length bs) ps.strip told.0 told.1 m a told.2
    known.enough refl c.block-block.ensures)
    c.store.ensures
