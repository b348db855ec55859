use Rattle.std.proofs.Common.{◌≡◌, ℕ, ◌<◌, List, [], length, get_or, refl, arith}
use Rattle.group.specs.Group.{member, Frame, Ours, NoBlock, Its}
use Rattle.group.proofs.Frames.{one_member, frame_trans, frame_wider}
use Rattle.group.proofs.Holding.{holds_read, known_row}
use Rattle.group.proofs.rows.Row.read.Goals as goal
use Rattle.group.proofs.rows.Row.read.Given.{Over}
use Rattle.group.proofs.rows.Row.read.Goals.{After-fetch}

-- what trying the home first changes
tried : (g : Over) (c : After-fetch g) → Frame (g.B.Bus.drives c.args.bus.now) (g.B.Bus.drives c.fetch.new.bus) (Ours c.args.self.now.members.now) NoBlock
tried g c =
    let k = g.M.Method in
    let row = c.args.self.now in
    let gs = row.members.now in
    let i = c.home-home.result in
    let inside : i < length gs = omega (arith, c.home-home.ensures, g.met.M.Method.sound.inside (length gs) row.strip c.args.p (one_member k g.met.M.Method.sound row.enough) row.few c.requires.user) in
    frame_wider _ _ (Its (member gs i)) (Ours gs) NoBlock NoBlock (λ d e. (i, inside, e)) (λ d b x. x) c.fetch.ensures.frame

pub returns-in-Some-clause-keeps : goal.returns-in-Some-clause-keeps
returns-in-Some-clause-keeps g c = λ us u.
    holds_read g.M.Method c.args.self.now.strip c.args.self.now.row c.args.self.now.members.now _ _ us (tried g (goal.at.returns-in-Some-clause-keeps g c).After-fetch)

pub returns-clause-keeps : goal.returns-clause-keeps
returns-clause-keeps g c = λ us u.
    holds_read g.M.Method c.args.self.now.strip c.args.self.now.row c.args.self.now.members.now _ _ us
    (frame_trans _ _ _ (Ours c.args.self.now.members.now) NoBlock (tried g (goal.at.returns-clause-keeps g c).After-fetch) c.gather.ensures.frame)

pub returns-clause-gives : goal.returns-clause-gives
returns-clause-gives g c = λ us u h.
    let k = g.M.Method in
    let row = c.args.self.now in
    let gs = row.members.now in
    let known = c.in-Some-gather.known in
    let ps = known.parts in
    let told = c.in-Some-gather.ensures.answer in
    known_row k row.strip row.row gs (λ (l t : ℕ) (vs : List (List ℕ)). c.user.result.now ≡ get_or vs c.args.p []) ps.unread.now ps.blocks.now (length ps.blocks.now) ps.strip told.0 told.1 _ _ told.2
    known.enough refl c.user.ensures us u
    (holds_read k row.strip row.row gs _ _ us (tried g (goal.at.returns-clause-gives g c).After-fetch) h)

pub returns-clause-frame : goal.returns-clause-frame
returns-clause-frame g c = frame_trans _ _ _ (Ours c.args.self.now.members.now) NoBlock (tried g (goal.at.returns-clause-frame g c).After-fetch) c.gather.ensures.frame
