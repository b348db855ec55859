use Rattle.std.proofs.Common.{◌≡◌, ℕ, List, length, set, refl}
use Rattle.layout.specs.Blocks.{Whole}
use Rattle.group.specs.Group.{Ours, NoBlock}
use Rattle.group.proofs.Holding.{shape_still, holds_read, known_row, holds_sent, holds_spread}
use Rattle.group.proofs.rows.Row.rewrite.Goals as goal

pub returns-in-None-clause-holds : goal.returns-in-None-clause-holds
returns-in-None-clause-holds g c = λ us u h.
    let k = g.M.Method in
    let row = c.args.self.now in
    let gs = row.members.now in
    let m = g.B.Bus.drives c.args.bus.now in
    let a = g.B.Bus.drives c.gather.new.bus in
    let read = c.gather.ensures.frame in
    holds_sent k row.strip row.row gs g.met.M.Method.sound row.enough row.few c.args.p c.requires.user us u c.args.new.now a (g.B.Bus.drives c.send.new.bus) c.home-home.result c.home-home.ensures
    (shape_still m a row.row gs (Ours gs) NoBlock read c.requires.shape)
    (holds_read k row.strip row.row gs m a us read h) c.in-None.ensures.answer c.send.ensures

pub returns-in-Some-clause-holds : goal.returns-in-Some-clause-holds
returns-in-Some-clause-holds g c = λ us u h.
    let k = g.M.Method in
    let row = c.args.self.now in
    let gs = row.members.now in
    let p = c.args.p in
    let new = c.args.new.now in
    let m = g.B.Bus.drives c.args.bus.now in
    let a = g.B.Bus.drives c.gather.new.bus in
    let known = c.in-Some.known in
    let ps = known.parts in
    let told = c.in-Some.ensures.answer in
    let w : Whole new = record { long = c.told-new; bytes = c.fits-new } in
    holds_spread k row.strip row.row gs g.met.M.Method.sound row.enough row.few p c.requires.user us u new a (g.B.Bus.drives c.spread.new.bus) c.replaced.result.now c.home-home.result c.home-home.ensures w
    (holds_read k row.strip row.row gs m a us c.gather.ensures.frame h)
    (known_row k row.strip row.row gs (λ (l t : ℕ) (vs : List (List ℕ)). c.replaced.result.now ≡ k.row l t (set vs p new)) ps.unread.now ps.blocks.now (length ps.blocks.now) ps.strip told.0 told.1 m a told.2
    known.enough refl c.replaced.ensures.row us u h)
    c.spread.ensures
