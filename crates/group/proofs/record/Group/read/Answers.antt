use Rattle.std.proofs.Common.{◌≡◌, Ok, Err, Result, List, ℕ, sym, subst, rules}
use Rattle.std.proofs.lemmas.Result.{err_from_is_err_and}
use Rattle.group.specs.declared.fault.RowFault.{RowFault}
use Rattle.group.specs.declared.fault.GroupFault.{GroupFault}
use Rattle.group.specs.Record.{members_of, raised, Reads}
use Rattle.group.specs.Requests.{RowRead}
use Rattle.group.proofs.Answering.{was_ok, was_err}
use Rattle.group.proofs.Recording.{read_ok, read_refused, told_at}
use Rattle.group.proofs.record.Group.read.Given.{Over}
use Rattle.group.proofs.record.Group.read.Goals as goal
use Rattle.group.proofs.record.Group.read.Goals.{After-read}

-- what is told of the row, at its place and at the answer x
row_read : (g : Over) (c : After-read g) (x : Result (List ℕ) RowFault) → c.read.result ≡ x →
    RowRead g.M.Method (g.B.Bus.drives c.args.bus.now) (g.B.Bus.drives c.read.new.bus) c.in_ok-place.place.strip c.in_ok-place.place.row c.in_ok-place.place.slot x (members_of c.args.self.now)
row_read g c x is =
    let a = c.in_ok-place.place in
    let told = c.read.ensures in
    told_at (λ t r gs y. RowRead g.M.Method (g.B.Bus.drives c.args.bus.now) (g.B.Bus.drives c.read.new.bus) t r a.slot y gs) _ a.strip _ a.row _ _ _ x
    c.row-row.ensures.strip c.row-row.ensures.row c.row-row.ensures.members is
    (record { frame = told.frame; settled = told.settled; first = told.first; keeps = told.keeps; gives = told.gives })

pub returns : goal.returns
returns g c =
    let is = was_ok c.read.result c.map_err.result _ c.map_err.ensures.cases _ c.in_ok-block.was in (
      c.in_ok-place.place,
      read_ok g.M.Method g.met.M.Method.sound (g.B.Bus.drives c.args.bus.now) (g.B.Bus.drives c.read.new.bus) c.args.self.now c.args.self.now.eight c.args.q c.args.buf.now c.in_ok-place.place c.in_ok-place.ensures
          c.put_front.new.buf c.in_ok-block.block (row_read g (goal.at.returns g c).After-read (Ok c.in_ok-block.block) is) c.put_front.ensures,
    )

pub returns-in_err-block : goal.returns-in_err-block
returns-in_err-block g c =
    let p = was_err c.read.result c.map_err.result _ c.map_err.ensures.cases _ c.in_err-block.was in
    let made = p.2 in
    let is : c.in_err-block.field-0.0 ≡ raised c.args.self.now p.0 = search rules in
    let out = err_from_is_err_and c.from_residual-in_err-block.result c.from_residual-in_err-block.ensures.1 in
    rw (out.1, out.2)
    (subst (λ (x : GroupFault). Reads {U = Unit {0}} g.M.Method (g.B.Bus.drives c.args.bus.now) (g.B.Bus.drives c.read.new.bus) c.args.self.now c.args.q c.args.buf.now c.args.buf.now (Err x)) (sym is)
    (read_refused g.M.Method g.met.M.Method.sound (g.B.Bus.drives c.args.bus.now) (g.B.Bus.drives c.read.new.bus) c.args.self.now c.args.self.now.eight c.args.q c.args.buf.now c.in_ok-place.place c.in_ok-place.ensures
    (Unit {0}) p.0 (row_read g (goal.at.returns-in_err-block g c).After-read (Err p.0) p.1)))
