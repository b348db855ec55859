use Rattle.std.proofs.Common.{◌/◌, sym, refl, ap, ◌∙◌, subst, rules}
use Rattle.group.specs.Record.{raised, next_row, Rebuilds}
use Rattle.group.specs.Requests.{RowRebuild}
use Rattle.group.proofs.Answering.{is_mapped}
use Rattle.group.proofs.Recording.{rebuild_told, told_at}
use Rattle.group.proofs.record.Group.rebuild.Goals as goal

pub returns : goal.returns
returns g c =
    let told = c.rebuild.ensures in
    let group = c.args.self.now in
    let i = c.args.i in
    let is = c.in_ok-r.ensures.1 in
    let m = g.B.Bus.drives c.args.bus.now in
    let n = g.B.Bus.drives c.rebuild.new.bus in
    subst (λ v. Rebuilds {U = Unit {0}} g.M.Method m n group i v) (sym (is_mapped (raised group) c.rebuild.result c.map_err.result _ (λ e d made. search rules) c.map_err.ensures.cases))
    (rebuild_told g.M.Method m n group group.eight i c.in_ok-r.ensures.0 (Unit {0}) c.rebuild.result
    (told_at (λ t r gs y. RowRebuild g.M.Method m n t r i y gs) _ (next_row group i / group.geometry.depth) _ (next_row group i) _ _ _ c.rebuild.result
    (c.row-row.ensures.strip ∙ c.strip_of.ensures ∙ ap (λ v. v / group.geometry.depth) is) (c.row-row.ensures.row ∙ is) c.row-row.ensures.members refl
    (record { frame = told.frame; keeps = told.keeps; rebuilds = told.rebuilds })))
