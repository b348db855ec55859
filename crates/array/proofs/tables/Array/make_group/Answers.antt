use Rattle.std.proofs.lemmas.Result.{err_from_is_err_and}
use Rattle.std.proofs.Common.{Some}
use Rattle.array.specs.Arrays.{config}
use Rattle.array.proofs.Keeping.{group_set}
use Rattle.array.proofs.Answering.{refused_by_plan, refused_by_fill, entered_filled, tables_entered}
use Rattle.array.proofs.tables.Array.make_group.Goals as goal

pub returns-in_err-slot : goal.returns-in_err-slot
returns-in_err-slot g c =
    let p = err_from_is_err_and c.from_residual.result c.from_residual.ensures.1 in
    rw (p.1, p.2)
    (refused_by_plan (Unit {0}) (g.B.Bus.drives c.args.bus.now) (config c.args.self.now) c.args.g c.args.code c.args.depth c.args.extents.now c.in_err-slot.field-0.0 c.in_err-slot.ensures)

pub returns-in_err-fill_group : goal.returns-in_err-fill_group
returns-in_err-fill_group g c =
    let p = err_from_is_err_and c.from_residual-in_err-fill_group.result c.from_residual-in_err-fill_group.ensures.1 in
    rw (p.1, p.2)
    (refused_by_fill c.in_ok-slot.slot c.in_ok-slot.ensures (Unit {0}) (g.B.Bus.drives c.fill_group.new.bus) c.in_err-fill_group.field-0.0 c.in_err-fill_group.ensures)

pub invariant_of-self : goal.invariant_of-self
invariant_of-self g c =
    tables_entered c.args.self.now (g.B.Bus.drives c.args.bus.now) c.args.g c.args.code c.args.depth c.args.extents.now c.in_ok-slot.slot c.in_ok-slot.ensures

pub returns : goal.returns
returns g c =
    entered_filled c.in_ok-slot.slot c.in_ok-slot.ensures (g.B.Bus.drives c.fill_group.new.bus) (tt {0}) _ c.in_ok-fill_group.ensures
    (group_set c.args.self.now.groups c.args.self.now.volumes c.args.g (Some c.in_ok-slot.slot))
