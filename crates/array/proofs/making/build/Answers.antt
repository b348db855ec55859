use Rattle.std.proofs.Common.{ℕ, ◌≤◌, length, sym, ◌∙◌, subst}
use Rattle.layout.specs.Places.{Fits}
use Rattle.array.specs.Kinds.{method}
use Rattle.array.proofs.Building.{answered, rows_few, built}
use Rattle.array.proofs.making.build.Goals as goal

pub unwrap-geometry-requires : goal.unwrap-geometry-requires
unwrap-geometry-requires c =
    answered _ _ _ c.geometry.result
    (subst (λ (l : ℕ). Fits (method c.args.kind) (length c.args.extents.now) c.args.depth l) (sym c.rows_in.ensures) c.requires.0.fits)
    (subst (λ (l : ℕ). l ≤ 65536) (sym c.rows_in.ensures) (rows_few c.args.extents.now c.requires.0.fits.least_rows c.requires.1))
    c.geometry.ensures

pub returns : goal.returns
returns c =
    let new = c.in_ok-group.ensures in
    let told = rw c.unwrap-geometry.ensures at c.geometry.ensures in
    let shape = told.2 in
    built _ c.args.g c.args.depth c.args.extents.now c.unwrap-geometry.result c.requires.1 new.0 new.1 new.2 new.3 shape.1 (shape.2 ∙ c.rows_in.ensures)
