-- What an extent covers. Assumes nothing.
use Rattle.std.specs.Prelude.{◌≡◌, ℕ, ◌+◌, ◌<◌, ◌≤◌}
use Rattle.layout.specs.declared.extent.ExtentRow.{ExtentRow}

-- at least one block, and the end at or below 65,536
pub record Sound (e : ExtentRow) : Type 0 where
  pub some : 1 ≤ e.count
  pub ends : e.start + e.count ≤ 65536

-- block b of drive d lies in the extent
pub record Covers (e : ExtentRow) (d b : ℕ) : Type 0 where
  pub drive : d ≡ e.drive
  pub from : e.start ≤ b
  pub below : b < e.start + e.count

-- some block of one drive lies in both
abbrev pub Overlap : ExtentRow → ExtentRow → Type 0
Overlap e f = (d : ℕ) × (b : ℕ) × Covers e d b × Covers f d b
