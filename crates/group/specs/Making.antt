-- A group made from a list of plain extent rows.
use Rattle.std.specs.Prelude.{◌≡◌, ℕ, ◌+◌, ◌<◌, ◌≤◌, List, length, ◌≢◌}
use Rattle.layout.specs.declared.extent.ExtentRow.{ExtentRow}
use Rattle.layout.specs.declared.geometry.Geometry.{Geometry}
use Rattle.layout.specs.Extents.{Sound}
use Rattle.group.specs.declared.making.MoveRefusal.{MoveRefusal}
use Rattle.group.specs.declared.making.MoveRefusal.TheVariants.{NoMember, PastEnd, DriveTaken}
use Rattle.group.specs.declared.member.Member.{Member}
use Rattle.group.specs.Group.{member}
use Rattle.group.specs.Filling.{extent}

-- the member of an extent, whole up to its end
abbrev pub whole_member : ExtentRow → Member
whole_member e = record { drive = e.drive; start = e.start; mark = e.count }

-- the first k rows can be members of one group of l rows each: sound extents of l blocks, on different drives
pub record FitsTo (es : List ExtentRow) (l k : ℕ) : Type 0 where
  pub sound : (i : ℕ) → i < k → Sound (extent es i)
  pub equal : (i : ℕ) → i < k → (extent es i).count ≡ l
  pub apart : (i j : ℕ) → i < j → j < k → (extent es i).drive ≢ (extent es j).drive

-- as many as there are members, and all of them
pub record Fits (es : List ExtentRow) (g : Geometry) : Type 0 where
  pub many : length es ≡ g.members
  pub all : FitsTo es g.rows g.members

-- the first k members are those of the rows
abbrev pub MadeTo : List ExtentRow → List Member → ℕ → Type 0
MadeTo es ms k = (i : ℕ) → i < k → member ms i ≡ whole_member (extent es i)

-- member i may move to blocks from `start` on of drive d: the rows end in time, and no other member is on that drive
pub record Movable (n l : ℕ) (ms : List Member) (i d start : ℕ) : Type 0 where
  pub inside : i < n
  pub ends : start + l ≤ 65536
  pub apart : (j : ℕ) → j < n → (j ≢ i) → (member ms j).drive ≢ d

-- the first of the checks that failed: there is no member i, the rows would end too late, or another member is on drive d
abbrev pub Unmovable : ℕ → ℕ → List Member → ℕ → ℕ → ℕ → MoveRefusal → Type 0
Unmovable n l ms i d start NoMember = n ≤ i
Unmovable n l ms i d start PastEnd = (i < n) × (65536 < start + l)
Unmovable n l ms i d start DriveTaken = (i < n) × (start + l ≤ 65536) × (j : ℕ) × (j < n) × (j ≢ i) × ((member ms j).drive ≡ d)
