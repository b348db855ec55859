-- What holds of the tables alone. Assumes nothing.
use Rattle.std.specs.Prelude.{◌≡◌, ℕ, ◌+◌, ◌%◌, ◌<◌, ◌≤◌, List, length, Some, None, Option, slice_index_or}
use Rattle.layout.specs.Extents.{Covers}
use Rattle.array.specs.declared.slot.GroupSlot.{GroupSlot}
use Rattle.array.specs.declared.volume.Run.{Run}
use Rattle.group.specs.Group.{member}
use Rattle.array.specs.Kinds.{method}
use Rattle.array.specs.Configuration.{GroupConfig, Configuration, Configured, HasMember, HasRun, InRun, group_at, volume_at, extent_at, run}
use Rattle.array.specs.Places.{size_of}

-- a drive block that lies in the extent of member i of group g, and in that of member j of group h
pub record SharedBlock (c : Configuration) : Type 0 where
  pub g : ℕ
  pub i : ℕ
  pub h : ℕ
  pub j : ℕ
  pub drive : ℕ
  pub block : ℕ
  pub has_first : HasMember c g i
  pub has_second : HasMember c h j
  pub in_first : Covers (extent_at (group_at c g) i) drive block
  pub in_second : Covers (extent_at (group_at c h) j) drive block

-- NO DRIVE BLOCK LIES IN TWO EXTENTS
abbrev pub ExtentsApart : Configuration → Type 0
ExtentsApart c = (s : SharedBlock c) → (s.g ≡ s.h) × (s.i ≡ s.j)

-- run j of volume set v
pub record SomeRun (c : Configuration) : Type 0 where
  pub v : ℕ
  pub j : ℕ
  pub has : HasRun c v j

abbrev pub run_of : (c : Configuration) → SomeRun c → Run
run_of c s = run (volume_at c s.v).runs s.j

-- EVERY RUN HAS A BLOCK, AND LIES INSIDE A GROUP
abbrev pub RunsFilled : Configuration → Type 0
RunsFilled c = (s : SomeRun c) → 1 ≤ (run_of c s).count

abbrev pub RunsGrouped : Configuration → Type 0
RunsGrouped c = (s : SomeRun c) → Configured c.groups (run_of c s).group

abbrev pub RunsInside : Configuration → Type 0
RunsInside c = (s : SomeRun c) → (run_of c s).first + (run_of c s).count ≤ size_of (group_at c (run_of c s).group)

-- protected block q of group g, which lies in run i of volume set v and in run j of volume set w
pub record SharedRun (c : Configuration) : Type 0 where
  pub v : ℕ
  pub i : ℕ
  pub w : ℕ
  pub j : ℕ
  pub g : ℕ
  pub q : ℕ
  pub has_first : HasRun c v i
  pub has_second : HasRun c w j
  pub in_first : InRun (run (volume_at c v).runs i) g q
  pub in_second : InRun (run (volume_at c w).runs j) g q

-- NO PROTECTED BLOCK LIES IN TWO RUNS
abbrev pub RunsApart : Configuration → Type 0
RunsApart c = (s : SharedRun c) → (s.v ≡ s.w) × (s.i ≡ s.j)

-- a group's own number is its place in the table
abbrev pub number_in : Option GroupSlot → ℕ
number_in None = 0
number_in (Some s) = s.group.number

abbrev pub Numbered : List (Option GroupSlot) → Type 0
Numbered gs = (n : ℕ) → Configured gs n → number_in (slice_index_or gs n None) ≡ n

-- What holds of every group that is configured, whatever the bus: it is as it may be made, its members are on different
-- drives, its extents end at or below block 65,536, and no mark is beyond its rows.
pub record SoundGroup (g : GroupConfig) : Type 0 where
  pub least : (method g.kind).LEAST ≤ length g.members
  pub most : length g.members ≤ 8
  pub depth : 1 ≤ g.depth
  pub some_rows : 1 ≤ g.rows
  pub strips : g.rows % g.depth ≡ 0
  pub apart : (i j : ℕ) → i < length g.members → j < length g.members → (member g.members i).drive ≡ (member g.members j).drive → i ≡ j
  pub ends : (i : ℕ) → i < length g.members → (member g.members i).start + g.rows ≤ 65536
  pub marks : (i : ℕ) → i < length g.members → (member g.members i).mark ≤ g.rows

-- What holds of every configuration that an array's tables hold.
pub record SoundConfig (c : Configuration) : Type 0 where
  pub eight : length c.groups ≡ 8
  pub sixteen : length c.volumes ≡ 16
  pub groups : (g : ℕ) → Configured c.groups g → SoundGroup (group_at c g)
  pub extents : ExtentsApart c
  pub filled : RunsFilled c
  pub grouped : RunsGrouped c
  pub inside : RunsInside c
  pub runs : RunsApart c
