-- What is configured: groups and volume sets, by number. Assumes nothing.
use Rattle.std.specs.Prelude.{◌≡◌, ℕ, ◌+◌, ◌<◌, ◌≤◌, Bool, true, false, List, [], map, length, take, replicate, Some, None, Option, slice_index_or, slice_set}
use Rattle.layout.specs.declared.extent.ExtentRow.{ExtentRow}
use Rattle.layout.specs.Extents.{Overlap}
use Rattle.group.specs.declared.member.Member.{Member}
use Rattle.group.specs.Group.{member}
use Rattle.group.specs.Filling.{extent}
use Rattle.group.specs.Making.{whole_member}
use Rattle.group.specs.Record.{members_of}
use Rattle.array.specs.declared.kind.MethodKind.{MethodKind}
use Rattle.array.specs.declared.kind.MethodKind.TheVariants.{NoRedundancy}
use Rattle.array.specs.declared.slot.GroupSlot.{GroupSlot}
use Rattle.array.specs.declared.volume.Run.{Run}
use Rattle.array.specs.declared.volume.Volume.{Volume}

-- a group: its members, each with its drive, its first block there and its rebuild mark, all of as many rows
pub record GroupConfig : Type 0 where
  pub kind : MethodKind
  pub depth : ℕ
  pub rows : ℕ
  pub members : List Member

pub record VolumeConfig : Type 0 where
  pub runs : List Run
  pub writes : Bool

pub record Configuration : Type 0 where
  pub groups : List (Option GroupConfig)
  pub volumes : List (Option VolumeConfig)

-- what is there, or d
abbrev pub or_else : {A : Type 0} → A → Option A → A
or_else d None = d
or_else d (Some x) = x

abbrev pub is_some : {A : Type 0} → Option A → Bool
is_some None = false
is_some (Some x) = true

abbrev pub mapped_option : {A B : Type 0} → (A → B) → Option A → Option B
mapped_option f None = None
mapped_option f (Some x) = Some (f x)

-- nothing is configured: groups 0 to 7 and volume sets 0 to 15 are free
abbrev pub nothing : Configuration
nothing = record { groups = replicate 8 None; volumes = replicate 16 None }

abbrev pub no_group : GroupConfig
no_group = record { kind = NoRedundancy; depth = 1; rows = 0; members = [] }

abbrev pub no_volume : VolumeConfig
no_volume = record { runs = []; writes = false }

abbrev pub no_run : Run
no_run = record { group = 0; first = 0; count = 0 }

-- number n names something in the table; it is free there (a number past the table's end is neither)
abbrev pub Configured : {A : Type 0} → List (Option A) → ℕ → Type 0
Configured xs n = (n < length xs) × (is_some (slice_index_or xs n None) ≡ true)

abbrev pub Free : {A : Type 0} → List (Option A) → ℕ → Type 0
Free xs n = (n < length xs) × (is_some (slice_index_or xs n None) ≡ false)

-- what a number names
abbrev pub group_at : Configuration → ℕ → GroupConfig
group_at c g = or_else no_group (slice_index_or c.groups g None)

abbrev pub volume_at : Configuration → ℕ → VolumeConfig
volume_at c v = or_else no_volume (slice_index_or c.volumes v None)

-- the extent of member i of a group
abbrev pub extent_at : GroupConfig → ℕ → ExtentRow
extent_at g i = record { drive = (member g.members i).drive; start = (member g.members i).start; count = g.rows }

-- a run of a list
abbrev pub run : List Run → ℕ → Run
run rs j = slice_index_or rs j no_run

-- group g has a member i; volume set v has a run j
abbrev pub HasMember : Configuration → ℕ → ℕ → Type 0
HasMember c g i = Configured c.groups g × (i < length (group_at c g).members)

abbrev pub HasRun : Configuration → ℕ → ℕ → Type 0
HasRun c v j = Configured c.volumes v × (j < length (volume_at c v).runs)

-- protected block q of group g lies in the run
pub record InRun (r : Run) (g q : ℕ) : Type 0 where
  pub group : g ≡ r.group
  pub from : r.first ≤ q
  pub below : q < r.first + r.count

-- some protected block lies in both
abbrev pub RunsOverlap : Run → Run → Type 0
RunsOverlap r s = (g : ℕ) × (q : ℕ) × InRun r g q × InRun s g q

-- an extent shares no block with a member of a group, a run none with a run of a volume set
abbrev pub Unassigned : Configuration → ExtentRow → Type 0
Unassigned c e = (g i : ℕ) → HasMember c g i → Overlap e (extent_at (group_at c g) i) → ⊥

abbrev pub UnassignedRun : Configuration → Run → Type 0
UnassignedRun c r = (v j : ℕ) → HasRun c v j → RunsOverlap r (run (volume_at c v).runs j) → ⊥

-- changes -------------------------------------------------------------------------------------------------------------

-- the rows of a group that is made from these extents
abbrev pub rows_in : List ExtentRow → ℕ
rows_in es = (extent es 0).count

-- a group by a method with this code, at depth k, on these extents, every member whole
abbrev pub new_group : Option MethodKind → ℕ → List ExtentRow → Option GroupConfig
new_group None k es = None
new_group (Some m) k es = Some (record { kind = m; depth = k; rows = rows_in es; members = map whole_member es })

abbrev pub with_group : Configuration → ℕ → Option GroupConfig → Configuration
with_group c g x = record { groups = slice_set c.groups g x; volumes = c.volumes }

abbrev pub with_volume : Configuration → ℕ → Option VolumeConfig → Configuration
with_volume c v x = record { groups = c.groups; volumes = slice_set c.volumes v x }

-- a volume set on these runs, writes enabled
abbrev pub new_volume : List Run → Option VolumeConfig
new_volume rs = Some (record { runs = rs; writes = true })

abbrev pub with_writes : Bool → VolumeConfig → VolumeConfig
with_writes on v = record { runs = v.runs; writes = on }

-- write control of one volume set, or of all
abbrev pub controlled : Configuration → Option ℕ → Bool → Configuration
controlled c None on = record { groups = c.groups; volumes = map (mapped_option (with_writes on)) c.volumes }
controlled c (Some v) on = with_volume c v (mapped_option (with_writes on) (slice_index_or c.volumes v None))

-- the tables of an array as a configuration -----------------------------------------------------------------------------

abbrev pub group_view : GroupSlot → GroupConfig
group_view s = record { kind = s.kind; depth = s.group.geometry.depth; rows = s.group.geometry.rows; members = members_of s.group }

abbrev pub volume_view : Volume → VolumeConfig
volume_view v = record { runs = take v.count v.runs; writes = v.writes }

abbrev pub configuration : List (Option GroupSlot) → List (Option Volume) → Configuration
configuration gs vs = record { groups = map (mapped_option group_view) gs; volumes = map (mapped_option volume_view) vs }
