-- A group on a bus, and what the calls on it answer: m is the meaning of the bus before, and n after.
use Rattle.std.specs.Prelude.{◌≡◌, ℕ, ◌+◌, ◌/◌, ◌<◌, ◌≤◌, true, false, ◌⊎◌, List, [], ◌++◌, length, take, drop, Ok, Err, Result, slice_index_or, slice_set}
use Rattle.bus.specs.declared.fault.BusFault.{BusFault}
use Rattle.bus.specs.Numbers.{address, broken_at}
use Rattle.bus.specs.Drives.{Drive, at, size}
use Rattle.layout.specs.Blocks.{Blocks}
use Rattle.layout.specs.declared.method.Method.{Ghosts}
use Rattle.layout.specs.declared.geometry.Place.{Place}
use Rattle.layout.specs.Places.{PlaceOf, protected}
use Rattle.group.specs.declared.member.Member.{Member}
use Rattle.group.specs.declared.record.Group.{Group}
use Rattle.group.specs.declared.fault.RowFault.{RowFault}
use Rattle.group.specs.declared.fault.RowFault.TheVariants.{Lost as LostAt, Failed as FailedAt}
use Rattle.group.specs.declared.fault.GroupFault.{GroupFault}
use Rattle.group.specs.declared.fault.GroupFault.TheVariants.{OutOfRule, Short, Outside, Whole, Lost, Failed}
use Rattle.group.specs.Group.{member, missing, held, RowLost, BlockLost, RowHolds, Frame, Ours, InRow, NoBlock, ItsBlock}
use Rattle.group.specs.Requests.{Keeps, HomeFirst}

-- how many members there are, and they
abbrev pub width_of : Group → ℕ
width_of g = g.geometry.members

abbrev pub members_of : Group → List Member
members_of g = take g.geometry.members g.members

-- the row r lies on every member's drive
abbrev pub Lies : List Drive → Group → ℕ → Type 0
Lies m g r = (i : ℕ) → i < width_of g → (member g.members i).start + r < size m (member g.members i).drive

-- a call for protected block q, at the place a, with a buffer of len bytes, that comes to its drives
pub record Ready {X : Type 0} (k : Ghosts X) (m : List Drive) (g : Group) (q len : ℕ) (a : Place) : Type 0 where
  pub enough : k.LEAST ≤ width_of g
  pub buffer : 512 ≤ len
  pub inside : q < protected k (width_of g) g.geometry.rows
  pub place : PlaceOf k (width_of g) g.geometry.depth g.geometry.rows q a
  pub lies : Lies m g a.row

-- which check before any work failed
abbrev pub Unready : {X : Type 0} → Ghosts X → List Drive → Group → ℕ → ℕ → GroupFault → Type 0
Unready k m g q len OutOfRule = width_of g < k.LEAST
Unready k m g q len Short = (k.LEAST ≤ width_of g) × (len < 512)
Unready k m g q len Outside = (k.LEAST ≤ width_of g) × (512 ≤ len) × ((a : Place) → Ready k m g q len a → ⊥)
Unready k m g q len Whole = ⊥
Unready k m g q len (Lost x r i a) = ⊥
Unready k m g q len (Failed x r i f) = ⊥

abbrev pub Admits : {X : Type 0} → Ghosts X → List Drive → Group → ℕ → ℕ → Result Place GroupFault → Type 0
Admits k m g q len (Ok a) = Ready k m g q len a
Admits k m g q len (Err e) = Unready k m g q len e

-- a row's fault of a member and a row of the group, and what it is above the group
abbrev pub Blamable : Group → RowFault → Type 0
Blamable g (LostAt i r) = (i < width_of g) × (r < g.geometry.rows)
Blamable g (FailedAt f i r) = Unit {0}

abbrev pub raised : Group → RowFault → GroupFault
raised g (LostAt i r) = Lost g.number r i (address (member g.members i).drive ((member g.members i).start + r))
raised g (FailedAt f i r) = Failed g.number r i f

-- a fault names this group, the row r and a member that is missing in it, with its drive and its block of the row
pub record Names (n : List Drive) (g : Group) (r : ℕ) (number q i d b : ℕ) : Type 0 where
  pub group : number ≡ g.number
  pub row : q ≡ r
  pub inside : i < width_of g
  pub drive : d ≡ (member g.members i).drive
  pub block : b ≡ (member g.members i).start + r
  pub gone : missing n r (member g.members i) ≡ true

-- what every call leaves of the row at the place a: nothing else changed but the blocks that P names
pub record Served {X : Type 0} (k : Ghosts X) (m n : List Drive) (g : Group) (q len : ℕ) (a : Place) (P : ℕ → ℕ → Type 0) : Type 0 where
  pub ready : Ready k m g q len a
  pub frame : Frame m n (Ours (members_of g)) P

-- An accepted read: its block is not lost at the end, and the buffer begins with user block a.slot of whatever the row
-- held; the rest of the buffer is as it was.
pub record ReadOk {X : Type 0} (k : Ghosts X) (m n : List Drive) (g : Group) (q : ℕ) (was is : List ℕ) (a : Place) : Type 0 where
  pub served : Served k m n g q (length was) a NoBlock
  pub found : BlockLost (k.tolerance (length (members_of g))) n a.row (members_of g) a.member → ⊥
  pub first : HomeFirst m n a.row (members_of g) a.member
  pub keeps : Keeps k a.strip m n a.row (members_of g)
  pub gives : (us : List (List ℕ)) → Blocks (k.width (length (members_of g))) us → RowHolds k a.strip m a.row (members_of g) us →
      is ≡ slice_index_or us a.slot [] ++ drop 512 was

-- a read refused as lost: its block is, at the end
pub record ReadLost {X : Type 0} (k : Ghosts X) (m n : List Drive) (g : Group) (q : ℕ) (was is : List ℕ) (number r i d b : ℕ) (a : Place) : Type 0 where
  pub served : Served k m n g q (length was) a NoBlock
  pub lost : BlockLost (k.tolerance (length (members_of g))) n a.row (members_of g) a.member
  pub names : Names n g a.row number r i d b
  pub keeps : Keeps k a.strip m n a.row (members_of g)
  pub buffer : is ≡ was

abbrev pub Reads : {X U : Type 0} → Ghosts X → List Drive → List Drive → Group → ℕ → List ℕ → List ℕ → Result U GroupFault → Type 0
Reads k m n g q was is (Ok u) = (a : Place) × ReadOk k m n g q was is a
Reads k m n g q was is (Err OutOfRule) = Unready k m g q (length was) OutOfRule × (n ≡ m) × (is ≡ was)
Reads k m n g q was is (Err Short) = Unready k m g q (length was) Short × (n ≡ m) × (is ≡ was)
Reads k m n g q was is (Err Outside) = Unready k m g q (length was) Outside × (n ≡ m) × (is ≡ was)
Reads k m n g q was is (Err Whole) = ⊥
Reads k m n g q was is (Err (Lost x r i b)) = (a : Place) × ReadLost k m n g q was is x r i b.drive b.block a
Reads k m n g q was is (Err (Failed x r i f)) = ⊥

-- An accepted write: the row was not lost when it began, the block is not lost at the end, and whatever the row held, it
-- holds it with the first 512 of the bytes in user block a.slot.
pub record WriteOk {X : Type 0} (k : Ghosts X) (m n : List Drive) (g : Group) (q : ℕ) (bytes : List ℕ) (a : Place) : Type 0 where
  pub served : Served k m n g q (length bytes) a (InRow a.row (members_of g))
  pub intact : RowLost (k.tolerance (length (members_of g))) m a.row (members_of g) → ⊥
  pub found : BlockLost (k.tolerance (length (members_of g))) n a.row (members_of g) a.member → ⊥
  pub changes : (us : List (List ℕ)) → Blocks (k.width (length (members_of g))) us → RowHolds k a.strip m a.row (members_of g) us →
      RowHolds k a.strip n a.row (members_of g) (slice_set us a.slot (take 512 bytes))

-- a refused write: the row was lost when it began, and nothing changed; or it was not, and the block is lost at the end
pub record WriteLost {X : Type 0} (k : Ghosts X) (m n : List Drive) (g : Group) (q : ℕ) (bytes : List ℕ) (number r i d b : ℕ) (a : Place) : Type 0 where
  pub served : Served k m n g q (length bytes) a (InRow a.row (members_of g))
  pub lost :
      (RowLost (k.tolerance (length (members_of g))) m a.row (members_of g) × (n ≡ m)) ⊎
      ((RowLost (k.tolerance (length (members_of g))) m a.row (members_of g) → ⊥) × BlockLost (k.tolerance (length (members_of g))) n a.row (members_of g) a.member)
  pub names : Names n g a.row number r i d b
  pub keeps : Keeps k a.strip m n a.row (members_of g)

abbrev pub Writes : {X U : Type 0} → Ghosts X → List Drive → List Drive → Group → ℕ → List ℕ → Result U GroupFault → Type 0
Writes k m n g q bytes (Ok u) = (a : Place) × WriteOk k m n g q bytes a
Writes k m n g q bytes (Err OutOfRule) = Unready k m g q (length bytes) OutOfRule × (n ≡ m)
Writes k m n g q bytes (Err Short) = Unready k m g q (length bytes) Short × (n ≡ m)
Writes k m n g q bytes (Err Outside) = Unready k m g q (length bytes) Outside × (n ≡ m)
Writes k m n g q bytes (Err Whole) = ⊥
Writes k m n g q bytes (Err (Lost x r i b)) = (a : Place) × WriteLost k m n g q bytes x r i b.drive b.block a
Writes k m n g q bytes (Err (Failed x r i f)) = ⊥

-- the row at the member i's mark, which is the next to be rebuilt
abbrev pub next_row : Group → ℕ → ℕ
next_row g i = (member g.members i).mark

-- a rebuild of the next row of the member i that comes to its drives
pub record Rebuildable {X : Type 0} (k : Ghosts X) (m : List Drive) (g : Group) (i : ℕ) : Type 0 where
  pub enough : k.LEAST ≤ width_of g
  pub inside : i < width_of g
  pub below : next_row g i < g.geometry.rows
  pub lies : Lies m g (next_row g i)

-- which check before it failed
abbrev pub Unrebuildable : {X : Type 0} → Ghosts X → List Drive → Group → ℕ → GroupFault → Type 0
Unrebuildable k m g i OutOfRule = width_of g < k.LEAST
Unrebuildable k m g i Short = ⊥
Unrebuildable k m g i Outside = (k.LEAST ≤ width_of g) × (Rebuildable k m g i → ⊥) × (i < width_of g → next_row g i < g.geometry.rows)
Unrebuildable k m g i Whole = (k.LEAST ≤ width_of g) × (i < width_of g) × (g.geometry.rows ≤ next_row g i)
Unrebuildable k m g i (Lost x r j a) = ⊥
Unrebuildable k m g i (Failed x r j f) = ⊥

abbrev pub Prepares : {X : Type 0} → Ghosts X → List Drive → Group → ℕ → Result ℕ GroupFault → Type 0
Prepares k m g i (Ok r) = Rebuildable k m g i × (r ≡ next_row g i)
Prepares k m g i (Err e) = Unrebuildable k m g i e

-- what every rebuild that came to its drives leaves: nothing else changed but the member's own block of the row
pub record Rebuilt {X : Type 0} (k : Ghosts X) (m n : List Drive) (g : Group) (i : ℕ) : Type 0 where
  pub ready : Rebuildable k m g i
  pub frame : Frame m n (Ours (members_of g)) (ItsBlock (next_row g i) (member (members_of g) i))
  pub keeps : Keeps k (next_row g i / g.geometry.depth) m n (next_row g i) (members_of g)

-- done: the member's drive, which works, holds its block of the row
pub record RebuildOk {X : Type 0} (k : Ghosts X) (m n : List Drive) (g : Group) (i : ℕ) : Type 0 where
  pub rebuilt : Rebuilt k m n g i
  pub intact : RowLost (k.tolerance (length (members_of g))) n (next_row g i) (members_of g) → ⊥
  pub works : (at n (member (members_of g) i).drive).broken ≡ false
  pub holds : (us : List (List ℕ)) → Blocks (k.width (length (members_of g))) us → RowHolds k (next_row g i / g.geometry.depth) m (next_row g i) (members_of g) us →
      held n (next_row g i) (member (members_of g) i) ≡ slice_index_or (k.row (length (members_of g)) (next_row g i / g.geometry.depth) us) i []

-- not done, since the row is lost
pub record RebuildLost {X : Type 0} (k : Ghosts X) (m n : List Drive) (g : Group) (i : ℕ) (number r j d b : ℕ) : Type 0 where
  pub rebuilt : Rebuilt k m n g i
  pub lost : RowLost (k.tolerance (length (members_of g))) n (next_row g i) (members_of g)
  pub names : Names n g (next_row g i) number r j d b

-- not done, since the member's own drive is broken
pub record RebuildFailed {X : Type 0} (k : Ghosts X) (m n : List Drive) (g : Group) (i : ℕ) (number r j : ℕ) (f : BusFault) : Type 0 where
  pub rebuilt : Rebuilt k m n g i
  pub intact : RowLost (k.tolerance (length (members_of g))) n (next_row g i) (members_of g) → ⊥
  pub broken : (at n (member (members_of g) i).drive).broken ≡ true
  pub group : number ≡ g.number
  pub row : r ≡ next_row g i
  pub member_is : j ≡ i
  pub fault : f ≡ broken_at (member (members_of g) i).drive ((member (members_of g) i).start + next_row g i)

abbrev pub Rebuilds : {X U : Type 0} → Ghosts X → List Drive → List Drive → Group → ℕ → Result U GroupFault → Type 0
Rebuilds k m n g i (Ok u) = RebuildOk k m n g i
Rebuilds k m n g i (Err OutOfRule) = Unrebuildable k m g i OutOfRule × (n ≡ m)
Rebuilds k m n g i (Err Short) = ⊥
Rebuilds k m n g i (Err Outside) = Unrebuildable k m g i Outside × (n ≡ m)
Rebuilds k m n g i (Err Whole) = Unrebuildable k m g i Whole × (n ≡ m)
Rebuilds k m n g i (Err (Lost x r j b)) = RebuildLost k m n g i x r j b.drive b.block
Rebuilds k m n g i (Err (Failed x r j f)) = RebuildFailed k m n g i x r j f
