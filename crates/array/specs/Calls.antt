-- What the calls on an array answer, and what they leave: m are the drives before and n after, c is the configuration
-- before and z after. Assumes nothing.
use Rattle.std.specs.Prelude.{◌≡◌, ℕ, ◌+◌, ◌/◌, ◌<◌, ◌≤◌, true, List, [], ◌++◌, length, take, drop, Some, None, Ok, Err, Option, Result, slice_index_or, slice_set}
use Rattle.bus.specs.Drives.{Drive, at, size}
use Rattle.layout.specs.declared.extent.ExtentRow.{ExtentRow}
use Rattle.layout.specs.Blocks.{Blocks}
use Rattle.group.specs.Group.{member, RowHolds, Frame, Ours, InRow, NoBlock}
use Rattle.group.specs.Group as rows
use Rattle.group.specs.Filling.{extent, Filled, SomeDrive, SomeBlock}
use Rattle.array.specs.declared.refusal.Fault.{Fault}
use Rattle.array.specs.declared.refusal.Fault.TheVariants.{OfRow, OfBlock}
use Rattle.array.specs.declared.refusal.Refused.{Refused}
use Rattle.array.specs.Refusals.{of_drives}
use Rattle.array.specs.Kinds.{method, method_of}
use Rattle.array.specs.Configuration.{GroupConfig, Configuration, HasMember, group_at, new_group, with_group, is_some}
use Rattle.array.specs.Places.{spot_of, row_of, slot_of, width_of, LostRow}
use Rattle.array.specs.Checks.{Check, AllHold, FirstNo, scene, group_checks, read_checks, write_checks}

-- every extent that is configured lies inside its drive: the array is used with the bus that it was configured on
abbrev pub OnDrives : List Drive → Configuration → Type 0
OnDrives m c = (g i : ℕ) → HasMember c g i → (member (group_at c g).members i).start + (group_at c g).rows ≤ size m (member (group_at c g).members i).drive

-- accepted exactly where all checks hold, with a value of which Q; else refused by the first that does not hold, with no
-- drive to blame
abbrev pub Asked : {V : Type 0} → List Check → (V → Type 0) → Result V Refused → Type 0
Asked cs Q (Ok v) = AllHold cs × Q v
Asked cs Q (Err x) = FirstNo cs x.refusal × (x.fault ≡ None)

-- the same of a call that makes the configuration w of c
abbrev pub Configures : {U : Type 0} → List Check → Configuration → Configuration → Configuration → Result U Refused → Type 0
Configures cs c z w (Ok u) = AllHold cs × (z ≡ w)
Configures cs c z w (Err x) = FirstNo cs x.refusal × (x.fault ≡ None) × (z ≡ c)

-- a drive is named exactly where drives have to do with the refusal
abbrev pub Blamed : Refused → Type 0
Blamed x = is_some x.fault ≡ of_drives x.refusal

-- making group g on the extents es -----------------------------------------------------------------------------------------

-- the fault names member i, which is extent i, at a row, and its drive is broken
pub record NamesExtent (n : List Drive) (g : ℕ) (es : List ExtentRow) (h r i d b : ℕ) : Type 0 where
  pub group : h ≡ g
  pub inside : i < length es
  pub row : r < (extent es i).count
  pub drive : d ≡ (extent es i).drive
  pub block : b ≡ (extent es i).start + r
  pub broken : (at n d).broken ≡ true

-- not filled: no drive was tried, or one is broken, and nothing else changed but blocks of the extents
abbrev pub Unfilled : List Drive → List Drive → ℕ → List ExtentRow → Option Fault → Type 0
Unfilled m n g es None = n ≡ m
Unfilled m n g es (Some (OfRow h r i p)) = NamesExtent n g es h r i p.drive p.block × Frame m n (SomeDrive es) (SomeBlock es)
Unfilled m n g es (Some (OfBlock o h r i p)) = ⊥

abbrev pub MakesGroup : {U : Type 0} → List Drive → List Drive → Configuration → Configuration → ℕ → ℕ → ℕ → List ExtentRow → Result U Refused → Type 0
MakesGroup m n c z g code k es (Ok u) =
    AllHold (group_checks (scene m n c) g code k es) × (z ≡ with_group c g (new_group (method_of code) k es)) × Filled m n es
MakesGroup m n c z g code k es (Err x) =
    FirstNo (group_checks (scene m n c) g code k es) x.refusal × (z ≡ c) × Blamed x × Unfilled m n g es x.fault

-- reading and writing protected block q of the group g ------------------------------------------------------------------------

-- the row of q holds these user blocks
abbrev pub Holds : List Drive → GroupConfig → ℕ → List (List ℕ) → Type 0
Holds m g r us = RowHolds (method g.kind) (r / g.depth) m r g.members us

-- the fault names a member that is missing in the row of the block
pub record NamesMember (n : List Drive) (g : GroupConfig) (r i d b : ℕ) : Type 0 where
  pub inside : i < length g.members
  pub drive : d ≡ (member g.members i).drive
  pub block : b ≡ (member g.members i).start + r
  pub gone : rows.missing n r (member g.members i) ≡ true

-- the fault of a request for block a of volume set v names both, the group, the row and a missing member
pub record NamesBlock (n : List Drive) (c : Configuration) (v a w x h r i d b : ℕ) : Type 0 where
  pub volume : w ≡ v
  pub block : x ≡ a
  pub group : h ≡ (spot_of c v a).group
  pub row : r ≡ row_of (group_at c (spot_of c v a).group) (spot_of c v a).block
  pub member_of : NamesMember n (group_at c (spot_of c v a).group) r i d b

-- an accepted read gives its user block of whatever the row held, and leaves the rest of the buffer
pub record Gave (m n : List Drive) (g : GroupConfig) (q : ℕ) (was is : List ℕ) : Type 0 where
  pub frame : Frame m n (Ours g.members) NoBlock
  pub gives : (us : List (List ℕ)) → Blocks (width_of g) us → Holds m g (row_of g q) us → is ≡ slice_index_or us (slot_of g q) [] ++ drop 512 was

-- a refused one: no drive was tried, or a missing member is named and nothing changed but drives of the group that broke
abbrev pub NotGiven : List Drive → List Drive → Configuration → ℕ → ℕ → Option Fault → Type 0
NotGiven m n c v a None = n ≡ m
NotGiven m n c v a (Some (OfRow h r i p)) = ⊥
NotGiven m n c v a (Some (OfBlock o h r i p)) =
    NamesBlock n c v a o.volume o.block h r i p.drive p.block × Frame m n (Ours (group_at c (spot_of c v a).group).members) NoBlock

abbrev pub ReadsBlock : {U : Type 0} → List Drive → List Drive → Configuration → ℕ → ℕ → List ℕ → List ℕ → Result U Refused → Type 0
ReadsBlock m n c v b was is (Ok u) =
    AllHold (read_checks (scene m n c) v b (length was)) × Gave m n (group_at c (spot_of c v b).group) (spot_of c v b).block was is
ReadsBlock m n c v b was is (Err x) =
    FirstNo (read_checks (scene m n c) v b (length was)) x.refusal × (is ≡ was) × Blamed x × NotGiven m n c v b x.fault

-- a write that came to its drives: whatever the row held, it holds it with the new block in the place of the old, if the
-- write was accepted, and as it was, if not
pub record Took (m n : List Drive) (g : GroupConfig) (q : ℕ) (bytes : List ℕ) : Type 0 where
  pub frame : Frame m n (Ours g.members) (InRow (row_of g q) g.members)
  pub takes : (us : List (List ℕ)) → Blocks (width_of g) us → Holds m g (row_of g q) us → Holds n g (row_of g q) (slice_set us (slot_of g q) (take 512 bytes))

pub record Left (m n : List Drive) (g : GroupConfig) (q : ℕ) : Type 0 where
  pub frame : Frame m n (Ours g.members) (InRow (row_of g q) g.members)
  pub keeps : (us : List (List ℕ)) → Blocks (width_of g) us → Holds m g (row_of g q) us → Holds n g (row_of g q) us
  -- a row that was lost when the write began was not written
  pub unwritten : LostRow (λ d. (at m d).broken) g (row_of g q) → n ≡ m

abbrev pub NotTaken : List Drive → List Drive → Configuration → ℕ → ℕ → Option Fault → Type 0
NotTaken m n c v a None = n ≡ m
NotTaken m n c v a (Some (OfRow h r i p)) = ⊥
NotTaken m n c v a (Some (OfBlock o h r i p)) =
    NamesBlock n c v a o.volume o.block h r i p.drive p.block × Left m n (group_at c (spot_of c v a).group) (spot_of c v a).block

abbrev pub WritesBlock : {U : Type 0} → List Drive → List Drive → Configuration → ℕ → ℕ → List ℕ → Result U Refused → Type 0
WritesBlock m n c v b bytes (Ok u) =
    AllHold (write_checks (scene m n c) v b (length bytes)) × Took m n (group_at c (spot_of c v b).group) (spot_of c v b).block bytes
WritesBlock m n c v b bytes (Err x) =
    FirstNo (write_checks (scene m n c) v b (length bytes)) x.refusal × Blamed x × NotTaken m n c v b x.fault
