-- Filling the extents of a new group with zeros: m is the meaning of the bus before, and n after.
use Rattle.std.specs.Prelude.{◌≡◌, ℕ, ◌+◌, ◌<◌, ◌≤◌, true, false, List, length, replicate, Ok, Err, Result, slice_index_or}
use Rattle.bus.specs.declared.fault.BusFault.{BusFault}
use Rattle.bus.specs.declared.fault.BusFault.TheVariants.{NoDrive, Length, Range, Broken}
use Rattle.bus.specs.Drives.{Drive, at, size, block}
use Rattle.layout.specs.declared.extent.ExtentRow.{ExtentRow}
use Rattle.layout.specs.Extents.{Sound, Covers}
use Rattle.group.specs.declared.fill.Stop.{Stop}
use Rattle.group.specs.declared.fault.GroupFault.{GroupFault}
use Rattle.group.specs.declared.fault.GroupFault.TheVariants.{OutOfRule, Short, Outside, Whole, Lost as GroupLost, Failed as GroupFailed}
use Rattle.group.specs.Group.{Frame}

abbrev pub no_extent : ExtentRow
no_extent = record { drive = 0; start = 0; count = 0 }

abbrev pub extent : List ExtentRow → ℕ → ExtentRow
extent es i = slice_index_or es i no_extent

abbrev pub zeros : List ℕ
zeros = replicate 512 0

-- the drive of the extent works and each of its first k blocks is zeros
pub record Zeroed (n : List Drive) (e : ExtentRow) (k : ℕ) : Type 0 where
  pub blocks : (r : ℕ) → r < k → block n e.drive (e.start + r) ≡ zeros
  pub works : 1 ≤ k → (at n e.drive).broken ≡ false

-- the fault is that of the drive of e in its row q: there is no such drive or block, or it is broken
abbrev pub Stops : List Drive → ExtentRow → ℕ → BusFault → Type 0
Stops n e q (NoDrive a) = (a.drive ≡ e.drive) × (a.block ≡ e.start + q) × (length n ≤ e.drive)
Stops n e q (Length a) = ⊥
Stops n e q (Range a) = (a.drive ≡ e.drive) × (a.block ≡ e.start + q) × (size n e.drive ≤ e.start + q)
Stops n e q (Broken a) = (a.drive ≡ e.drive) × (a.block ≡ e.start + q) × ((at n e.drive).broken ≡ true)

abbrev pub OneDrive : ExtentRow → ℕ → Type 0
OneDrive e d = e.drive ≡ d

-- one extent filled, or stopped at a row of it: nothing else changed but its blocks and its drive
abbrev pub FillsOne : {U : Type 0} → List Drive → List Drive → ExtentRow → Result U Stop → Type 0
FillsOne m n e (Ok u) = Frame m n (OneDrive e) (Covers e) × Zeroed n e e.count
FillsOne m n e (Err s) = Frame m n (OneDrive e) (Covers e) × (s.row < e.count) × Stops n e s.row s.fault

-- a drive, and a block, of one of the extents
abbrev pub SomeDrive : List ExtentRow → ℕ → Type 0
SomeDrive es d = (i : ℕ) × (i < length es) × ((extent es i).drive ≡ d)

abbrev pub SomeBlock : List ExtentRow → ℕ → ℕ → Type 0
SomeBlock es d b = (i : ℕ) × (i < length es) × Covers (extent es i) d b

-- stopped at row q of extent i by the fault f, in the name of the group `number`
pub record Stopped (m n : List Drive) (es : List ExtentRow) (number : ℕ) (x q i : ℕ) (f : BusFault) : Type 0 where
  pub frame : Frame m n (SomeDrive es) (SomeBlock es)
  pub group : x ≡ number
  pub inside : i < length es
  pub row : q < (extent es i).count
  pub fault : Stops n (extent es i) q f
  pub sound : (j : ℕ) → j < length es → Sound (extent es j)

-- every block of every extent is zeros, every drive of them works, and nothing else changed
pub record Filled (m n : List Drive) (es : List ExtentRow) : Type 0 where
  pub frame : Frame m n (SomeDrive es) (SomeBlock es)
  pub zeros : (i r : ℕ) → i < length es → r < (extent es i).count → block n (extent es i).drive ((extent es i).start + r) ≡ zeros
  pub works : (i : ℕ) → i < length es → (at n (extent es i).drive).broken ≡ false
  pub sound : (i : ℕ) → i < length es → Sound (extent es i)

-- Filled; or a row is no extent, and no drive was tried; or a drive did not take a row of its extent, which is named, and
-- nothing changed but blocks of the extents and drives of them.
abbrev pub Fills : {U : Type 0} → List Drive → List Drive → List ExtentRow → ℕ → Result U GroupFault → Type 0
Fills m n es number (Ok u) = Filled m n es
Fills m n es number (Err OutOfRule) = ⊥
Fills m n es number (Err Short) = ⊥
Fills m n es number (Err Outside) = (((i : ℕ) → i < length es → Sound (extent es i)) → ⊥) × (n ≡ m)
Fills m n es number (Err Whole) = ⊥
Fills m n es number (Err (GroupLost x r i a)) = ⊥
Fills m n es number (Err (GroupFailed x q i f)) = Stopped m n es number x q i f
