-- The drives that a script works on.
use Rattle.std.specs.Prelude.{◌≡◌, ℕ, ◌+◌, ◌<◌, ◌≤◌, List, replicate, Ok, Err, vec_items, Result}
use Rattle.bus.specs.Drives.{Drive}
use Rattle.buses.specs.declared.misfit.Misfit.{Misfit}
use Rattle.buses.specs.declared.misfit.Misfit.TheVariants.{Count, Capacity, Bytes}
use Rattle.buses.specs.declared.memory.MemoryBus.{MemoryBus}
use Rattle.buses.specs.declared.joined.JoinedBus.{JoinedBus}
use Rattle.buses.specs.declared.breaking.BreakingBus.{BreakingBus}
use Rattle.buses.specs.Fitting.{Fit, CapacityMisfit}
use Rattle.buses.specs.Memory.{held, memory_drives}
use Rattle.buses.specs.Joined.{joined}
use Rattle.buses.specs.Breaking.{marked}
use Rattle.buses.specs.declared.memory.Drives.{Drives}
use Rattle.jowlspur.specs.declared.shelf.BusDrives.{BusDrives}
use Rattle.jowlspur.specs.declared.shelf.Bank.{Bank}
use Rattle.jowlspur.specs.declared.shelf.Memory.{Memory}
use Rattle.jowlspur.specs.declared.shelf.Unmade.{Unmade}
use Rattle.jowlspur.specs.declared.shelf.Unmade.TheVariants.{Unfit, NoMemory}

abbrev pub Breaking : Type 0
Breaking = BreakingBus (JoinedBus MemoryBus MemoryBus)

-- the drives behind a shelf, as its memories hold them
abbrev pub behind : Breaking → List Drive
behind k = joined (memory_drives k.below.first) (memory_drives k.below.second)

-- the drives of a shelf, of which some were told to break
abbrev pub on : Breaking → List Drive
on k = marked (behind k) k.left

-- the drives that a bank holds, and those of a script's memory
abbrev pub stocked : Bank → List Drive
stocked k = held (vec_items k.bytes) k.drives.number k.drives.capacity

abbrev pub kept : Memory → List Drive
kept m = joined (stocked m.first) (stocked m.second)

-- the bytes that n drives of cap blocks take
abbrev pub Takes : ℕ → ℕ → Result ℕ Misfit → Type 0
Takes n cap (Ok len) = Fit len n cap
Takes n cap (Err Count) = 16 < n
Takes n cap (Err Capacity) = CapacityMisfit n cap
Takes n cap (Err Bytes) = ⊥

-- drives that fill a first memory of a bytes and a second of b, and are at most 16
pub record Filling (v : BusDrives) (a b : ℕ) : Type 0 where
  pub first : Fit a v.first.number v.first.capacity
  pub second : Fit b v.second.number v.second.capacity
  pub few : v.first.number + v.second.number ≤ 16

-- drives that fit a bus, by the bytes that they take, or don't
abbrev pub Fits : {U : Type 0} → BusDrives → Result U Misfit → Type 0
Fits v (Ok u) = (a : ℕ) × (b : ℕ) × Filling v a b
Fits v (Err e) = (a b : ℕ) → Filling v a b → ⊥

-- n bytes, each a5
abbrev pub untouched : ℕ → List ℕ
untouched n = replicate n 165

-- the bank k was made for the drives v, which fill a bytes
pub record Fresh (v : Drives) (a : ℕ) (k : Bank) : Type 0 where
  pub drives : k.drives ≡ v
  pub bytes : vec_items k.bytes ≡ untouched a

abbrev pub Stocked : Drives → Result Bank Unmade → Type 0
Stocked v (Ok k) = (a : ℕ) × Fit a v.number v.capacity × Fresh v a k
Stocked v (Err (Unfit e)) = (a : ℕ) → Fit a v.number v.capacity → ⊥
Stocked v (Err NoMemory) = Unit {0}

-- memory that was made for drives, or not
pub record New (v : BusDrives) (a b : ℕ) (m : Memory) : Type 0 where
  pub first : Fresh v.first a m.first
  pub second : Fresh v.second b m.second

pub record Making (v : BusDrives) (m : Memory) : Type 0 where
  pub first : ℕ
  pub second : ℕ
  pub filling : Filling v first second
  pub new : New v first second m

abbrev pub Made : BusDrives → Result Memory Unmade → Type 0
Made v (Ok m) = Making v m
Made v (Err (Unfit e)) = (a b : ℕ) → Filling v a b → ⊥
Made v (Err NoMemory) = (a : ℕ) × (b : ℕ) × Filling v a b
