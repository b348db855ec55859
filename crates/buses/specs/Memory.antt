-- The drives of a memory bus, and what its requests answer beyond the rule of every bus.
use Rattle.std.specs.Prelude.{◌≡◌, ℕ, ◌+◌, ◌*◌, ◌<◌, ◌≤◌, List, ◌++◌, length, take, drop, Ok, Err, Result, ◌≢◌}
use Rattle.bus.specs.declared.fault.BusFault.{BusFault}
use Rattle.bus.specs.declared.fault.BusFault.TheVariants.{NoDrive, Length, Range, Broken}
use Rattle.bus.specs.Numbers.{number_of, drive_of, block_of}
use Rattle.bus.specs.Drives.{Drive}
use Rattle.bus.specs.Requests.{Placed, Faults, Names}
use Rattle.buses.specs.declared.memory.MemoryBus.{MemoryBus}
use Rattle.buses.specs.Image.{image}
use Rattle.buses.specs.Fitting.{fitting}

-- n drives of cap blocks in the bytes xs, or none where they don't fit
abbrev pub held : List ℕ → ℕ → ℕ → List Drive
held xs n cap = image xs (fitting (length xs) n cap) cap

abbrev pub memory_drives : MemoryBus → List Drive
memory_drives m = held m.bytes.now m.drives.number m.drives.capacity

-- a request to one of n drives of cap blocks that never break, and what is wrong with it
abbrev pub Wrong : ℕ → ℕ → ℕ → ℕ → ℕ → BusFault → Type 0
Wrong n cap d b len (NoDrive a) = n ≤ d
Wrong n cap d b len (Length a) = (d < n) × (len ≢ 512)
Wrong n cap d b len (Range a) = (d < n) × (len ≡ 512) × (cap ≤ b)
Wrong n cap d b len (Broken a) = ⊥

abbrev pub Refuses : {U : Type 0} → ℕ → ℕ → ℕ → ℕ → ℕ → Result U BusFault → Type 0
Refuses n cap d b len (Ok u) = (d < n) × (len ≡ 512) × (b < cap)
Refuses n cap d b len (Err f) = Names d b (drive_of f) (block_of f) × Wrong n cap d b len f

-- where the block b of the drive d begins
pub record Located (xs : List ℕ) (n cap d b len a : ℕ) : Type 0 where
  pub placed : Placed (held xs n cap) d b len
  pub begins : a ≡ (d * cap + b) * 512
  pub room : a + 512 ≤ length xs

-- an answer that is no broken drive's
abbrev pub Unbroken : {U : Type 0} → Result U BusFault → Type 0
Unbroken (Ok u) = Unit {0}
Unbroken (Err e) = number_of e ≡ 9 → ⊥

abbrev pub Locates : List ℕ → ℕ → ℕ → ℕ → ℕ → ℕ → Result ℕ BusFault → Type 0
Locates xs n cap d b len (Ok a) = Located xs n cap d b len a
Locates xs n cap d b len (Err e) = Faults (held xs n cap) (held xs n cap) d b len e × (number_of e ≢ 9)

-- what a write leaves of the lent bytes: xs before, ys after
abbrev pub Overwrites : {U : Type 0} → List ℕ → List ℕ → ℕ → ℕ → ℕ → List ℕ → Result U BusFault → Type 0
Overwrites xs ys cap d b new (Ok u) = ys ≡ take ((d * cap + b) * 512) xs ++ (new ++ drop ((d * cap + b) * 512 + 512) xs)
Overwrites xs ys cap d b new (Err e) = ys ≡ xs
