-- What a read and a write answer, and what they leave: s is the meaning of the bus before, t after.
-- The answer comes by cases, and the premises of the cases exclude one another.
use Rattle.std.specs.Prelude.{◌≡◌, ℕ, ◌<◌, ◌≤◌, false, List, length, Ok, Err, Result}
use Rattle.bus.specs.declared.fault.BusFault.{BusFault}
use Rattle.bus.specs.declared.fault.BusFault.TheVariants.{NoDrive, Length, Range, Broken}
use Rattle.bus.specs.Numbers.{drive_of, block_of}
use Rattle.bus.specs.Drives.{Drive, at, size, block, stored, broke}

-- a request for the block b of the drive d, with a buffer of len bytes, that reaches its drive
pub record Placed (s : List Drive) (d b len : ℕ) : Type 0 where
  pub exists : d < length s
  pub whole : len ≡ 512
  pub within : b < size s d

-- a fault names the drive e and the block f, as the request did
pub record Names (d b e f : ℕ) : Type 0 where
  pub drive : e ≡ d
  pub place : f ≡ b

pub record NoDriveBy (s t : List Drive) (d : ℕ) : Type 0 where
  pub beyond : length s ≤ d
  pub same : t ≡ s

pub record LengthBy (s t : List Drive) (d len : ℕ) : Type 0 where
  pub exists : d < length s
  pub other : len ≡ 512 → ⊥
  pub same : t ≡ s

pub record RangeBy (s t : List Drive) (d b len : ℕ) : Type 0 where
  pub exists : d < length s
  pub whole : len ≡ 512
  pub beyond : size s d ≤ b
  pub same : t ≡ s

-- the drive was broken, and then t is s, or it broke now
pub record BrokenBy (s t : List Drive) (d b len : ℕ) : Type 0 where
  pub placed : Placed s d b len
  pub broken : t ≡ broke s d

-- what each fault says, and leaves
abbrev pub RefusedBy : List Drive → List Drive → ℕ → ℕ → ℕ → BusFault → Type 0
RefusedBy s t d b len (NoDrive a) = NoDriveBy s t d
RefusedBy s t d b len (Length a) = LengthBy s t d len
RefusedBy s t d b len (Range a) = RangeBy s t d b len
RefusedBy s t d b len (Broken a) = BrokenBy s t d b len

abbrev pub Faults : List Drive → List Drive → ℕ → ℕ → ℕ → BusFault → Type 0
Faults s t d b len f = Names d b (drive_of f) (block_of f) × RefusedBy s t d b len f

-- the buffer held `was`, and holds `is`
pub record ReadBy (s t : List Drive) (d b : ℕ) (was is : List ℕ) : Type 0 where
  pub placed : Placed s d b (length was)
  pub working : (at s d).broken ≡ false
  pub filled : is ≡ block s d b
  pub same : t ≡ s

abbrev pub Reads : {U : Type 0} → List Drive → List Drive → ℕ → ℕ → List ℕ → List ℕ → Result U BusFault → Type 0
Reads s t d b was is (Ok u) = ReadBy s t d b was is
Reads s t d b was is (Err e) = (is ≡ was) × Faults s t d b (length was) e

pub record WroteBy (s t : List Drive) (d b : ℕ) (xs : List ℕ) : Type 0 where
  pub placed : Placed s d b (length xs)
  pub working : (at s d).broken ≡ false
  pub stored : t ≡ stored s d b xs

abbrev pub Writes : {U : Type 0} → List Drive → List Drive → ℕ → ℕ → List ℕ → Result U BusFault → Type 0
Writes s t d b xs (Ok u) = WroteBy s t d b xs
Writes s t d b xs (Err e) = Faults s t d b (length xs) e
