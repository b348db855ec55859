-- The meaning of a bus: its drives, each with its blocks and whether it is broken.
use Rattle.std.specs.Prelude.{◌≡◌, ℕ, ◌<◌, ◌≤◌, Bool, true, false, List, [], length, slice_index_or, slice_set}

pub record Drive : Type 0 where
  pub blocks : List (List ℕ)
  pub broken : Bool

-- what stands where there is no drive: no block, and broken
abbrev pub absent : Drive
absent = record { blocks = []; broken = true }

abbrev pub at : List Drive → ℕ → Drive
at s d = slice_index_or s d absent

-- how many blocks the drive d has
abbrev pub size : List Drive → ℕ → ℕ
size s d = length (at s d).blocks

abbrev pub block : List Drive → ℕ → ℕ → List ℕ
block s d b = slice_index_or (at s d).blocks b []

-- s with the block b of the drive d replaced by x
abbrev pub stored : List Drive → ℕ → ℕ → List ℕ → List Drive
stored s d b x = slice_set s d (record { blocks = slice_set (at s d).blocks b x; broken = (at s d).broken })

-- s with the drive d broken
abbrev pub broke : List Drive → ℕ → List Drive
broke s d = slice_set s d (record { blocks = (at s d).blocks; broken = true })

-- at most 16 drives, each of 1 to 65,536 blocks of 512 bytes
pub record Sound (s : List Drive) : Type 0 where
  pub few : length s ≤ 16
  pub some : (d : ℕ) → d < length s → 1 ≤ size s d
  pub small : (d : ℕ) → d < length s → size s d ≤ 65536
  pub whole : (d b : ℕ) → d < length s → b < size s d → length (block s d b) ≡ 512

-- What may happen between two requests: t is s with some more drives broken, and nothing else.
pub record Worse (s t : List Drive) : Type 0 where
  pub count : length t ≡ length s
  pub blocks : (d : ℕ) → (at t d).blocks ≡ (at s d).blocks
  pub stays : (d : ℕ) → (at s d).broken ≡ true → (at t d).broken ≡ true

-- the drive d works in s and is broken in t
pub record Fails (s t : List Drive) (d : ℕ) : Type 0 where
  pub before : (at s d).broken ≡ false
  pub after : (at t d).broken ≡ true
