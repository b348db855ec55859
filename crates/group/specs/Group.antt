-- The members of a group on a bus, and what a row of them holds. A row is one block of each member.
-- Throughout, m is the meaning of the bus, k the method, t the strip that the row r is of, and gs the members.
use Rattle.std.specs.Prelude.{◌≡◌, ℕ, ◌+◌, ◌<◌, Bool, true, false, ◌||◌, List, [], map, length, nat_le, slice_index_or}
use Rattle.bus.specs.Drives.{Drive, at, size, block}
use Rattle.layout.specs.Blocks.{missing_count}
use Rattle.layout.specs.declared.method.Method.{Ghosts}
use Rattle.group.specs.declared.member.Member.{Member}

abbrev pub nobody : Member
nobody = record { drive = 0; start = 0; mark = 0 }

abbrev pub member : List Member → ℕ → Member
member gs i = slice_index_or gs i nobody

-- MISSING in the row r: the member's drive is broken, or it is rebuilt only up to a mark at or below the row
abbrev pub missing : List Drive → ℕ → Member → Bool
missing m r g = (at m g.drive).broken || nat_le g.mark r

-- of each member in turn, whether it is missing
abbrev pub missings : List Drive → ℕ → List Member → List Bool
missings m r gs = map (missing m r) gs

-- what the member's drive holds in the row r
abbrev pub held : List Drive → ℕ → Member → List ℕ
held m r g = block m g.drive (g.start + r)

-- A ROW IS LOST when more members are missing than the method tolerates
abbrev pub RowLost : ℕ → List Drive → ℕ → List Member → Type 0
RowLost tolerance m r gs = tolerance < missing_count (missings m r gs)

-- A BLOCK IS LOST when its row is and its home, the member i, is missing
abbrev pub BlockLost : ℕ → List Drive → ℕ → List Member → ℕ → Type 0
BlockLost tolerance m r gs i = (missing m r (member gs i) ≡ true) × RowLost tolerance m r gs

-- the members are on different drives, and the row lies on each
pub record Shape (m : List Drive) (r : ℕ) (gs : List Member) : Type 0 where
  pub apart : (i j : ℕ) → i < length gs → j < length gs → (member gs i).drive ≡ (member gs j).drive → i ≡ j
  pub within : (i : ℕ) → i < length gs → (member gs i).start + r < size m (member gs i).drive

-- THE ROW HOLDS the user blocks us: every home that is not missing holds its user block, in a lost row too, and
-- outside lost rows every member that is not missing holds its block of the row that the method makes from us
pub record RowHolds {X : Type 0} (k : Ghosts X) (t : ℕ) (m : List Drive) (r : ℕ) (gs : List Member) (us : List (List ℕ)) : Type 0 where
  pub user : (p : ℕ) → p < k.width (length gs) → missing m r (member gs (k.home (length gs) t p)) ≡ false →
      held m r (member gs (k.home (length gs) t p)) ≡ slice_index_or us p []
  pub whole : (RowLost (k.tolerance (length gs)) m r gs → ⊥) → (i : ℕ) → i < length gs → missing m r (member gs i) ≡ false →
      held m r (member gs i) ≡ slice_index_or (k.row (length gs) t us) i []

-- NOTHING ELSE CHANGED: n is m but for the blocks that P names, and drives that D names, which may have broken
pub record Frame (m n : List Drive) (D : ℕ → Type 0) (P : ℕ → ℕ → Type 0) : Type 0 where
  pub count : length n ≡ length m
  pub sizes : (d : ℕ) → size n d ≡ size m d
  pub stays : (d : ℕ) → (at m d).broken ≡ true → (at n d).broken ≡ true
  pub others : (d : ℕ) → (D d → ⊥) → at n d ≡ at m d
  pub blocks : (d b : ℕ) → (P d b → ⊥) → block n d b ≡ block m d b

-- the drives of the group
abbrev pub Ours : List Member → ℕ → Type 0
Ours gs d = (i : ℕ) × (i < length gs) × ((member gs i).drive ≡ d)

-- the blocks of the row r
abbrev pub InRow : ℕ → List Member → ℕ → ℕ → Type 0
InRow r gs d b = (i : ℕ) × (i < length gs) × ((member gs i).drive ≡ d) × ((member gs i).start + r ≡ b)

-- no block
abbrev pub NoBlock : ℕ → ℕ → Type 0
NoBlock d b = ⊥

-- one member's drive, and its block of the row r
abbrev pub Its : Member → ℕ → Type 0
Its g d = g.drive ≡ d

abbrev pub ItsBlock : ℕ → Member → ℕ → ℕ → Type 0
ItsBlock r g d b = (g.drive ≡ d) × (g.start + r ≡ b)
