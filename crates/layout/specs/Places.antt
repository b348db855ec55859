-- The geometry of a group, and the place of its blocks: n members, depth k, l rows. Assumes nothing.
use Rattle.std.specs.Prelude.{◌≡◌, ℕ, ◌+◌, ◌*◌, ◌/◌, ◌%◌, ◌<◌, ◌≤◌, Bool, true, false, Option, Some, None}
use Rattle.layout.specs.declared.method.Method.{Ghosts}
use Rattle.layout.specs.declared.geometry.Place.{Place}

-- a group may have n members, depth k and l rows: l is a multiple of the depth, by the strips in which the check members
-- come round
pub record Fits {X : Type 0} (m : Ghosts X) (n k l : ℕ) : Type 0 where
  pub least_members : m.LEAST ≤ n
  pub most_members : n ≤ 8
  pub least_depth : 1 ≤ k
  pub most_depth : k ≤ 64
  pub least_rows : 1 ≤ l
  pub multiple : l % (k * m.cycle n) ≡ 0

-- the strip of block q at depth k, with d user blocks to a row; which user block of its row it is; its row
abbrev pub strip : ℕ → ℕ → ℕ → ℕ
strip k d q = q / (k * d)

abbrev pub slot : ℕ → ℕ → ℕ → ℕ
slot k d q = (q % (k * d)) / k

abbrev pub line : ℕ → ℕ → ℕ → ℕ
line k d q = strip k d q * k + q % k

-- how many protected blocks there are
abbrev pub protected : {X : Type 0} → Ghosts X → ℕ → ℕ → ℕ
protected m n l = m.width n * l

module _ {X : Type 0} (m : Ghosts X) (n k : ℕ) where
  -- the home member of protected block q, and its row
  abbrev pub home_of : ℕ → ℕ
  home_of q = m.home n (strip k (m.width n) q) (slot k (m.width n) q)

  abbrev pub row_of : ℕ → ℕ
  row_of q = line k (m.width n) q

  -- the block of member i in row r is a check block
  abbrev pub check_at : ℕ → ℕ → Bool
  check_at i r = m.check n (r / k) i

  -- the place of protected block q
  pub record PlaceOf (l q : ℕ) (a : Place) : Type 0 where
    pub home : a.member ≡ home_of q
    pub row : a.row ≡ row_of q
    pub strip_of : a.strip ≡ a.row / k
    pub slot_of : a.slot ≡ slot k (m.width n) q
    pub member_inside : a.member < n
    pub row_inside : a.row < l
    pub slot_inside : a.slot < m.width n
    pub at_home : a.member ≡ m.home n a.strip a.slot

  -- of all the blocks of the members and all the protected blocks of l rows
  pub record OnePlaceEach (l : ℕ) : Type 0 where
    -- every protected block has a place, inside the extents
    pub inside : (q : ℕ) → q < protected m n l → (home_of q < n) × (row_of q < l)
    -- that is no check block
    pub user : (q : ℕ) → q < protected m n l → check_at (home_of q) (row_of q) ≡ false
    -- no two have the same
    pub apart : (p q : ℕ) → p < protected m n l → q < protected m n l → home_of p ≡ home_of q → row_of p ≡ row_of q → p ≡ q
    -- and every member block that is no check block is the place of exactly one
    pub onto : (i r : ℕ) → i < n → r < l → check_at i r ≡ false →
        (q : ℕ) × (q < protected m n l) × (home_of q ≡ i) × (row_of q ≡ r) ×
        ((p : ℕ) → p < protected m n l → home_of p ≡ i → row_of p ≡ r → p ≡ q)

  -- which protected block the block of member i in row r is, or none where it is check data
  abbrev pub HeldAt : ℕ → ℕ → ℕ → Option ℕ → Type 0
  HeldAt l i r (Some q) = (q < protected m n l) × (home_of q ≡ i) × (row_of q ≡ r)
  HeldAt l i r None = check_at i r ≡ true
