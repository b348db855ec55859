-- Blocks as lists of bytes, the bytewise exclusive or, rows of blocks, and which members are missing. Assumes nothing.
use Rattle.std.specs.Prelude.{◌≡◌, ℕ, zero, suc, ◌<◌, ◌≤◌, Bool, true, false, List, [], ◌∷◌, length, take, replicate, bit_xor, slice_index, slice_index_or}

-- the bytewise exclusive or; the shorter list counts as if zeros followed it
abbrev pub xor : List ℕ → List ℕ → List ℕ
xor [] ys = ys
xor (x ∷ xs) [] = x ∷ xs
xor (x ∷ xs) (y ∷ ys) = bit_xor x y ∷ xor xs ys

-- the exclusive or of all of a list
abbrev pub xor_all : List (List ℕ) → List ℕ
xor_all [] = []
xor_all (b ∷ bs) = xor b (xor_all bs)

-- what bytes become when others are taken into them: no more of them than there are
abbrev pub mixed : List ℕ → List ℕ → List ℕ
mixed xs ys = xor xs (take (length xs) ys)

-- a block of 512 bytes
pub record Whole (b : List ℕ) : Type 0 where
  pub long : length b ≡ 512
  pub bytes : (j : ℕ) → slice_index b j < 256

-- a list of k blocks
pub record Blocks (k : ℕ) (bs : List (List ℕ)) : Type 0 where
  pub many : length bs ≡ k
  pub whole : (p : ℕ) → p < k → Whole (slice_index_or bs p [])

-- the list with x put in before the place c
abbrev pub put_in : {A : Type 0} → ℕ → A → List A → List A
put_in zero x us = x ∷ us
put_in (suc c) x [] = x ∷ []
put_in (suc c) x (u ∷ us) = u ∷ put_in c x us

-- how many members are marked as missing
abbrev pub missing_count : List Bool → ℕ
missing_count [] = 0
missing_count (true ∷ o) = suc (missing_count o)
missing_count (false ∷ o) = missing_count o

-- the first missing member, or how many members there are
abbrev pub first_missing : List Bool → ℕ
first_missing [] = 0
first_missing (true ∷ o) = 0
first_missing (false ∷ o) = suc (first_missing o)

-- the first member that is not missing, or how many members there are
abbrev pub first_present : List Bool → ℕ
first_present [] = 0
first_present (false ∷ o) = 0
first_present (true ∷ o) = suc (first_present o)

-- bs holds what row says at each member that is not missing
abbrev pub Agree : List Bool → List (List ℕ) → List (List ℕ) → Type 0
Agree missing bs row = (m : ℕ) → m < length bs → slice_index_or missing m true ≡ false → slice_index_or bs m [] ≡ slice_index_or row m []

-- likewise but at the members that check marks
abbrev pub AgreeBut : (ℕ → Bool) → List (List ℕ) → List (List ℕ) → Type 0
AgreeBut check bs row = (m : ℕ) → m < length bs → check m ≡ false → slice_index_or bs m [] ≡ slice_index_or row m []

-- the laws of the exclusive or
pub record XorLaws : Type 0 where
  pub bytewise : (xs ys : List ℕ) (j : ℕ) → slice_index (xor xs ys) j ≡ bit_xor (slice_index xs j) (slice_index ys j)
  pub commutes : (xs ys : List ℕ) → xor xs ys ≡ xor ys xs
  pub associates : (xs ys zs : List ℕ) → xor (xor xs ys) zs ≡ xor xs (xor ys zs)
  pub zeros : (n : ℕ) (xs : List ℕ) → n ≤ length xs → xor (replicate n 0) xs ≡ xs
  pub cancels : (xs ys : List ℕ) → length xs ≡ length ys → xor xs (xor xs ys) ≡ ys
  pub keeps_length : (xs ys : List ℕ) → length xs ≡ length ys → length (xor xs ys) ≡ length ys
  pub stays_whole : (xs ys : List ℕ) → Whole xs → Whole ys → Whole (xor xs ys)
