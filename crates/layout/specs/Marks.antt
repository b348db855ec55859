-- Which members are missing. Assumes nothing.
use Rattle.std.specs.Prelude.{◌≡◌, ℕ, zero, suc, ◌-◌, ◌<◌, ◌≤◌, Bool, true, false, ◌≢◌, List, [], ◌∷◌, length, slice_index_or, refl}
use Rattle.std.proofs.Common.{ap, not-suc-le-zero, le_of_suc-le-suc, arith}
use Rattle.std.proofs.lemmas.Bool.{true≢false}
use Rattle.layout.specs.Blocks.{missing_count, first_missing, first_present}

-- none is missing
pub none_missing : (o : List Bool) → missing_count o ≤ 0 → (m : ℕ) → m < length o → slice_index_or o m true ≡ false
none_missing [] z m h = absurd (not-suc-le-zero h)
none_missing (true ∷ o) z m h = absurd (not-suc-le-zero z)
none_missing (false ∷ o) z zero h = refl
none_missing (false ∷ o) z (suc m) h = none_missing o z m (le_of_suc-le-suc h)

-- at most one is missing: all but the first
pub one_missing : (o : List Bool) → missing_count o ≤ 1 → (m : ℕ) → m < length o → m ≢ first_missing o → slice_index_or o m true ≡ false
one_missing [] z m h d = absurd (not-suc-le-zero h)
one_missing (true ∷ o) z zero h d = absurd (d refl)
one_missing (true ∷ o) z (suc m) h d = none_missing o (le_of_suc-le-suc z) m (le_of_suc-le-suc h)
one_missing (false ∷ o) z zero h d = refl
one_missing (false ∷ o) z (suc m) h d = one_missing o z m (le_of_suc-le-suc h) (λ e. d (ap suc e))

-- not all are missing
pub some_present : (o : List Bool) → missing_count o < length o → (first_present o < length o) × (slice_index_or o (first_present o) true ≡ false)
some_present [] z = absurd (not-suc-le-zero z)
some_present (false ∷ o) z = (omega arith, refl)
some_present (true ∷ o) z = let r = some_present o (le_of_suc-le-suc z) in (omega arith, r.1)

pub none_marked : (o : List Bool) → ((k : ℕ) → k < length o → slice_index_or o k true ≢ true) → missing_count o ≤ 0
none_marked [] h = omega arith
none_marked (true ∷ o) h = absurd (h 0 (omega arith) refl)
none_marked (false ∷ o) h = none_marked o (λ k l. h (suc k) (omega arith))

-- where only c is marked, one at most is
pub one_marked : (o : List Bool) (c : ℕ) → ((k : ℕ) → k < length o → slice_index_or o k true ≡ true → k ≡ c) → missing_count o ≤ 1
one_marked [] c h = omega arith
one_marked (true ∷ o) c h =
    let z : 0 ≡ c = h 0 (omega arith) refl in
    let r : missing_count o ≤ 0 = none_marked o (λ k l e. let s : suc k ≡ c = h (suc k) (omega arith) e in omega arith) in
    omega arith
one_marked (false ∷ o) c h = one_marked o (c - 1) (λ k l e. let s : suc k ≡ c = h (suc k) (omega arith) e in omega arith)

pub missing_le : (o : List Bool) → missing_count o ≤ length o
missing_le [] = omega arith
missing_le (true ∷ o) = let r = missing_le o in omega arith
missing_le (false ∷ o) = let r = missing_le o in omega arith

-- where the first is not marked
pub but_first : (o : List Bool) → slice_index_or o 0 true ≡ false → missing_count o ≤ length o - 1
but_first [] e = omega arith
but_first (true ∷ o) e = absurd (true≢false e)
but_first (false ∷ o) e = let r = missing_le o in omega arith
