-- The laws of the bytewise exclusive or. Assumes nothing.
use Rattle.std.specs.Prelude.{◌≡◌, ℕ, zero, suc, ◌+◌, ◌<◌, ◌≤◌, List, [], ◌∷◌, length, get_or, take, drop, replicate, bit_xor, slice_index, slice_index_or, slice_set, refl}
use Rattle.std.proofs.Common.{sym, ap, subst, ◌∙◌, not-suc-le-zero, le_of_suc-le-suc, add-one, arith}
use Rattle.std.proofs.Math.Seq.{take-nil}
use Rattle.std.proofs.lemmas.List.{at_drop_more, at_drop_all, set-get_or}
use Rattle.std.proofs.lemmas.Nat.{xor_comm, xor_lt}
use Rattle.std.specs.Int.Bits.{xor_assoc, xor_self, xor_zero_r}
use Rattle.layout.specs.Blocks.{xor, xor_all, put_in, Whole, XorLaws}

pub nil_r : (xs : List ℕ) → xor xs [] ≡ xs
nil_r [] = refl
nil_r (x ∷ xs) = refl

pub comm : (xs ys : List ℕ) → xor xs ys ≡ xor ys xs
comm [] ys = sym (nil_r ys)
comm (x ∷ xs) [] = refl
comm (x ∷ xs) (y ∷ ys) = rw (xor_comm x y, comm xs ys)

pub assoc : (xs ys zs : List ℕ) → xor (xor xs ys) zs ≡ xor xs (xor ys zs)
assoc [] ys zs = refl
assoc (x ∷ xs) [] zs = refl
assoc (x ∷ xs) (y ∷ ys) [] = refl
assoc (x ∷ xs) (y ∷ ys) (z ∷ zs) = rw (xor_assoc x y z, assoc xs ys zs)

pub same : (xs : List ℕ) → xor xs xs ≡ replicate (length xs) 0
same [] = refl
same (x ∷ xs) = rw (xor_self x, same xs)

pub zeros : (n : ℕ) (xs : List ℕ) → n ≤ length xs → xor (replicate n 0) xs ≡ xs
zeros zero xs h = refl
zeros (suc n) [] h = absurd (not-suc-le-zero h)
zeros (suc n) (x ∷ xs) h = ap (λ (l : List ℕ). x ∷ l) (zeros n xs (le_of_suc-le-suc h))

pub length_xor : (xs ys : List ℕ) → length xs ≡ length ys → length (xor xs ys) ≡ length ys
length_xor [] ys e = refl
length_xor (x ∷ xs) [] e = e
length_xor (x ∷ xs) (y ∷ ys) e = ap suc (length_xor xs ys (omega arith))

pub get_or_xor : (xs ys : List ℕ) (j : ℕ) → slice_index (xor xs ys) j ≡ bit_xor (slice_index xs j) (slice_index ys j)
get_or_xor [] ys j = refl
get_or_xor (x ∷ xs) [] j = sym (xor_zero_r (slice_index (x ∷ xs) j))
get_or_xor (x ∷ xs) (y ∷ ys) zero = refl
get_or_xor (x ∷ xs) (y ∷ ys) (suc j) = get_or_xor xs ys j

-- taken in twice, a block is gone again
pub inverse : (xs ys : List ℕ) → length xs ≡ length ys → xor xs (xor xs ys) ≡ ys
inverse xs ys e = sym (assoc xs xs ys) ∙ ap (λ (l : List ℕ). xor l ys) (same xs) ∙ zeros (length xs) ys (omega arith)

pub xor_whole : (xs ys : List ℕ) → Whole xs → Whole ys → Whole (xor xs ys)
xor_whole xs ys v w = record {
  long = length_xor xs ys (v.long ∙ sym w.long) ∙ w.long;
  bytes = λ j. subst (λ (x : ℕ). x < 256) (sym (get_or_xor xs ys j)) (xor_lt 8 _ _ (v.bytes j) (w.bytes j));
}

pub xor_laws : XorLaws
xor_laws = record { bytewise = get_or_xor; commutes = comm; associates = assoc; zeros = zeros; cancels = inverse; keeps_length = length_xor; stays_whole = xor_whole }

-- one byte more
step : (d s : List ℕ) (i : ℕ) → i < length d → slice_set (xor d (take i s)) i (bit_xor (slice_index (xor d (take i s)) i) (slice_index s i)) ≡ xor d (take (suc i) s)
step [] s i h = absurd (not-suc-le-zero h)
step (x ∷ d) [] i h = rw (take-nil, xor_zero_r) (set-get_or (x ∷ d) i 0)
step (x ∷ d) (y ∷ s) zero h = ap (λ (l : List ℕ). bit_xor x y ∷ l) (sym (nil_r d))
step (x ∷ d) (y ∷ s) (suc i) h = ap (λ (l : List ℕ). bit_xor x y ∷ l) (step d s i (le_of_suc-le-suc h))

-- the loop of `xor_into`: d' is dst where the turn begins
pub xor_step : (d' d s : List ℕ) (i : ℕ) → d' ≡ xor d (take i s) → i < length d → slice_set d' i (bit_xor (slice_index d' i) (slice_index s i)) ≡ xor d (take (i + 1) s)
xor_step d' d s i e h = rw (e, add-one) (step d s i h)

pub all_insert : (c : ℕ) (x : List ℕ) (us : List (List ℕ)) → xor_all (put_in c x us) ≡ xor x (xor_all us)
all_insert zero x us = refl
all_insert (suc c) x [] = refl
all_insert (suc c) x (u ∷ us) =
    ap (xor u) (all_insert c x us) ∙ sym (assoc u x (xor_all us)) ∙ ap (λ (l : List ℕ). xor l (xor_all us)) (comm u x) ∙ assoc x u (xor_all us)

-- the block at m, taken missing and in again
pub all_set : (m : ℕ) (us : List (List ℕ)) → xor (slice_index_or us m []) (xor_all (slice_set us m [])) ≡ xor_all us
all_set zero [] = refl
all_set (suc m) [] = refl
all_set zero (u ∷ us) = refl
all_set (suc m) (u ∷ us) =
    sym (assoc (slice_index_or us m []) u (xor_all (slice_set us m []))) ∙ ap (λ (l : List ℕ). xor l (xor_all (slice_set us m []))) (comm (slice_index_or us m []) u)
    ∙ assoc u (slice_index_or us m []) (xor_all (slice_set us m [])) ∙ ap (xor u) (all_set m us)

module _ (all : List ℕ) (bs : List (List ℕ)) (i : ℕ) (h : i < length bs) where
  -- one block more
  pub others_step : (b : List ℕ) → slice_index_or bs i [] ≡ b → xor (xor all b) (xor_all (drop (i + 1) bs)) ≡ xor all (xor_all (drop i bs))
  others_step b e =
      assoc all b (xor_all (drop (i + 1) bs))
      ∙ ap (xor all) (ap (λ (x : List ℕ). xor x (xor_all (drop (i + 1) bs))) (sym e) ∙ sym (at_drop_more xor_all bs i [] h))

  -- and none
  pub others_skip : get_or bs i [] ≡ [] → xor all (xor_all (drop (i + 1) bs)) ≡ xor all (xor_all (drop i bs))
  others_skip e = ap (xor all) (ap (λ (x : List ℕ). xor x (xor_all (drop (i + 1) bs))) (sym e) ∙ sym (at_drop_more xor_all bs i [] h))

pub others_end : (all : List ℕ) (bs : List (List ℕ)) (i : ℕ) → length bs ≤ i → xor all (xor_all (drop i bs)) ≡ all
others_end all bs i h = ap (xor all) (at_drop_all xor_all bs i h) ∙ nil_r all
