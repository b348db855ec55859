-- Laws of marks and of bytes taken in, index by index. The code goes over both by iterators today and cites none of these; they
-- serve code that counts an index.
use Rattle.std.specs.Prelude.{◌≡◌, ℕ, suc, ◌+◌, ◌<◌, ◌≤◌, min, Bool, true, false, List, ◌∷◌, length, take, drop, bit_xor, slice_index, slice_index_or, slice_set, refl}
use Rattle.std.proofs.Common.{sym, ap, ◌∙◌, ⊎_elim, arith}
use Rattle.std.proofs.lemmas.List.{at_drop_more, at_drop_all, take_all}
use Rattle.std.proofs.lemmas.Bool.{cases_lt}
use Rattle.layout.specs.Blocks.{xor, mixed, missing_count, first_missing, first_present}
use Rattle.layout.specs.XorBytes.{xor_step}

-- the first marked, and the first that is not
module _ (o : List Bool) (i : ℕ) where
  pub missing_here : i + first_missing (drop i o) ≡ first_missing o → i < length o → slice_index_or o i false ≡ true → i ≡ first_missing o
  missing_here inv h e =
      let f : first_missing (drop i o) ≡ 0 = at_drop_more first_missing o i false h ∙ ap (λ (b : Bool). first_missing (b ∷ drop (i + 1) o)) e in
      omega arith

  pub missing_step : i + first_missing (drop i o) ≡ first_missing o → i < length o → slice_index_or o i false ≡ false → i + 1 + first_missing (drop (i + 1) o) ≡ first_missing o
  missing_step inv h e =
      let f : first_missing (drop i o) ≡ suc (first_missing (drop (i + 1) o)) = at_drop_more first_missing o i false h ∙ ap (λ (b : Bool). first_missing (b ∷ drop (i + 1) o)) e in
      omega arith

  pub missing_end : i + first_missing (drop i o) ≡ first_missing o → i ≤ length o → length o ≤ i → length o ≡ first_missing o
  missing_end inv k h = let f : first_missing (drop i o) ≡ 0 = at_drop_all first_missing o i h in omega arith

  pub present_here : i + first_present (drop i o) ≡ first_present o → i < length o → slice_index_or o i false ≡ false → i ≡ first_present o
  present_here inv h e =
      let f : first_present (drop i o) ≡ 0 = at_drop_more first_present o i false h ∙ ap (λ (b : Bool). first_present (b ∷ drop (i + 1) o)) e in
      omega arith

  pub present_step : i + first_present (drop i o) ≡ first_present o → i < length o → slice_index_or o i false ≡ true → i + 1 + first_present (drop (i + 1) o) ≡ first_present o
  present_step inv h e =
      let f : first_present (drop i o) ≡ suc (first_present (drop (i + 1) o)) = at_drop_more first_present o i false h ∙ ap (λ (b : Bool). first_present (b ∷ drop (i + 1) o)) e in
      omega arith

  pub present_end : i + first_present (drop i o) ≡ first_present o → i ≤ length o → length o ≤ i → length o ≡ first_present o
  present_end inv k h = let f : first_present (drop i o) ≡ 0 = at_drop_all first_present o i h in omega arith

-- the loop that counts
module _ (o : List Bool) (i c : ℕ) (inv : c + missing_count (drop i o) ≡ missing_count o) where
  pub count_step : i < length o → (d : ℕ) → d ≡ c + 1 → slice_index_or o i false ≡ true → d + missing_count (drop (i + 1) o) ≡ missing_count o
  count_step h d e b =
      let f : missing_count (drop i o) ≡ suc (missing_count (drop (i + 1) o)) = at_drop_more missing_count o i false h ∙ ap (λ (x : Bool). missing_count (x ∷ drop (i + 1) o)) b in
      omega arith

  pub count_skip : i < length o → (d : ℕ) → d ≡ c → slice_index_or o i false ≡ false → d + missing_count (drop (i + 1) o) ≡ missing_count o
  count_skip h d e b =
      let f : missing_count (drop i o) ≡ missing_count (drop (i + 1) o) = at_drop_more missing_count o i false h ∙ ap (λ (x : Bool). missing_count (x ∷ drop (i + 1) o)) b in
      omega arith

  pub count_end : length o ≤ i → c ≡ missing_count o
  count_end h = let f : missing_count (drop i o) ≡ 0 = at_drop_all missing_count o i h in omega arith

-- one byte more is taken in: d' is d where the turn begins
pub again : (d' d s : List ℕ) (i : ℕ) → d' ≡ xor d (take i s) → i < length d → i < length s → slice_set d' i (bit_xor (slice_index d' i) (slice_index s i)) ≡ xor d (take (i + 1) s)
again d' d s i e h k = xor_step d' d s i e h

pub more : (d s : List ℕ) (i : ℕ) → i < length d → i < length s → slice_set (xor d (take i s)) i (bit_xor (slice_index (xor d (take i s)) i) (slice_index s i)) ≡ xor d (take (i + 1) s)
more d s i h k = again (xor d (take i s)) d s i refl h k

-- as many bytes as both have are as many as d has, or all of s
pub take_both : (s : List ℕ) (i n : ℕ) → i ≡ min n (length s) → take i s ≡ take n s
take_both s i n e =
    ⊎_elim (λ (h : n < length s). let f : i ≡ n = omega arith in ap (λ (k : ℕ). take k s) f)
    (λ (h : length s ≤ n). take_all i s (omega arith) ∙ sym (take_all n s h)) (cases_lt n (length s))

pub ends : (d' d s : List ℕ) (i : ℕ) → d' ≡ xor d (take i s) → i ≡ min (length d) (length s) → d' ≡ mixed d s
ends d' d s i e h = e ∙ ap (xor d) (take_both s i (length d) h)
