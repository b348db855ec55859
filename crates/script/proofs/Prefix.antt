-- The bytes at the front that pass a test. Assumes nothing.
use Rattle.std.proofs.Common.{◌≡◌, ℕ, ◌+◌, ◌<◌, Bool, true, false, cond, List, ◌∷◌, length, Option, MatchOption, unwrap_or, refl, ap, ◌∙◌, add_comm}
use Rattle.std.specs.List.{AllWithin, HoldsAt, prefix_len}
use Rattle.std.proofs.lemmas.Iterator.{index_from_first}

hit : (p : ℕ → Bool) (x : ℕ) (xs : List ℕ) → p x ≡ false → prefix_len p (x ∷ xs) ≡ 0
hit p x xs e = ap (λ b. cond b (1 + prefix_len p xs) 0) e

miss : (p : ℕ → Bool) (x : ℕ) (xs : List ℕ) → p x ≡ true → prefix_len p (x ∷ xs) ≡ prefix_len p xs + 1
miss p x xs e = ap (λ b. cond b (1 + prefix_len p xs) 0) e ∙ add_comm 1 (prefix_len p xs)

-- r is the place of the first that fails p, if one does
abbrev pub First : (ℕ → Bool) → List ℕ → Option ℕ → Type 0
First p xs r = MatchOption r (AllWithin (λ x. p x ≡ true) xs 0 (length xs)) (λ i. (i < length xs) × HoldsAt (λ x. p x ≡ false) xs i × AllWithin (λ x. p x ≡ true) xs 0 i)

pub leading_is : (p : ℕ → Bool) (xs : List ℕ) (r : Option ℕ) → First p xs r → prefix_len p xs ≡ unwrap_or r (length xs)
leading_is p xs r first = index_from_first (prefix_len p) (λ x. p x ≡ false) (λ x. p x ≡ true) refl (hit p) (miss p) xs r first
