-- Digit by digit. Assumes nothing.
use Rattle.std.proofs.Common.{◌≡◌, ℕ, ◌+◌, ◌-◌, ◌*◌, ◌^◌, ◌<◌, ◌≤◌, Bool, true, false, cond, not, eqb, ltb, List, [], ◌∷◌, length, take, drop, Some, None, Option, unwrap_or, refl, ap, ◌∙◌, subst, add_comm, one-add, arith}
use Rattle.std.specs.Char.{is_ascii_digit}
use Rattle.std.proofs.lemmas.Bool.{le-ltb, lt-ltb, cond-true, cond-false, ltb-false}
use Rattle.script.specs.Numerals.{and_then, value_after, fitting, numeral, cut_at}
use Rattle.std.specs.List.{prefix_len}
use Rattle.script.proofs.Prefix.{First, leading_is}

-- a number that 64 bits do not hold grows no smaller
pub too_large : (m : ℕ) (cs : List ℕ) → 2 ^ 64 ≤ m → and_then (value_after m cs) fitting ≡ None
too_large m [] h = cond-false _ (Some m) None (le-ltb m (2 ^ 64) h)
too_large m (c ∷ cs) h = by (is_ascii_digit c) (too_large (m * 10 + (c - 48)) cs (omega arith))
  where
    by : (b : Bool) → and_then (value_after (m * 10 + (c - 48)) cs) fitting ≡ None → and_then (cond b (value_after (m * 10 + (c - 48)) cs) None) fitting ≡ None
    by true none = none
    by false none = refl

-- a byte that no number goes on with
pub digit_refused : (n c : ℕ) (cs : List ℕ) → None ≡ cond (is_ascii_digit c) (fitting (n * 10 + (c - 48))) None → and_then (value_after n (c ∷ cs)) fitting ≡ None
digit_refused n c cs = by (is_ascii_digit c) (ltb (n * 10 + (c - 48)) (2 ^ 64)) refl
  where
    by : (b t : Bool) → ltb (n * 10 + (c - 48)) (2 ^ 64) ≡ t → None ≡ cond b (cond t (Some (n * 10 + (c - 48))) None) None → and_then (cond b (value_after (n * 10 + (c - 48)) cs) None) fitting ≡ None
    by true true h e = let z : ◌≡◌ {A = ℕ} 0 1 = cc in absurd (omega arith)
    by true false h e = too_large (n * 10 + (c - 48)) cs (ltb-false _ _ h)
    by false t h e = refl

pub fits : (n : ℕ) → n < 2 ^ 64 → fitting n ≡ Some n
fits n h = cond-true _ (Some n) None (lt-ltb n (2 ^ 64) h)

pub numeral_some : (w : List ℕ) → 0 < length w → numeral w ≡ and_then (value_after 0 w) fitting
numeral_some [] h = absurd (omega arith)
numeral_some (c ∷ cs) h = refl

-- what stands before the first `at`, and what behind it, by its place
module _ (at : ℕ) where
  abbrev to : List ℕ → ℕ
  to w = prefix_len (λ c. not (eqb c at)) w

  cut_none : (w : List ℕ) → length w ≤ to w → cut_at at w ≡ None
  cut_none [] h = refl
  cut_none (x ∷ xs) h = by (eqb x at) h (cut_none xs)
    where
      by : (b : Bool) → length (x ∷ xs) ≤ cond (not b) (1 + to xs) 0 → (length xs ≤ to xs → cut_at at xs ≡ None) → cond {A = Option (List ℕ × List ℕ)} b (Some ([], xs)) (and_then (cut_at at xs) (λ p. Some (x ∷ p.0, p.1))) ≡ None
      by true h more = absurd (omega arith)
      by false h more = ap (λ o. and_then o (λ (p : List ℕ × List ℕ). Some (x ∷ p.0, p.1))) (more (omega arith))

  cut_some : (w : List ℕ) → to w < length w → cut_at at w ≡ Some (take (to w) w, drop (1 + to w) w)
  cut_some [] h = absurd (omega arith)
  cut_some (x ∷ xs) h = by (eqb x at) h (cut_some xs)
    where
      by : (b : Bool) → cond (not b) (1 + to xs) 0 < length (x ∷ xs) → (to xs < length xs → cut_at at xs ≡ Some (take (to xs) xs, drop (1 + to xs) xs)) →
          cond {A = Option (List ℕ × List ℕ)} b (Some ([], xs)) (and_then (cut_at at xs) (λ p. Some (x ∷ p.0, p.1))) ≡ Some (take (cond (not b) (1 + to xs) 0) (x ∷ xs), drop (1 + cond (not b) (1 + to xs) 0) (x ∷ xs))
      by true h more = refl
      by false h more = ap (λ o. and_then o (λ (p : List ℕ × List ℕ). Some (x ∷ p.0, p.1))) (more (omega arith)) ∙ simp one-add

  module _ (w : List ℕ) (r : Option ℕ) where
    pub cut_at_none : r ≡ None → First (λ c. not (eqb c at)) w r → cut_at at w ≡ None
    cut_at_none e first =
        let whole : to w ≡ length w = leading_is _ w r first ∙ ap (λ o. unwrap_or o (length w)) e in
        cut_none w (omega arith)

    pub cut_at_some : (i : ℕ) → r ≡ Some i → First (λ c. not (eqb c at)) w r → cut_at at w ≡ Some (take i w, drop (i + 1) w)
    cut_at_some i e first =
        let place : to w ≡ i = leading_is _ w r first ∙ ap (λ o. unwrap_or o (length w)) e in
        let within : i < length w = (subst (First (λ c. not (eqb c at)) w) e first).0 in
        cut_some w (omega arith) ∙ (λ k. Some (take (place k) w, drop (1 + place k) w)) ∙ ap (λ n. Some (take i w, drop n w)) (add_comm 1 i)
