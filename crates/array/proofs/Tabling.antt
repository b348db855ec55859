-- Tables of what is configured: one entry read, and one entry set.
use Rattle.std.proofs.Common.{◌≡◌, ℕ, ◌<◌, List, map, length, get_or, set, Some, None, Option, sym, refl, ap, ◌∙◌, arith}
use Rattle.std.proofs.Math.ListN.{get_or-map}
use Rattle.std.proofs.lemmas.List.{length-map, length-set, get_or-set_same, get_or-set_other}
use Rattle.std.proofs.lemmas.Bool.{false≢true}
use Rattle.array.specs.Configuration.{Configured, Free, is_some, mapped_option}

module _ {A B : Type 0} (f : A → B) where
  -- an entry of a table that is seen by f
  pub entry_seen : (xs : List (Option A)) (n : ℕ) (x : Option A) → get_or xs n None ≡ x → get_or (map (mapped_option f) xs) n None ≡ mapped_option f x
  entry_seen xs n x e = get_or-map (mapped_option f) xs n None ∙ ap (mapped_option f) e

  pub same_some : (x : Option A) → is_some (mapped_option f x) ≡ is_some x
  same_some None = refl
  same_some (Some x) = refl

  some_at : (xs : List (Option A)) (n : ℕ) → is_some (get_or (map (mapped_option f) xs) n None) ≡ is_some (get_or xs n None)
  some_at xs n = ap is_some (get_or-map (mapped_option f) xs n None) ∙ same_some (get_or xs n None)

  pub configured_seen : (xs : List (Option A)) (n : ℕ) → Configured xs n → Configured (map (mapped_option f) xs) n
  configured_seen xs n h = (omega (arith, h.0, length-map xs (mapped_option f)), some_at xs n ∙ h.1)

  pub configured_behind : (xs : List (Option A)) (n : ℕ) → Configured (map (mapped_option f) xs) n → Configured xs n
  configured_behind xs n h = (omega (arith, h.0, length-map xs (mapped_option f)), sym (some_at xs n) ∙ h.1)

  pub free_seen : (xs : List (Option A)) (n : ℕ) → Free xs n → Free (map (mapped_option f) xs) n
  free_seen xs n h = (omega (arith, h.0, length-map xs (mapped_option f)), some_at xs n ∙ h.1)

  free_behind : (xs : List (Option A)) (n : ℕ) → Free (map (mapped_option f) xs) n → Free xs n
  free_behind xs n h = (omega (arith, h.0, length-map xs (mapped_option f)), sym (some_at xs n) ∙ h.1)

  -- which is no number past a table of m entries
  pub free_below : (xs : List (Option A)) (n m : ℕ) → length xs ≡ m → Free (map (mapped_option f) xs) n → n < m
  free_below xs n m e h = omega (arith, (free_behind xs n h).0)

module _ {A : Type 0} (xs : List (Option A)) (n : ℕ) (x : Option A) where
  -- another entry is as it was
  pub configured_other : (k : ℕ) → (k ≡ n → ⊥) → Configured (set xs n x) k → Configured xs k
  configured_other k ne h = (omega (arith, h.0, length-set xs n x), ap is_some (sym (get_or-set_other xs n k x None ne)) ∙ h.1)

  pub configured_still : (k : ℕ) → (k ≡ n → ⊥) → Configured xs k → Configured (set xs n x) k
  configured_still k ne h = (omega (arith, h.0, length-set xs n x), ap is_some (get_or-set_other xs n k x None ne) ∙ h.1)

-- an entry that is cleared names nothing
pub cleared : {A : Type 0} (xs : List (Option A)) (n k : ℕ) → Configured (set xs n None) k → k ≡ n → ⊥
cleared xs n k h e =
    let l : n < length xs = omega (arith, h.0, length-set xs n None) in
    false≢true (ap is_some (sym (get_or-set_same xs n None None l)) ∙ ap (λ (i : ℕ). is_some (get_or (set xs n None) i None)) (sym e) ∙ h.1)
