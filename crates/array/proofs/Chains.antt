-- What `all` and `any` answer, by the index of each element.
use Rattle.std.proofs.Common.{◌≡◌, ℕ, ◌<◌, Bool, true, false, not, List, length, get_or, Option, MatchOption, ◌↔◌, ⊎_elim, arith}
use Rattle.std.proofs.lemmas.Bool.{MatchBool-at_true, MatchBool-at_false, cases_Bool, both_ways, not-true, not_from_false, false_from_ne_true}
use Rattle.std.proofs.lemmas.Iterator.{YieldsList, cases_from_all, cases_from_any}
use Rattle.std.specs.Fn.{Called}
use Rattle.std.specs.Iterator.{YieldsThen}
use Rattle.std.specs.List.{FoldsTo, AllWithin, HoldsAt}
use denote.Param.Members.{Mut}

-- a closure that is true just where P holds
pub all_by_index : {S A B F : Type 0} {steps : S → Option A → S → Type 0} {v : A → B} {g : Mut F (A × Unit {0}) Bool} {s : S} {xs : List B} (P : B → Type 0) (d : B) (u : S) (f : F) (r : Bool) →
    (ys : List A) × (o : Option A) × (j : F) × YieldsThen steps s ys o u × FoldsTo (λ p x q. Called g p (x, tt) true q) f ys j × MatchOption o (r ≡ true) (λ x. (r ≡ false) × ((h : F) × Called g j (x, tt) false h)) →
    YieldsList steps v s xs → ((x : A) (q : F) → Called g f (x, tt) true q → (q ≡ f) × P (v x)) → ((x : A) (q : F) → Called g f (x, tt) false q → P (v x) → ⊥) →
    (r ≡ true) ↔ ((i : ℕ) → i < length xs → P (get_or xs i d))
all_by_index {xs = xs} P d u f r ran yields holds fails =
    let told = cases_from_all u f r P (λ x. P x → ⊥) ran yields holds fails in (
      λ t i h. (MatchBool-at_true (AllWithin P xs 0 (length xs)) ((k : ℕ) × (k < length xs) × HoldsAt (λ x. P x → ⊥) xs k) t told) i d (omega arith) h,
      λ all.
          ⊎_elim (λ t. t)
          (λ e. let bad = MatchBool-at_false (AllWithin P xs 0 (length xs)) ((k : ℕ) × (k < length xs) × HoldsAt (λ x. P x → ⊥) xs k) e told in absurd (bad.2 d (all bad.0 bad.1)))
          (cases_Bool r),
    )

pub any_by_index : {S A B F : Type 0} {steps : S → Option A → S → Type 0} {v : A → B} {g : Mut F (A × Unit {0}) Bool} {s : S} {xs : List B} (P : B → Type 0) (d : B) (u : S) (f : F) (r : Bool) →
    (ys : List A) × (o : Option A) × (j : F) × YieldsThen steps s ys o u × FoldsTo (λ p x q. Called g p (x, tt) false q) f ys j × MatchOption o (r ≡ false) (λ x. (r ≡ true) × ((h : F) × Called g j (x, tt) true h)) →
    YieldsList steps v s xs → ((x : A) (q : F) → Called g f (x, tt) true q → P (v x)) → ((x : A) (q : F) → Called g f (x, tt) false q → (q ≡ f) × (P (v x) → ⊥)) →
    (r ≡ true) ↔ ((i : ℕ) × (i < length xs) × P (get_or xs i d))
any_by_index {xs = xs} P d u f r ran yields holds fails =
    let told = cases_from_any u f r P (λ x. P x → ⊥) ran yields holds fails in (
      λ t. let one = MatchBool-at_true ((k : ℕ) × (k < length xs) × HoldsAt P xs k) (AllWithin (λ x. P x → ⊥) xs 0 (length xs)) t told in (one.0, one.1, one.2 d),
      λ one.
          ⊎_elim (λ t. t)
          (λ e. absurd (MatchBool-at_false ((k : ℕ) × (k < length xs) × HoldsAt P xs k) (AllWithin (λ x. P x → ⊥) xs 0 (length xs)) e told one.0 d (omega arith) one.1 one.2))
          (cases_Bool r),
    )

-- and where it is asked that there be none
pub none_by_index : (P : ℕ → Type 0) (n : ℕ) (b : Bool) → (b ≡ true) ↔ ((i : ℕ) × (i < n) × P i) → (not b ≡ true) ↔ ((i : ℕ) → i < n → P i → ⊥)
none_by_index P n b some = (
  λ t i h p. both_ways b (not-true b t) (some.1 (i, h, p)),
  λ none. not_from_false b (false_from_ne_true b (λ t. let one = some.0 t in none one.0 one.1 one.2)),
)
