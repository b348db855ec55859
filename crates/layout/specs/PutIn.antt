-- One element put into a list, and lists that agree but at one place. Assumes nothing.
use Rattle.std.specs.Prelude.{◌≡◌, ℕ, zero, suc, ◌+◌, ◌<◌, ◌≤◌, ◌≢◌, List, [], ◌∷◌, length, get_or, slice_index_or, slice_set, refl}
use Rattle.std.proofs.Common.{sym, ap, ◌∙◌, ⊎_elim, not-suc-le-zero, le_of_suc-le-suc, add-one, arith, length-set, get_or-set_same, get_or-set_other}
use Rattle.std.proofs.lemmas.List.{ext_get_or}
use Rattle.std.proofs.lemmas.Bool.{cases_eq}
use Rattle.layout.specs.Blocks.{put_in}

pub length_insert : {A : Type 0} (c : ℕ) (x : A) (us : List A) → length (put_in c x us) ≡ suc (length us)
length_insert zero x us = refl
length_insert (suc c) x [] = refl
length_insert (suc c) x (u ∷ us) = ap suc (length_insert c x us)

pub insert_below : {A : Type 0} (c : ℕ) (x : A) (us : List A) (p : ℕ) (d : A) → p < c → p < length us → slice_index_or (put_in c x us) p d ≡ slice_index_or us p d
insert_below zero x us p d h k = absurd (not-suc-le-zero h)
insert_below (suc c) x [] p d h k = absurd (not-suc-le-zero k)
insert_below (suc c) x (u ∷ us) zero d h k = refl
insert_below (suc c) x (u ∷ us) (suc p) d h k = insert_below c x us p d (le_of_suc-le-suc h) (le_of_suc-le-suc k)

above : {A : Type 0} (c : ℕ) (x : A) (us : List A) (p : ℕ) (d : A) → c ≤ p → slice_index_or (put_in c x us) (suc p) d ≡ slice_index_or us p d
above zero x us p d h = refl
above (suc c) x [] p d h = refl
above (suc c) x (u ∷ us) zero d h = absurd (not-suc-le-zero h)
above (suc c) x (u ∷ us) (suc p) d h = above c x us p d (le_of_suc-le-suc h)

pub insert_above : {A : Type 0} (c : ℕ) (x : A) (us : List A) (p : ℕ) (d : A) → c ≤ p → slice_index_or (put_in c x us) (p + 1) d ≡ slice_index_or us p d
insert_above c x us p d h = rw add-one (above c x us p d h)

pub insert_at : {A : Type 0} (c : ℕ) (x : A) (us : List A) (d : A) → c ≤ length us → slice_index_or (put_in c x us) c d ≡ x
insert_at zero x us d h = refl
insert_at (suc c) x [] d h = absurd (not-suc-le-zero h)
insert_at (suc c) x (u ∷ us) d h = insert_at c x us d (le_of_suc-le-suc h)

-- what holds of x and of each element
pub insert_each : {A : Type 0} (P : A → Type 0) (c : ℕ) (x : A) (us : List A) (d : A) → P x → ((p : ℕ) → p < length us → P (slice_index_or us p d)) → (m : ℕ) → m < suc (length us) → P (slice_index_or (put_in c x us) m d)
insert_each P zero x us d px h zero k = px
insert_each P zero x us d px h (suc m) k = h m (le_of_suc-le-suc k)
insert_each P (suc c) x [] d px h zero k = px
insert_each P (suc c) x [] d px h (suc m) k = absurd (not-suc-le-zero (le_of_suc-le-suc k))
insert_each P (suc c) x (u ∷ us) d px h zero k = h zero (omega arith)
insert_each P (suc c) x (u ∷ us) d px h (suc m) k = insert_each P c x us d px (λ p q. h (suc p) (omega arith)) m (le_of_suc-le-suc k)

-- two lists that agree but at m, with one element put there
pub set_agree : {A : Type 0} (xs ys : List A) (m : ℕ) (v d : A) → length xs ≡ length ys → ((k : ℕ) → k < length xs → k ≢ m → slice_index_or xs k d ≡ slice_index_or ys k d) → slice_set xs m v ≡ slice_set ys m v
set_agree xs ys m v d e h =
    ext_get_or d (slice_set xs m v) (slice_set ys m v) (simp length-set e) (λ k lt.
    let l : k < length xs = omega (arith, length-set xs m v) in
    ⊎_elim (λ q. ap (λ (i : ℕ). get_or (slice_set xs m v) i d) q ∙ get_or-set_same xs m v d (omega arith) ∙ sym (get_or-set_same ys m v d (omega arith)) ∙ ap (λ (i : ℕ). get_or (slice_set ys m v) i d) (sym q))
    (λ ne. get_or-set_other xs m k v d ne ∙ h k l ne ∙ sym (get_or-set_other ys m k v d ne)) (cases_eq k m))
