-- Two extents of one drive, of which the first does not end before the second. Assumes nothing.
use Rattle.std.proofs.Common.{◌≡◌, ℕ, ◌+◌, ◌<◌, ◌≤◌, Bool, true, false, ltb, MatchBool, refl, ⊎_elim, arith}
use Rattle.std.proofs.lemmas.Bool.{ltb-true, ltb-false, cases_lt}
use Rattle.layout.specs.declared.extent.ExtentRow.{ExtentRow}
use Rattle.layout.specs.Extents.{Overlap}

-- the later start lies in both
share : (e f : ExtentRow) → e.drive ≡ f.drive → 1 ≤ e.count → 1 ≤ f.count → f.start < e.start + e.count → e.start < f.start + f.count → Overlap e f
share e f d a b h k =
    ⊎_elim
    (λ (l : e.start < f.start). (e.drive, f.start, record { drive = refl; from = omega arith; below = h }, record { drive = d; from = omega arith; below = omega arith }))
    (λ (l : f.start ≤ e.start). (e.drive, e.start, record { drive = refl; from = omega arith; below = omega arith }, record { drive = d; from = l; below = k }))
    (cases_lt e.start f.start)

decide : (e f : ExtentRow) (t : Bool) → (t ≡ true → e.start < f.start + f.count) → (t ≡ false → f.start + f.count ≤ e.start) →
    e.drive ≡ f.drive → 1 ≤ e.count → 1 ≤ f.count → f.start < e.start + e.count → MatchBool t (Overlap e f) (Overlap e f → ⊥)
decide e f true yes' no' d a b h = share e f d a b h (yes' refl)
decide e f false yes' no' d a b h = λ o. let k = no' refl in omega (arith, o.2.from, o.3.below)

pub overlap_test : (e f : ExtentRow) (start end : ℕ) → end ≡ f.start + f.count → e.start ≡ start → e.drive ≡ f.drive → 1 ≤ e.count → 1 ≤ f.count → f.start < e.start + e.count →
    MatchBool (ltb start end) (Overlap e f) (Overlap e f → ⊥)
overlap_test e f start end p q d a b h = decide e f (ltb start end) (λ t. omega (arith, ltb-true start end t)) (λ t. omega (arith, ltb-false start end t)) d a b h
