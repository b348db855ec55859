-- Which buses can be made, and how many drives one has that is made all the same.
use Rattle.std.specs.Prelude.{◌≡◌, ℕ, ◌*◌, ◌<◌, ◌≤◌, Bool, true, cond, ◌&&◌, ◌⊎◌, List, length, Ok, Err, Result, ◌==◌, nat_le}
use Rattle.std.proofs.Common.{sym, ap, ◌∙◌, arith}
use Rattle.std.proofs.Math.Logic.{inl, inr, ⊎_elim}
use Rattle.std.proofs.lemmas.Bool.{cases_Bool, and_parts, and_from, leb-true, eqb-true, le-leb, eq-eqb, cond-true, cond-false}
use Rattle.bus.specs.Drives.{Sound}
use Rattle.buses.specs.declared.misfit.Misfit.{Misfit}
use Rattle.buses.specs.declared.misfit.Misfit.TheVariants.{Count, Capacity, Bytes}
use Rattle.buses.specs.Image.{image}
use Rattle.buses.specs.Images.{sound_is, count_is}

abbrev pub misfit_number : Misfit → ℕ
misfit_number Count = 3
misfit_number Capacity = 3
misfit_number Bytes = 3

-- n drives of cap blocks fill len bytes exactly
pub record Fit (len n cap : ℕ) : Type 0 where
  pub few : n ≤ 16
  pub some : 1 ≤ cap
  pub small : cap ≤ 65536
  pub filled : len ≡ n * cap * 512

pub record CapacityMisfit (n cap : ℕ) : Type 0 where
  pub few : n ≤ 16
  pub wrong : 1 ≤ cap → cap ≤ 65536 → ⊥

pub record BytesMisfit (len n cap : ℕ) : Type 0 where
  pub few : n ≤ 16
  pub some : 1 ≤ cap
  pub small : cap ≤ 65536
  pub other : len ≡ n * cap * 512 → ⊥

-- what the check before the making of a memory bus answers
abbrev pub FitsMemory : {U : Type 0} → ℕ → ℕ → ℕ → Result U Misfit → Type 0
FitsMemory len n cap (Ok u) = Fit len n cap
FitsMemory len n cap (Err Count) = 16 < n
FitsMemory len n cap (Err Capacity) = CapacityMisfit n cap
FitsMemory len n cap (Err Bytes) = BytesMisfit len n cap

abbrev fit_test : ℕ → ℕ → ℕ → Bool
fit_test len n cap = (nat_le n 16 && nat_le 1 cap) && (nat_le cap 65536 && len == n * cap * 512)

-- the number of drives: all that were asked for where they fit, else none
unfoldable pub fitting : ℕ → ℕ → ℕ → ℕ
fitting len n cap = cond (fit_test len n cap) n 0

module _ (len n cap : ℕ) where
  fit_from_test : fit_test len n cap ≡ true → Fit len n cap
  fit_from_test e =
      let p = and_parts (nat_le n 16 && nat_le 1 cap) (nat_le cap 65536 && len == n * cap * 512) e in
      let q = and_parts (nat_le n 16) (nat_le 1 cap) p.0 in
      let r = and_parts (nat_le cap 65536) (len == n * cap * 512) p.1 in
      record { few = leb-true n 16 q.0; some = leb-true 1 cap q.1; small = leb-true cap 65536 r.0; filled = eqb-true len (n * cap * 512) r.1 }

  test_from_fit : Fit len n cap → fit_test len n cap ≡ true
  test_from_fit f =
      and_from (nat_le n 16 && nat_le 1 cap) (nat_le cap 65536 && len == n * cap * 512)
      (and_from (nat_le n 16) (nat_le 1 cap) (le-leb n 16 f.few) (le-leb 1 cap f.some))
      (and_from (nat_le cap 65536) (len == n * cap * 512) (le-leb cap 65536 f.small) (eq-eqb len (n * cap * 512) f.filled))

  pub fitting_all : Fit len n cap → fitting len n cap ≡ n
  unfolding fitting
  fitting_all f = cond-true (fit_test len n cap) n 0 (test_from_fit f)

  pub fitting_none : (Fit len n cap → ⊥) → fitting len n cap ≡ 0
  unfolding fitting
  fitting_none unfit = ⊎_elim (λ e. absurd (unfit (fit_from_test e))) (λ e. cond-false (fit_test len n cap) n 0 e) (cases_Bool (fit_test len n cap))

  pub fit_cases : ((Fit len n cap) × (fitting len n cap ≡ n)) ⊎ (fitting len n cap ≡ 0)
  unfolding fitting
  fit_cases = ⊎_elim (λ e. inl (fit_from_test e, cond-true (fit_test len n cap) n 0 e)) (λ e. inr (cond-false (fit_test len n cap) n 0 e)) (cases_Bool (fit_test len n cap))

  -- where there is a drive, all fits
  pub fit_from_drive : (d : ℕ) → d < fitting len n cap → Fit len n cap × (fitting len n cap ≡ n)
  fit_from_drive d h = ⊎_elim (λ p. p) (λ e. absurd (omega arith)) fit_cases

pub sound_fitting : (xs : List ℕ) (n cap : ℕ) → Sound (image xs (fitting (length xs) n cap) cap)
sound_fitting xs n cap =
    ⊎_elim
    (λ p. sound_is xs (fitting (length xs) n cap) cap (omega (arith, p.1, p.0.few)) p.0.some p.0.small (p.0.filled ∙ ap (λ k. k * cap * 512) (sym p.1)))
    (λ e. record {
      few = omega (arith, count_is xs (fitting (length xs) n cap) cap, e);
      some = λ d h. absurd (omega (arith, count_is xs (fitting (length xs) n cap) cap, e));
      small = λ d h. absurd (omega (arith, count_is xs (fitting (length xs) n cap) cap, e));
      whole = λ d b h k. absurd (omega (arith, count_is xs (fitting (length xs) n cap) cap, e));
    })
    (fit_cases (length xs) n cap)
