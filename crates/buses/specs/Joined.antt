-- Two buses as one: the drives of the second are numbered after those of the first.
use Rattle.std.specs.Prelude.{◌≡◌, ℕ, ◌+◌, ◌-◌, ◌<◌, ◌≤◌, cond, ◌⊎◌, List, [], ◌++◌, length, Some, None, Ok, Err, Option, Result, nat_le, slice_index_or, refl}
use Rattle.std.proofs.Common.{ap, ◌∙◌, ⊎_elim, arith}
use Rattle.std.proofs.lemmas.List.{get_or_append_left, get_or-append_right, length-append}
use Rattle.std.proofs.lemmas.Bool.{cases_lt, le-leb, lt-leb, cond-true, cond-false}
use Rattle.bus.specs.declared.fault.BusFault.{BusFault}
use Rattle.bus.specs.Numbers.{renumbered}
use Rattle.bus.specs.Drives.{Drive, Sound, Fails, at, absent}
use Rattle.buses.specs.declared.misfit.Misfit.{Misfit}
use Rattle.buses.specs.declared.misfit.Misfit.TheVariants.{Count, Capacity, Bytes}
use Rattle.buses.specs.declared.joined.Side.{Side}
use Rattle.buses.specs.declared.joined.Side.TheVariants.{First, Second}

-- all drives where they are at most 16, else none
unfoldable pub joined : List Drive → List Drive → List Drive
joined s t = cond (nat_le (length s + length t) 16) (s ++ t) []

-- what the check before the making answers
abbrev pub FitsJoined : {U : Type 0} → List Drive → List Drive → Result U Misfit → Type 0
FitsJoined s t (Ok u) = length s + length t ≤ 16
FitsJoined s t (Err Count) = 16 < length s + length t
FitsJoined s t (Err Capacity) = ⊥
FitsJoined s t (Err Bytes) = ⊥

-- where the drive d of two joined buses is
abbrev pub Lies : List Drive → List Drive → ℕ → Option Side → Type 0
Lies s t d (Some First) = (length s + length t ≤ 16) × (d < length s)
Lies s t d (Some (Second e)) = (length s + length t ≤ 16) × (d ≡ length s + e)
Lies s t d None = 16 < length s + length t

-- the same answer, with its fault at the drive d
abbrev pub renamed : {U : Type 0} → ℕ → Result U BusFault → Result U BusFault
renamed d (Ok u) = Ok u
renamed d (Err e) = Err (renumbered d e)

-- a drive that fails in the joined bus (s, t before and u, v after) fails in the bus that it is of
abbrev pub FailsBelow : List Drive → List Drive → List Drive → List Drive → Type 0
FailsBelow s t u v =
    (k : ℕ) → Fails (joined s t) (joined u v) k → ((k < length s) × Fails s u k) ⊎ ((length s ≤ k) × Fails t v (k - length s))

module _ (s t : List Drive) where
  pub joined_all : length s + length t ≤ 16 → joined s t ≡ s ++ t
  unfolding joined
  joined_all h = cond-true (nat_le (length s + length t) 16) (s ++ t) [] (le-leb (length s + length t) 16 h)

  pub joined_none : 16 < length s + length t → joined s t ≡ []
  unfolding joined
  joined_none h = cond-false (nat_le (length s + length t) 16) (s ++ t) [] (lt-leb (length s + length t) 16 h)

  pub count_all : length s + length t ≤ 16 → length (joined s t) ≡ length s + length t
  count_all h = ap length (joined_all h) ∙ length-append s t

  pub count_none : 16 < length s + length t → length (joined s t) ≡ 0
  count_none h = ap length (joined_none h)

  pub at_first : (d : ℕ) → length s + length t ≤ 16 → d < length s → at (joined s t) d ≡ at s d
  at_first d few h = ap (λ v. at v d) (joined_all few) ∙ get_or_append_left s t absent d h

  pub at_second : (d : ℕ) → length s + length t ≤ 16 → length s ≤ d → at (joined s t) d ≡ at t (d - length s)
  at_second d few h = ap (λ v. at v d) (joined_all few) ∙ get_or-append_right s t (length s) d absent refl h

  pub at_neither : (d : ℕ) → 16 < length s + length t → at (joined s t) d ≡ absent
  at_neither d h = ap (λ v. at v d) (joined_none h)

  -- what holds of each drive of both holds of each drive of the joined bus
  each_drive : (P : Drive → Type 0) → ((d : ℕ) → d < length s → P (at s d)) → ((d : ℕ) → d < length t → P (at t d)) → (d : ℕ) → d < length (joined s t) → P (at (joined s t) d)
  each_drive P first second d h =
      ⊎_elim
      (λ many. absurd (omega (arith, count_none many)))
      (λ few.
      ⊎_elim
      (λ k. rw (at_first d few k) (first d k))
      (λ k. rw (at_second d few k) (second (d - length s) (omega (arith, count_all few))))
      (cases_lt d (length s)))
      (cases_lt 16 (length s + length t))

  pub sound_joined : Sound s → Sound t → Sound (joined s t)
  sound_joined p q = record {
    few = ⊎_elim (λ many. omega (arith, count_none many)) (λ few. omega (arith, count_all few)) (cases_lt 16 (length s + length t));
    some = each_drive (λ v. 1 ≤ length v.blocks) p.some q.some;
    small = each_drive (λ v. length v.blocks ≤ 65536) p.small q.small;
    whole = λ d b h k. each_drive (λ v. (b : ℕ) → b < length v.blocks → length (slice_index_or v.blocks b []) ≡ 512) (λ e i b j. p.whole e b i j) (λ e i b j. q.whole e b i j) d h b k;
  }
