-- The memory behind one of two joined buses.
use Rattle.std.proofs.Common.{◌≡◌, ℕ, ◌+◌, ◌-◌, ◌<◌, ◌≤◌, List, length, Result, ⊎_elim, arith}
use Rattle.std.proofs.lemmas.Bool.{cases_lt}
use Rattle.bus.specs.declared.fault.BusFault.{BusFault}
use Rattle.bus.specs.Drives.{Drive}
use Rattle.bus.specs.Requests.{Reads}
use Rattle.buses.specs.Joined.{joined, renamed, count_none}
use Rattle.buses.proofs.Joining.{reads_part, first_part, second_part}

module _ (s t : List Drive) (d b : ℕ) (was is : List ℕ) (r z : Result (Unit {0}) BusFault) (exists : d < length (joined s t)) (named : z ≡ renamed d r) where
  few : length s + length t ≤ 16
  few = ⊎_elim (λ many. absurd (omega (arith, count_none s t many))) (λ h. h) (cases_lt 16 (length s + length t))

  pub first_peek : d < length s → Reads s s d b was is r → Reads (joined s t) (joined s t) d b was is z
  first_peek h q = reads_part (λ v. joined v t) s s d d (first_part s t d few h) b was is r z named q

  pub second_peek : length s ≤ d → Reads t t (d - length s) b was is r → Reads (joined s t) (joined s t) d b was is z
  second_peek h q = reads_part (λ v. joined s v) t t d (d - length s) (second_part s t d few (d - length s) (omega arith)) b was is r z named q
