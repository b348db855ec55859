-- One drive of a bus replaced.
use Rattle.std.proofs.Common.{◌≡◌, ℕ, ◌<◌, Bool, true, ◌≢◌, List, length, set, sym, ap, ◌∙◌, ⊎_elim, arith}
use Rattle.std.proofs.lemmas.List.{get_or-set_same, get_or-set_other, length-set, ext_get_or, set-get_or, get_or_past}
use Rattle.std.proofs.lemmas.Bool.{cases_eq, cases_lt}
use Rattle.bus.specs.Drives.{Drive, at, size, broke, absent}

pub at_set : (s : List Drive) (d : ℕ) (v : Drive) → d < length s → at (set s d v) d ≡ v
at_set s d v h = get_or-set_same s d v absent h

pub at_other : (s : List Drive) (d e : ℕ) (v : Drive) → e ≢ d → at (set s d v) e ≡ at s e
at_other s d e v ne = get_or-set_other s d e v absent ne

-- t is s with the drive d replaced by v
pub set_by : (s t : List Drive) (d : ℕ) (v : Drive) → length t ≡ length s → d < length s → at t d ≡ v → ((k : ℕ) → k ≢ d → at t k ≡ at s k) → t ≡ set s d v
set_by s t d v len h here other =
    ext_get_or absent t (set s d v) (len ∙ sym (length-set s d v))
    (λ k kn.
    ⊎_elim
    (λ (q : k ≡ d). ap (at t) q ∙ here ∙ sym (ap (at (set s d v)) q ∙ at_set s d v h))
    (λ ne. other k ne ∙ sym (at_other s d k v ne))
    (cases_eq k d))

-- what is broken can be broken again
pub broke_same : (s : List Drive) (d : ℕ) → (at s d).broken ≡ true → s ≡ broke s d
broke_same s d e =
    sym (set-get_or s d absent) ∙ ap (λ (f : Bool). set s d (record { blocks = (at s d).blocks; broken = f })) e

-- a drive with a block is there
pub there_by_size : (s : List Drive) (d b : ℕ) → b < size s d → d < length s
there_by_size s d b h =
    ⊎_elim (λ k. k) (λ k. let z : size s d ≡ 0 = ap (λ v. length v.blocks) (get_or_past s d absent k) in absurd (omega arith)) (cases_lt d (length s))
