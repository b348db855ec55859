-- A bus over another whose drives break when told to.
use Rattle.std.specs.Prelude.{◌≡◌, ℕ, ◌-◌, ◌<◌, ◌≤◌, Bool, true, false, cond, ◌||◌, ◌⊎◌, List, [], map, length, get_or, Some, None, Ok, Err, Option, Result, ◌==◌, ◌≢◌, slice_index_or, slice_set}
use Rattle.std.proofs.Common.{sym, ◌∙◌, arith}
use Rattle.std.proofs.Math.Path.{ap}
use Rattle.std.proofs.Math.Logic.{⊎_elim}
use Rattle.std.specs.List.{range_with_len}
use Rattle.std.proofs.lemmas.List.FromFn.{length-map-range_with_len, get_or-map-range_with_len}
use Rattle.std.proofs.lemmas.List.{get_or_past}
use Rattle.std.proofs.lemmas.Bool.{cases_lt}
use Rattle.bus.specs.declared.fault.BusFault.{BusFault}
use Rattle.bus.specs.Numbers.{no_drive_at, broken_at}
use Rattle.bus.specs.Drives.{Drive, Sound, Fails, at, size, block, broke, absent}
use Rattle.bus.specs.Requests.{Placed}

-- What a drive has left: nothing was told it, or it breaks in the n-th next access; with 0 left it is broken.
abbrev pub gone : Option ℕ → Bool
gone None = false
gone (Some n) = n == 0

abbrev pub left_of : List (Option ℕ) → ℕ → Option ℕ
left_of ls d = slice_index_or ls d None

-- after one access more
abbrev pub fewer : Option ℕ → Option ℕ
fewer None = None
fewer (Some n) = Some (n - 1)

-- after the word that it is to break in the n-th next access; no word mends it
abbrev pub retold : ℕ → Option ℕ → Option ℕ
retold n x = cond (gone x) x (Some n)

abbrev pub mark : Drive → Bool → Drive
mark v f = record { blocks = v.blocks; broken = v.broken || f }

-- the drives below, of which those with nothing left are broken
unfoldable pub marked : List Drive → List (Option ℕ) → List Drive
marked s ls = map (λ d. mark (at s d) (gone (left_of ls d))) (range_with_len 0 (length s))

-- what telling the drive d answers and leaves: ls was told before, ms is after
pub record ToldBy (s : List Drive) (ls ms : List (Option ℕ)) (d n : ℕ) : Type 0 where
  pub exists : d < length s
  pub word : ms ≡ slice_set ls d (retold n (left_of ls d))
  pub at_once : n ≡ 0 → marked s ms ≡ broke (marked s ls) d
  pub later : (n ≢ 0) → marked s ms ≡ marked s ls

pub record UntoldBy (s : List Drive) (ls ms : List (Option ℕ)) (d : ℕ) (e : BusFault) : Type 0 where
  pub beyond : length s ≤ d
  pub fault : e ≡ no_drive_at d 0
  pub same : ms ≡ ls

abbrev pub Told : {U : Type 0} → List Drive → List (Option ℕ) → List (Option ℕ) → ℕ → ℕ → Result U BusFault → Type 0
Told s ls ms d n (Ok u) = ToldBy s ls ms d n
Told s ls ms d n (Err e) = UntoldBy s ls ms d e

-- what breaking the drive d at once answers and leaves, of the bus's own drives
pub record BrokeBy (s t : List Drive) (d : ℕ) : Type 0 where
  pub exists : d < length s
  pub broken : t ≡ broke s d

pub record NotBrokeBy (s t : List Drive) (d : ℕ) (e : BusFault) : Type 0 where
  pub beyond : length s ≤ d
  pub fault : e ≡ no_drive_at d 0
  pub same : t ≡ s

abbrev pub Breaks : {U : Type 0} → List Drive → List Drive → ℕ → Result U BusFault → Type 0
Breaks s t d (Ok u) = BrokeBy s t d
Breaks s t d (Err e) = NotBrokeBy s t d e

-- What a request for the block b of the drive d, with a buffer of len bytes, does to what the drives have left:
-- s and t are the drives below before and after it.
pub record Counts (s t : List Drive) (ls ms : List (Option ℕ)) (d b len : ℕ) : Type 0 where
  -- one access is counted where the request reaches the drive,
  pub reached : Placed s d b len → ms ≡ slice_set ls d (fewer (left_of ls d))
  pub missed : (Placed s d b len → ⊥) → ms ≡ ls
  -- and a drive with nothing left is not tried
  pub untried : Placed s d b len → gone (left_of ms d) ≡ true → t ≡ s

-- a drive that fails in a request to d fails below, or was told to break in this access
abbrev pub FailsAsTold : List Drive → List Drive → List (Option ℕ) → List (Option ℕ) → ℕ → Type 0
FailsAsTold s t ls ms d = (k : ℕ) → Fails (marked s ls) (marked t ms) k → Fails s t k ⊎ ((k ≡ d) × (left_of ls k ≡ Some 1))

-- whether a request is held back that the bus below would take up
pub record Reached (s : List Drive) (ls ms : List (Option ℕ)) (d b len : ℕ) (f : Bool) : Type 0 where
  pub placed : Placed s d b len
  pub inside : d < length ls
  pub counted : ms ≡ slice_set ls d (fewer (left_of ls d))
  pub flag : gone (left_of ms d) ≡ f

pub record Missed (s : List Drive) (ls ms : List (Option ℕ)) (d b len : ℕ) : Type 0 where
  pub misplaced : Placed s d b len → ⊥
  pub same : ms ≡ ls

abbrev pub Stops : {U : Type 0} → List Drive → List (Option ℕ) → List (Option ℕ) → ℕ → ℕ → ℕ → Result U BusFault → Type 0
Stops s ls ms d b len (Ok u) = Reached s ls ms d b len false ⊎ Missed s ls ms d b len
Stops s ls ms d b len (Err e) = Reached s ls ms d b len true × (e ≡ broken_at d b)

module _ (s : List Drive) (ls : List (Option ℕ)) where
  pub count_marked : length (marked s ls) ≡ length s
  unfolding marked
  count_marked = length-map-range_with_len (λ d. mark (at s d) (gone (left_of ls d))) 0 (length s)

  pub at_marked : (d : ℕ) → at (marked s ls) d ≡ mark (at s d) (gone (left_of ls d))
  unfolding marked
  at_marked d =
      ⊎_elim
      (λ h. get_or-map-range_with_len (λ d. mark (at s d) (gone (left_of ls d))) 0 (length s) d d absent h (omega arith))
      (λ h. get_or_past (marked s ls) d absent (omega (arith, count_marked)) ∙ ap (λ v. mark v (gone (left_of ls d))) (sym (get_or_past s d absent h)))
      (cases_lt d (length s))

  pub size_marked : (d : ℕ) → size (marked s ls) d ≡ size s d
  size_marked d = ap (λ v. length v.blocks) (at_marked d)

  pub block_marked : (d b : ℕ) → block (marked s ls) d b ≡ block s d b
  block_marked d b = ap (λ v. get_or v.blocks b []) (at_marked d)

  pub broken_marked : (d : ℕ) → (at (marked s ls) d).broken ≡ ((at s d).broken || gone (left_of ls d))
  broken_marked d = ap (λ v. v.broken) (at_marked d)

  pub sound_marked : Sound s → Sound (marked s ls)
  sound_marked p = record {
    few = omega (arith, count_marked, p.few);
    some = λ d h. omega (arith, size_marked d, p.some d (omega (arith, count_marked)));
    small = λ d h. omega (arith, size_marked d, p.small d (omega (arith, count_marked)));
    whole = λ d b h k. ap length (block_marked d b) ∙ p.whole d b (omega (arith, count_marked)) (omega (arith, size_marked d));
  }
