-- What holds above every bus, whichever it is.
use Rattle.std.specs.Prelude.{◌≡◌, ℕ, true, List, length, Ok, Err, Result, ◌≢◌}
use Rattle.bus.specs.declared.fault.BusFault.{BusFault}
use Rattle.bus.specs.Drives.{Drive, Sound, Worse, at, block}
use Rattle.bus.specs.Requests.{Reads, Writes}

-- nothing need happen between two requests
abbrev pub WorseRefl : Type 0
WorseRefl = (s : List Drive) → Worse s s

-- what happens twice happens at once
abbrev pub WorseTrans : Type 0
WorseTrans = (s t u : List Drive) → Worse s t → Worse t u → Worse s u

-- broken drives are drives of the same count and capacity
abbrev pub WorseSound : Type 0
WorseSound = (s t : List Drive) → Worse s t → Sound s → Sound t

-- a read, whatever it answers, breaks at most its drive, and changes nothing else
abbrev pub ReadsWorsen : Type 0
ReadsWorsen = (s t : List Drive) (d b : ℕ) (was is : List ℕ) (r : Result ℕ BusFault) → Reads s t d b was is r → Worse s t

-- and so does a refused write
abbrev pub RefusedWritesWorsen : Type 0
RefusedWritesWorsen = (s t : List Drive) (d b : ℕ) (xs : List ℕ) (e : BusFault) → Writes {U = ℕ} s t d b xs (Err e) → Worse s t

-- A request to the drive d leaves every other drive as it was,
pub record Elsewhere (s t : List Drive) (d b : ℕ) : Type 0 where
  pub drives : (e : ℕ) → (e ≢ d) → at t e ≡ at s e
  -- and of the drive d every block but b;
  pub blocks : (c : ℕ) → (c ≢ b) → block t d c ≡ block s d c
  -- the drive keeps its capacity, and a broken drive stays broken.
  pub capacity : length (at t d).blocks ≡ length (at s d).blocks
  pub stays : (at s d).broken ≡ true → (at t d).broken ≡ true

abbrev pub WritesElsewhere : Type 0
WritesElsewhere = (s t : List Drive) (d b : ℕ) (xs : List ℕ) (r : Result ℕ BusFault) → Writes s t d b xs r → Elsewhere s t d b

-- an accepted write is what a read of that block gives next, whatever drives break between
abbrev pub WriteThenRead : Type 0
WriteThenRead =
    (s t u v : List Drive) (d b : ℕ) (xs was is : List ℕ) → Writes {U = ℕ} s t d b xs (Ok 0) → Worse t u → Reads {U = ℕ} u v d b was is (Ok 0) → is ≡ xs
