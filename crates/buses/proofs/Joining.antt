-- A request to a bus that is a part of a larger one.
use Rattle.std.proofs.Common.{◌≡◌, ℕ, ◌+◌, ◌-◌, ◌<◌, ◌≤◌, true, false, List, [], ◌++◌, length, get_or, set, Ok, Err, Result, sym, refl, ap, ◌∙◌, subst, inl, inr, ⊎_elim, arith}
use Rattle.std.specs.Result.{MatchResult, IsErrAnd}
use Rattle.std.proofs.lemmas.Result.{err_from_is_err_and}
use Rattle.std.proofs.lemmas.List.{length-set, set-append_left, set-append_right}
use Rattle.std.proofs.lemmas.Bool.{cases_lt, true≢false}
use Rattle.bus.specs.declared.fault.BusFault.{BusFault}
use Rattle.bus.specs.declared.fault.BusFault.TheVariants.{NoDrive, Length, Range, Broken}
use Rattle.bus.specs.Numbers.{address, no_drive_at, drive_of, renumbered}
use Rattle.bus.specs.Drives.{Drive, at, size}
use Rattle.bus.specs.Requests.{Placed, RefusedBy, Faults, Reads, Writes}
use Rattle.buses.specs.Joined.{joined, renamed, FailsBelow, joined_all, count_all, count_none, at_first, at_second, at_neither}

-- the drive d of `up s` is the drive e of s
pub record Part (up : List Drive → List Drive) (s : List Drive) (d e : ℕ) : Type 0 where
  pub same : at (up s) d ≡ at s e
  pub exists : e < length s → d < length (up s)
  pub beyond : length s ≤ e → length (up s) ≤ d
  pub put : (v : Drive) → e < length s → up (set s e v) ≡ set (up s) d v

module _ (up : List Drive → List Drive) (s t : List Drive) (d e : ℕ) (part : Part up s d e) where
  size_part : size (up s) d ≡ size s e
  size_part = ap (λ v. length v.blocks) part.same

  placed_part : (b len : ℕ) → Placed s e b len → Placed (up s) d b len
  placed_part b len p = record { exists = part.exists p.exists; whole = p.whole; within = omega (arith, size_part, p.within) }

  refused_part : (b len : ℕ) (c : BusFault) → RefusedBy s t e b len c → RefusedBy (up s) (up t) d b len c
  refused_part b len (NoDrive a) q = record { beyond = part.beyond q.beyond; same = ap up q.same }
  refused_part b len (Length a) q = record { exists = part.exists q.exists; other = q.other; same = ap up q.same }
  refused_part b len (Range a) q =
      record { exists = part.exists q.exists; whole = q.whole; beyond = omega (arith, size_part, q.beyond); same = ap up q.same }
  refused_part b len (Broken a) q = record {
    placed = placed_part b len q.placed;
    broken = ap up q.broken ∙ part.put _ q.placed.exists ∙ ap (λ (v : Drive). set (up s) d (record { blocks = v.blocks; broken = true })) (sym part.same);
  }

  faults_part : (b len : ℕ) (f : BusFault) → Faults s t e b len f → Faults (up s) (up t) d b len (renumbered d f)
  faults_part b len (NoDrive a) q = (record { drive = refl; place = q.0.place }, refused_part b len (NoDrive a) q.1)
  faults_part b len (Length a) q = (record { drive = refl; place = q.0.place }, refused_part b len (Length a) q.1)
  faults_part b len (Range a) q = (record { drive = refl; place = q.0.place }, refused_part b len (Range a) q.1)
  faults_part b len (Broken a) q = (record { drive = refl; place = q.0.place }, refused_part b len (Broken a) q.1)

  pub reads_part : {U : Type 0} (b : ℕ) (was is : List ℕ) (r z : Result U BusFault) → z ≡ renamed d r → Reads s t e b was is r → Reads (up s) (up t) d b was is z
  reads_part b was is (Ok u) z i q = subst (λ v. Reads (up s) (up t) d b was is v) (sym i) record {
    placed = placed_part b (length was) q.placed;
    working = ap (λ v. v.broken) part.same ∙ q.working;
    filled = q.filled ∙ ap (λ v. get_or v.blocks b []) (sym part.same);
    same = ap up q.same;
  }
  reads_part b was is (Err f) z i q = subst (λ v. Reads (up s) (up t) d b was is v) (sym i) (q.0, faults_part b (length was) f q.1)

  pub writes_part : {U : Type 0} (b : ℕ) (xs : List ℕ) (r z : Result U BusFault) → z ≡ renamed d r → Writes s t e b xs r → Writes (up s) (up t) d b xs z
  writes_part b xs (Ok u) z i q = subst (λ v. Writes (up s) (up t) d b xs v) (sym i) record {
    placed = placed_part b (length xs) q.placed;
    working = ap (λ v. v.broken) part.same ∙ q.working;
    stored = ap up q.stored ∙ part.put _ q.placed.exists ∙ ap (λ (v : Drive). set (up s) d (record { blocks = set v.blocks b xs; broken = v.broken })) (sym part.same);
  }
  writes_part b xs (Err f) z i q = subst (λ v. Writes (up s) (up t) d b xs v) (sym i) (faults_part b (length xs) f q)

-- an answer whose fault was renumbered
pub renamed_by : {U : Type 0} (d : ℕ) (P : BusFault → BusFault → Type 0) → ((e f : BusFault) → P e f → f ≡ renumbered d e) → (r z : Result U BusFault) → MatchResult r (λ x. z ≡ Ok x) (λ e. IsErrAnd z (P e)) → z ≡ renamed d r
renamed_by d P h (Ok u) z q = q
renamed_by d P h (Err e) z q = let p = err_from_is_err_and z q in p.1 ∙ ap (λ f. Err f) (h e p.0 p.2)

-- a fault that names the drive d is the same fault of it
same_renumbered : (d : ℕ) (f : BusFault) → drive_of f ≡ d → f ≡ renumbered d f
same_renumbered d (NoDrive a) e = ap (λ k. NoDrive (address k a.block)) e
same_renumbered d (Length a) e = ap (λ k. Length (address k a.block)) e
same_renumbered d (Range a) e = ap (λ k. Range (address k a.block)) e
same_renumbered d (Broken a) e = ap (λ k. Broken (address k a.block)) e

pub reads_named : {U : Type 0} (s t : List Drive) (d b : ℕ) (was is : List ℕ) (r : Result U BusFault) → Reads s t d b was is r → r ≡ renamed d r
reads_named s t d b was is (Ok u) q = refl
reads_named s t d b was is (Err f) q = ap (λ v. Err v) (same_renumbered d f q.1.0.drive)

pub writes_named : {U : Type 0} (s t : List Drive) (d b : ℕ) (xs : List ℕ) (r : Result U BusFault) → Writes s t d b xs r → r ≡ renamed d r
writes_named s t d b xs (Ok u) q = refl
writes_named s t d b xs (Err f) q = ap (λ v. Err v) (same_renumbered d f q.0.drive)

module _ (s t : List Drive) (d : ℕ) (few : length s + length t ≤ 16) where
  -- a drive of the first of two buses
  pub first_part : d < length s → Part (λ v. joined v t) s d d
  first_part h = record {
    same = at_first s t d few h;
    exists = λ k. omega (arith, count_all s t few);
    beyond = λ k. absurd (omega arith);
    put = λ v k.
        joined_all (set s d v) t (omega (arith, length-set s d v))
        ∙ sym (set-append_left s t d v h)
        ∙ ap (λ w. set w d v) (sym (joined_all s t few));
  }

  -- a drive of the second
  pub second_part : (e : ℕ) → d ≡ length s + e → Part (λ v. joined s v) t d e
  second_part e i =
      let e-is : d - length s ≡ e = omega arith in
      record {
        same = at_second s t d few (omega arith) ∙ ap (at t) e-is;
        exists = λ k. omega (arith, count_all s t few);
        beyond = λ k. omega (arith, count_all s t few);
        put = λ v k.
            joined_all s (set t e v) (omega (arith, length-set t e v))
            ∙ ap (λ j. s ++ set t j v) (sym e-is)
            ∙ sym (set-append_right s t (length s) d v refl (omega arith))
            ∙ ap (λ w. set w d v) (sym (joined_all s t few));
      }

pub neither : (s t : List Drive) (d b len : ℕ) → 16 < length s + length t → Faults (joined s t) (joined s t) d b len (no_drive_at d b)
neither s t d b len h = (record { drive = refl; place = refl }, record { beyond = omega (arith, count_none s t h); same = refl })

-- what fails in the joined bus fails in one of the two
pub fails_below : (s t u v : List Drive) → length u ≡ length s → length v ≡ length t → FailsBelow s t u v
fails_below s t u v su tv k f =
    ⊎_elim
    (λ many. let z : true ≡ false = sym (ap (λ w. w.broken) (at_neither s t k many)) ∙ f.before in absurd (true≢false z))
    (λ few.
    let fewer : length u + length v ≤ 16 = omega arith in
    ⊎_elim
    (λ h. inl (
      h,
      record {
        before = sym (ap (λ w. w.broken) (at_first s t k few h)) ∙ f.before;
        after = sym (ap (λ w. w.broken) (at_first u v k fewer (omega arith))) ∙ f.after;
      },
    ))
    (λ h. inr (
      h,
      record {
        before = sym (ap (λ w. w.broken) (at_second s t k few h)) ∙ f.before;
        after = ap (λ j. (at v (k - j)).broken) (sym su) ∙ sym (ap (λ w. w.broken) (at_second u v k fewer (omega arith))) ∙ f.after;
      },
    ))
    (cases_lt k (length s)))
    (cases_lt 16 (length s + length t))
