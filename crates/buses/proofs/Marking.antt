-- Requests to a bus whose drives break when told to, from those to the bus below.
use Rattle.std.proofs.Common.{◌≡◌, ℕ, ◌-◌, ◌<◌, Bool, true, false, ◌||◌, ◌≢◌, ◌⊎◌, List, length, set, replicate, Some, None, Ok, Err, Option, Result, sym, refl, ap, ◌∙◌, subst, inl, inr, ⊎_elim, arith}
use Rattle.std.proofs.lemmas.List.{get_or-set_same, get_or-set_other, length-set, ext_get_or, set-get_or, get_or_past, get_or-replicate}
use Rattle.std.proofs.lemmas.Bool.{cases_eq, cases_lt, or_right, or_from, or_cases, or_parts, both_ways, eqb-true, eqb-false, eq-eqb, ne_eqb, cond-true, cond-false}
use Rattle.bus.specs.declared.fault.BusFault.{BusFault}
use Rattle.bus.specs.declared.fault.BusFault.TheVariants.{NoDrive, Length, Range, Broken}
use Rattle.bus.specs.Numbers.{broken_at}
use Rattle.bus.specs.Drives.{Drive, at, stored, broke, absent}
use Rattle.bus.specs.Requests.{Placed, RefusedBy, Faults, Reads, Writes}
use Rattle.bus.proofs.Changing.{at_set, at_other, set_by, broke_same}
use Rattle.buses.specs.Breaking.{gone, left_of, fewer, mark, marked, ToldBy, Told, Breaks, FailsAsTold, Reached, Missed, count_marked, at_marked, size_marked, block_marked, broken_marked}

-- only which drives have nothing left matters
pub marked_as : (s : List Drive) (ls ms : List (Option ℕ)) → ((k : ℕ) → gone (left_of ms k) ≡ gone (left_of ls k)) → marked s ms ≡ marked s ls
marked_as s ls ms h =
    ext_get_or absent (marked s ms) (marked s ls) (count_marked s ms ∙ sym (count_marked s ls))
    (λ k kn. at_marked s ms k ∙ ap (mark (at s k)) (h k) ∙ sym (at_marked s ls k))

or_false : (x : Bool) → (x || false) ≡ x
or_false true = refl
or_false false = refl

untold : (k : ℕ) → gone (left_of (replicate 16 None) k) ≡ false
untold k = ap gone (⊎_elim (λ h. get_or-replicate 16 k None None h) (λ h. get_or_past (replicate 16 None) k None h) (cases_lt k 16))

pub marked_untold : (s : List Drive) → marked s (replicate 16 None) ≡ s
marked_untold s =
    ext_get_or absent (marked s (replicate 16 None)) s (count_marked s (replicate 16 None))
    (λ k h.
    at_marked s (replicate 16 None) k
    ∙ ap (λ (f : Bool). record { blocks = (at s k).blocks; broken = (at s k).broken || f }) (untold k)
    ∙ ap (λ (f : Bool). record { blocks = (at s k).blocks; broken = f }) (or_false (at s k).broken))

module _ (s : List Drive) (ls : List (Option ℕ)) (d : ℕ) (h : d < length s) where
  within : d < length (marked s ls)
  within = omega (arith, count_marked s ls)

  marked_set : (v : Drive) → marked (set s d v) ls ≡ set (marked s ls) d (mark v (gone (left_of ls d)))
  marked_set v =
      set_by (marked s ls) (marked (set s d v) ls) d (mark v (gone (left_of ls d)))
      (count_marked (set s d v) ls ∙ length-set s d v ∙ sym (count_marked s ls)) within
      (at_marked (set s d v) ls d ∙ ap (λ w. mark w (gone (left_of ls d))) (at_set s d v h))
      (λ k ne. at_marked (set s d v) ls k ∙ ap (λ w. mark w (gone (left_of ls k))) (at_other s d k v ne) ∙ sym (at_marked s ls k))

  pub marked_stored : (b : ℕ) (x : List ℕ) → marked (stored s d b x) ls ≡ stored (marked s ls) d b x
  marked_stored b x =
      marked_set _ ∙ ap (λ (w : Drive). set (marked s ls) d (record { blocks = set w.blocks b x; broken = w.broken })) (sym (at_marked s ls d))

  pub marked_broke : marked (broke s d) ls ≡ broke (marked s ls) d
  marked_broke =
      marked_set _ ∙ ap (λ (w : Drive). set (marked s ls) d (record { blocks = w.blocks; broken = true })) (sym (at_marked s ls d))

  -- one drive more has nothing left
  pub marked_more : (ms : List (Option ℕ)) → gone (left_of ms d) ≡ true → ((k : ℕ) → k ≢ d → left_of ms k ≡ left_of ls k) → marked s ms ≡ broke (marked s ls) d
  marked_more ms here other =
      set_by (marked s ls) (marked s ms) d _
      (count_marked s ms ∙ sym (count_marked s ls)) within
      (at_marked s ms d
      ∙ ap (λ (f : Bool). record { blocks = (at s d).blocks; broken = f }) (or_right (at s d).broken (gone (left_of ms d)) here)
      ∙ ap (λ (w : Drive). record { blocks = w.blocks; broken = true }) (sym (at_marked s ls d)))
      (λ k ne. at_marked s ms k ∙ ap (λ x. mark (at s k) (gone x)) (other k ne) ∙ sym (at_marked s ls k))

module _ (s : List Drive) (ls : List (Option ℕ)) (d b len : ℕ) where
  placed_marked : Placed s d b len → Placed (marked s ls) d b len
  placed_marked p = record {
    exists = omega (arith, count_marked s ls, p.exists);
    whole = p.whole;
    within = omega (arith, size_marked s ls d, p.within);
  }

  refused_marked : (t : List Drive) (c : BusFault) → RefusedBy s t d b len c → RefusedBy (marked s ls) (marked t ls) d b len c
  refused_marked t (NoDrive a) q = record { beyond = omega (arith, count_marked s ls, q.beyond); same = ap (λ v. marked v ls) q.same }
  refused_marked t (Length a) q =
      record { exists = omega (arith, count_marked s ls, q.exists); other = q.other; same = ap (λ v. marked v ls) q.same }
  refused_marked t (Range a) q = record {
    exists = omega (arith, count_marked s ls, q.exists);
    whole = q.whole;
    beyond = omega (arith, size_marked s ls d, q.beyond);
    same = ap (λ v. marked v ls) q.same;
  }
  refused_marked t (Broken a) q =
      record { placed = placed_marked q.placed; broken = ap (λ v. marked v ls) q.broken ∙ marked_broke s ls d q.placed.exists }

  faults_marked : (t : List Drive) (e : BusFault) → Faults s t d b len e → Faults (marked s ls) (marked t ls) d b len e
  faults_marked t e q = (q.0, refused_marked t e q.1)

-- an access fewer: who works after it worked before, and who breaks by it had one left
fewer_works : (x : Option ℕ) → gone (fewer x) ≡ false → gone x ≡ false
fewer_works None e = refl
fewer_works (Some n) e = ne_eqb n 0 (λ z. eqb-false (n - 1) 0 e (omega arith))

fewer_breaks : (x : Option ℕ) → gone x ≡ false → gone (fewer x) ≡ true → x ≡ Some 1
fewer_breaks None e f = absurd (both_ways false refl f)
fewer_breaks (Some n) e f =
    let z : n - 1 ≡ 0 = eqb-true (n - 1) 0 f in
    let ne : n ≡ 0 → ⊥ = eqb-false n 0 e in
    let one : n ≡ 1 = ⊎_elim (λ i. absurd (ne i)) (λ k. omega arith) (cases_eq n 0) in
    ap (λ i. Some i) one

-- one access of the drive d
module _ (s : List Drive) (ls ms : List (Option ℕ)) (d b len : ℕ) where
  other_left : {f : Bool} → Reached s ls ms d b len f → (k : ℕ) → k ≢ d → left_of ms k ≡ left_of ls k
  other_left r k ne = ap (λ v. left_of v k) r.counted ∙ get_or-set_other ls d k (fewer (left_of ls d)) None ne

  here_left : {f : Bool} → Reached s ls ms d b len f → left_of ms d ≡ fewer (left_of ls d)
  here_left r = ap (λ v. left_of v d) r.counted ∙ get_or-set_same ls d (fewer (left_of ls d)) None r.inside

  free_before : Reached s ls ms d b len false → gone (left_of ls d) ≡ false
  free_before r = fewer_works (left_of ls d) (ap gone (sym (here_left r)) ∙ r.flag)

  abbrev pub LetThrough : Type 0
  LetThrough = Reached s ls ms d b len false ⊎ Missed s ls ms d b len

  abbrev pub HeldBack : BusFault → Type 0
  HeldBack e = Reached s ls ms d b len true × (e ≡ broken_at d b)

  pub held_back : (e : BusFault) → HeldBack e → Faults (marked s ls) (marked s ms) d b len e
  held_back e h = let r = h.0 in subst (λ v. Faults (marked s ls) (marked s ms) d b len v) (sym h.1) (
    record { drive = refl; place = refl },
    record { placed = placed_marked s ls d b len r.placed; broken = marked_more s ls d r.placed.exists ms r.flag (other_left r) },
  )

  pub free : LetThrough → Placed s d b len → gone (left_of ls d) ≡ false
  free (inl r) p = free_before r
  free (inr m) p = absurd (m.misplaced p)

  -- a request that is let through marks no drive more
  pub through : (t : List Drive) → LetThrough → marked t ls ≡ marked t ms
  through t (inl r) =
      marked_as t ms ls
      (λ k.
      ⊎_elim
      (λ (q : k ≡ d). ap (λ j. gone (left_of ls j)) q ∙ free_before r ∙ sym r.flag ∙ ap (λ j. gone (left_of ms j)) (sym q))
      (λ ne. ap gone (sym (other_left r k ne)))
      (cases_eq k d))
  through t (inr m) = ap (marked t) (sym m.same)

  fails_by : (t : List Drive) → ((k : ℕ) → gone (left_of ls k) ≡ false → gone (left_of ms k) ≡ true → (k ≡ d) × (left_of ls k ≡ Some 1)) → FailsAsTold s t ls ms d
  fails_by t why k f =
      let was = or_parts (at s k).broken (gone (left_of ls k)) (sym (broken_marked s ls k) ∙ f.before) in
      ⊎_elim
      (λ e. inl (record { before = was.0; after = e }))
      (λ e. inr (why k was.1 e))
      (or_cases (at t k).broken (gone (left_of ms k)) (sym (broken_marked t ms k) ∙ f.after))

  reached_why : {f : Bool} → Reached s ls ms d b len f → (k : ℕ) → gone (left_of ls k) ≡ false → gone (left_of ms k) ≡ true → (k ≡ d) × (left_of ls k ≡ Some 1)
  reached_why r k e g =
      ⊎_elim
      (λ (q : k ≡ d).
      let one : left_of ls d ≡ Some 1 =
      fewer_breaks (left_of ls d) (ap (λ j. gone (left_of ls j)) (sym q) ∙ e) (ap gone (sym (here_left r)) ∙ ap (λ j. gone (left_of ms j)) (sym q) ∙ g) in
      (q, ap (left_of ls) q ∙ one))
      (λ ne. absurd (both_ways (gone (left_of ls k)) e (ap gone (sym (other_left r k ne)) ∙ g)))
      (cases_eq k d)

  pub fails_stopped : (e : BusFault) → HeldBack e → FailsAsTold s s ls ms d
  fails_stopped e h = fails_by s (reached_why h.0)

  pub fails_through : (t : List Drive) → LetThrough → FailsAsTold s t ls ms d
  fails_through t (inl r) = fails_by t (reached_why r)
  fails_through t (inr m) = fails_by t (λ k e g. absurd (both_ways (gone (left_of ls k)) e (ap (λ v. gone (left_of v k)) (sym m.same) ∙ g)))

pub reads_marked : {U : Type 0} (s t : List Drive) (ls ms : List (Option ℕ)) (d b : ℕ) (was is : List ℕ) (r : Result U BusFault) → LetThrough s ls ms d b (length was) → Reads s t d b was is r → Reads (marked s ls) (marked t ms) d b was is r
reads_marked s t ls ms d b was is r h q = subst (λ v. Reads (marked s ls) v d b was is r) (through s ls ms d b (length was) t h) (go r q)
  where
    go : {U : Type 0} (r : Result U BusFault) → Reads s t d b was is r → Reads (marked s ls) (marked t ls) d b was is r
    go (Ok u) q = record {
      placed = placed_marked s ls d b (length was) q.placed;
      working = broken_marked s ls d ∙ or_from (at s d).broken (gone (left_of ls d)) q.working (free s ls ms d b (length was) h q.placed);
      filled = q.filled ∙ sym (block_marked s ls d b);
      same = ap (λ v. marked v ls) q.same;
    }
    go (Err e) q = (q.0, faults_marked s ls d b (length was) t e q.1)

pub writes_marked : {U : Type 0} (s t : List Drive) (ls ms : List (Option ℕ)) (d b : ℕ) (xs : List ℕ) (r : Result U BusFault) → LetThrough s ls ms d b (length xs) → Writes s t d b xs r → Writes (marked s ls) (marked t ms) d b xs r
writes_marked s t ls ms d b xs r h q = subst (λ v. Writes (marked s ls) v d b xs r) (through s ls ms d b (length xs) t h) (go r q)
  where
    go : {U : Type 0} (r : Result U BusFault) → Writes s t d b xs r → Writes (marked s ls) (marked t ls) d b xs r
    go (Ok u) q = record {
      placed = placed_marked s ls d b (length xs) q.placed;
      working = broken_marked s ls d ∙ or_from (at s d).broken (gone (left_of ls d)) q.working (free s ls ms d b (length xs) h q.placed);
      stored = ap (λ v. marked v ls) q.stored ∙ marked_stored s ls d q.placed.exists b xs;
    }
    go (Err e) q = faults_marked s ls d b (length xs) t e q

-- telling the drive d
module _ (s : List Drive) (ls : List (Option ℕ)) (d n : ℕ) (h : d < length s) (i : d < length ls) where
  other_told : (k : ℕ) → k ≢ d → left_of (set ls d (Some n)) k ≡ left_of ls k
  other_told k ne = get_or-set_other ls d k (Some n) None ne

  pub told_working : gone (left_of ls d) ≡ false → ToldBy s ls (set ls d (Some n)) d n
  told_working e = record {
    exists = h;
    word = ap (set ls d) (sym (cond-false (gone (left_of ls d)) (left_of ls d) (Some n) e));
    at_once = λ z. marked_more s ls d h (set ls d (Some n)) (ap gone (get_or-set_same ls d (Some n) None i) ∙ eq-eqb n 0 z) other_told;
    later = λ z.
        marked_as s ls (set ls d (Some n))
        (λ k.
        ⊎_elim
        (λ (q : k ≡ d). ap (λ j. gone (left_of (set ls d (Some n)) j)) q ∙ ap gone (get_or-set_same ls d (Some n) None i) ∙ ne_eqb n 0 z ∙ sym e ∙ ap (λ j. gone (left_of ls j)) (sym q))
        (λ ne. ap gone (other_told k ne))
        (cases_eq k d));
  }

  pub told_broken : gone (left_of ls d) ≡ true → ToldBy s ls ls d n
  told_broken e = record {
    exists = h;
    word = sym (ap (set ls d) (cond-true (gone (left_of ls d)) (left_of ls d) (Some n) e) ∙ set-get_or ls d None);
    at_once = λ z. broke_same (marked s ls) d (broken_marked s ls d ∙ or_right (at s d).broken (gone (left_of ls d)) e);
    later = λ z. refl;
  }

-- telling it to break at once, by the drives alone
pub breaks_told : {U : Type 0} (s t : List Drive) (ls ms : List (Option ℕ)) (d : ℕ) (r : Result U BusFault) → t ≡ s → Told s ls ms d 0 r → Breaks (marked s ls) (marked t ms) d r
breaks_told s t ls ms d (Ok u) e h = record { exists = omega (arith, count_marked s ls, h.exists); broken = ap (λ v. marked v ms) e ∙ h.at_once refl }
breaks_told s t ls ms d (Err f) e h = record {
  beyond = omega (arith, count_marked s ls, h.beyond);
  fault = h.fault;
  same = ap (λ v. marked v ms) e ∙ ap (marked s) h.same;
}
