-- What may happen between requests, and what a request leaves alone.
use Rattle.std.proofs.Common.{◌≡◌, ℕ, ◌<◌, List, [], length, get_or, Ok, Err, Result, sym, refl, ap, ◌∙◌, subst, ⊎_elim, arith}
use Rattle.std.proofs.lemmas.List.{get_or-set_same, get_or-set_other, length-set}
use Rattle.std.proofs.lemmas.Bool.{cases_eq}
use Rattle.bus.specs.declared.fault.BusFault.{BusFault}
use Rattle.bus.specs.declared.fault.BusFault.TheVariants.{NoDrive, Length, Range, Broken}
use Rattle.bus.specs.Drives.{Drive, Worse, at, size, block, stored, broke}
use Rattle.bus.specs.Requests.{Reads, Writes, RefusedBy, Faults}
use Rattle.bus.specs.Laws.{Elsewhere, WorseRefl, WorseTrans, WorseSound, WriteThenRead}
use Rattle.bus.proofs.Changing.{at_set, at_other}

pub worse_same : {s t : List Drive} → t ≡ s → Worse s t
worse_same e = record {
  count = ap length e;
  blocks = λ d. ap (λ v. (at v d).blocks) e;
  stays = λ d h. ap (λ v. (at v d).broken) e ∙ h;
}

pub worse_refl : WorseRefl
worse_refl s = worse_same refl

pub worse_trans : WorseTrans
worse_trans s t u p q = record {
  count = q.count ∙ p.count;
  blocks = λ d. q.blocks d ∙ p.blocks d;
  stays = λ d h. q.stays d (p.stays d h);
}

pub worse_sound : WorseSound
worse_sound s t w k = record {
  few = omega (arith, w.count, k.few);
  some = λ d h. omega (arith, ap length (w.blocks d), k.some d (omega (arith, w.count)));
  small = λ d h. omega (arith, ap length (w.blocks d), k.small d (omega (arith, w.count)));
  whole = λ d b h l.
      ap (λ v. length (get_or v b [])) (w.blocks d) ∙ k.whole d b (omega (arith, w.count)) (omega (arith, ap length (w.blocks d)));
}

-- the drive d broken, whether it is there or not
pub worse_broke : (s : List Drive) (d : ℕ) → d < length s → Worse s (broke s d)
worse_broke s d h = record {
  count = length-set s d _;
  blocks = λ k. ⊎_elim
      (λ (q : k ≡ d). ap (λ j. (at (broke s d) j).blocks) q ∙ ap (λ v. v.blocks) (at_set s d _ h) ∙ ap (λ j. (at s j).blocks) (sym q))
      (λ ne. ap (λ v. v.blocks) (at_other s d k _ ne))
      (cases_eq k d);
  stays = λ k b. ⊎_elim
      (λ (q : k ≡ d). ap (λ j. (at (broke s d) j).broken) q ∙ ap (λ v. v.broken) (at_set s d _ h))
      (λ ne. ap (λ v. v.broken) (at_other s d k _ ne) ∙ b)
      (cases_eq k d);
}

refused_worsens : (s t : List Drive) (d b len : ℕ) (c : BusFault) → RefusedBy s t d b len c → Worse s t
refused_worsens s t d b len (NoDrive a) q = worse_same q.same
refused_worsens s t d b len (Length a) q = worse_same q.same
refused_worsens s t d b len (Range a) q = worse_same q.same
refused_worsens s t d b len (Broken a) q = subst (λ v. Worse s v) (sym q.broken) (worse_broke s d q.placed.exists)

pub faults_worsen : (s t : List Drive) (d b len : ℕ) (e : BusFault) → Faults s t d b len e → Worse s t
faults_worsen s t d b len e q = refused_worsens s t d b len e q.1

pub reads_worsen : {U : Type 0} (s t : List Drive) (d b : ℕ) (was is : List ℕ) (r : Result U BusFault) → Reads s t d b was is r → Worse s t
reads_worsen s t d b was is (Ok u) q = worse_same q.same
reads_worsen s t d b was is (Err e) q = faults_worsen s t d b (length was) e q.1

elsewhere_same : (s t : List Drive) (d b : ℕ) → t ≡ s → Elsewhere s t d b
elsewhere_same s t d b e = record {
  drives = λ k ne. ap (λ v. at v k) e;
  blocks = λ c ne. ap (λ v. block v d c) e;
  capacity = ap (λ v. size v d) e;
  stays = λ h. ap (λ v. (at v d).broken) e ∙ h;
}

elsewhere_broke : (s : List Drive) (d b : ℕ) → d < length s → Elsewhere s (broke s d) d b
elsewhere_broke s d b h = record {
  drives = λ k ne. at_other s d k _ ne;
  blocks = λ c ne. ap (λ v. get_or v.blocks c []) (at_set s d _ h);
  capacity = ap (λ v. length v.blocks) (at_set s d _ h);
  stays = λ e. ap (λ v. v.broken) (at_set s d _ h);
}

elsewhere_stored : (s : List Drive) (d b : ℕ) (xs : List ℕ) → d < length s → Elsewhere s (stored s d b xs) d b
elsewhere_stored s d b xs h = record {
  drives = λ k ne. at_other s d k _ ne;
  blocks = λ c ne. ap (λ v. get_or v.blocks c []) (at_set s d _ h) ∙ get_or-set_other (at s d).blocks b c xs [] ne;
  capacity = ap (λ v. length v.blocks) (at_set s d _ h) ∙ length-set (at s d).blocks b xs;
  stays = λ e. ap (λ v. v.broken) (at_set s d _ h) ∙ e;
}

refused_elsewhere : (s t : List Drive) (d b len : ℕ) (c : BusFault) → RefusedBy s t d b len c → Elsewhere s t d b
refused_elsewhere s t d b len (NoDrive a) q = elsewhere_same s t d b q.same
refused_elsewhere s t d b len (Length a) q = elsewhere_same s t d b q.same
refused_elsewhere s t d b len (Range a) q = elsewhere_same s t d b q.same
refused_elsewhere s t d b len (Broken a) q =
    subst (λ v. Elsewhere s v d b) (sym q.broken) (elsewhere_broke s d b q.placed.exists)

pub faults_elsewhere : (s t : List Drive) (d b len : ℕ) (e : BusFault) → Faults s t d b len e → Elsewhere s t d b
faults_elsewhere s t d b len e q = refused_elsewhere s t d b len e q.1

pub writes_elsewhere : {U : Type 0} (s t : List Drive) (d b : ℕ) (xs : List ℕ) (r : Result U BusFault) → Writes s t d b xs r → Elsewhere s t d b
writes_elsewhere s t d b xs (Ok u) q = subst (λ v. Elsewhere s v d b) (sym q.stored) (elsewhere_stored s d b xs q.placed.exists)
writes_elsewhere s t d b xs (Err e) q = faults_elsewhere s t d b (length xs) e q

pub write_then_read : WriteThenRead
write_then_read s t u v d b xs was is w z r =
    r.filled
    ∙ ap (λ k. get_or k b []) (z.blocks d)
    ∙ ap (λ k. block k d b) w.stored
    ∙ ap (λ k. get_or k.blocks b []) (at_set s d _ w.placed.exists)
    ∙ get_or-set_same (at s d).blocks b xs [] w.placed.within

pub writes_count : {U : Type 0} (s t : List Drive) (d b : ℕ) (xs : List ℕ) (r : Result U BusFault) → Writes s t d b xs r → length t ≡ length s
writes_count s t d b xs (Ok u) q = ap length q.stored ∙ length-set s d _
writes_count s t d b xs (Err e) q = (faults_worsen s t d b (length xs) e q).count
