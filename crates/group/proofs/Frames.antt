-- What a request changes on a bus.
use Rattle.std.proofs.Common.{◌≡◌, ℕ, suc, ◌+◌, ◌<◌, ◌≤◌, Bool, true, false, leb, List, [], ◌∷◌, length, get_or, set, Ok, Err, Result, sym, refl, ap, ◌∙◌, subst, ⊎_elim, arith}
use Rattle.std.proofs.lemmas.List.{get_or-set_same, get_or-set_other, length-set}
use Rattle.std.proofs.lemmas.Bool.{cases_eq, cases_Bool, both_ways, or_cases, or_left, or_right}
use Rattle.bus.specs.declared.fault.BusFault.{BusFault}
use Rattle.bus.specs.declared.fault.BusFault.TheVariants.{NoDrive, Length, Range, Broken}
use Rattle.bus.specs.Drives.{Drive, at, size, block, stored, broke, absent}
use Rattle.bus.specs.Requests.{Placed, Faults, Writes}
use Rattle.bus.proofs.Changing.{there_by_size}
use Rattle.layout.specs.Blocks.{missing_count}
use Rattle.layout.specs.Methods.{Sound}
use Rattle.layout.specs.declared.method.Method.{Ghosts}
use Rattle.group.specs.declared.member.Member.{Member}
use Rattle.group.specs.Group.{missing, missings, held, Frame, Its, ItsBlock, NoBlock}
use Rattle.group.specs.Steps.{Sent}

-- one drive replaced, seen from each drive
each_set : (m : List Drive) (d : ℕ) (v : Drive) (P : Drive → Drive → Type 0) → d < length m → P v (at m d) → ((w : Drive) → P w w) → (e : ℕ) → P (at (set m d v) e) (at m e)
each_set m d v P h here same e =
    ⊎_elim
    (λ (q : e ≡ d). subst (λ (k : ℕ). P (at (set m d v) k) (at m k)) (sym q) (subst (λ (w : Drive). P w (at m d)) (sym (get_or-set_same m d v absent h)) here))
    (λ ne. subst (λ (w : Drive). P w (at m e)) (sym (get_or-set_other m d e v absent ne)) (same (at m e)))
    (cases_eq e d)

pub frame_trans : (m n o : List Drive) (D : ℕ → Type 0) (P : ℕ → ℕ → Type 0) → Frame m n D P → Frame n o D P → Frame m o D P
frame_trans m n o D P f k = record {
  count = k.count ∙ f.count;
  sizes = λ d. k.sizes d ∙ f.sizes d;
  stays = λ d h. k.stays d (f.stays d h);
  others = λ d ne. k.others d ne ∙ f.others d ne;
  blocks = λ d b ne. k.blocks d b ne ∙ f.blocks d b ne;
}

pub frame_wider : (m n : List Drive) (D E : ℕ → Type 0) (P Q : ℕ → ℕ → Type 0) → ((d : ℕ) → D d → E d) → ((d b : ℕ) → P d b → Q d b) → Frame m n D P → Frame m n E Q
frame_wider m n D E P Q de pq f = record {
  count = f.count;
  sizes = f.sizes;
  stays = f.stays;
  others = λ d ne. f.others d (λ x. ne (de d x));
  blocks = λ d b ne. f.blocks d b (λ x. ne (pq d b x));
}

module _ (m : List Drive) (d : ℕ) (h : d < length m) where
  pub broke_frame : Frame m (broke m d) (λ e. d ≡ e) NoBlock
  broke_frame = record {
    count = length-set m d _;
    sizes = each_set m d _ (λ v w. length v.blocks ≡ length w.blocks) h refl (λ w. refl);
    stays = each_set m d _ (λ v w. w.broken ≡ true → v.broken ≡ true) h (λ b. refl) (λ w b. b);
    others = λ e ne. get_or-set_other m d e _ absent (λ q. ne (sym q));
    blocks = λ e b ne. each_set m d _ (λ v w. get_or v.blocks b [] ≡ get_or w.blocks b []) h refl (λ w. refl) e;
  }

  pub broke_there : (at (broke m d) d).broken ≡ true
  broke_there = ap (λ (v : Drive). v.broken) (get_or-set_same m d _ absent h)

  pub stored_frame : (b : ℕ) (x : List ℕ) → Frame m (stored m d b x) (λ e. d ≡ e) (λ e c. (d ≡ e) × (b ≡ c))
  stored_frame b x = record {
    count = length-set m d _;
    sizes = each_set m d _ (λ v w. length v.blocks ≡ length w.blocks) h (length-set (at m d).blocks b x) (λ w. refl);
    stays = each_set m d _ (λ v w. w.broken ≡ true → v.broken ≡ true) h (λ b. b) (λ w b. b);
    others = λ e ne. get_or-set_other m d e _ absent (λ q. ne (sym q));
    blocks = λ e c ne.
        ⊎_elim
        (λ (q : d ≡ e).
        each_set m d _ (λ v w. get_or v.blocks c [] ≡ get_or w.blocks c []) h (get_or-set_other (at m d).blocks b c x [] (λ k. ne (q, sym k))) (λ w. refl) e)
        (λ far. ap (λ (v : Drive). get_or v.blocks c []) (get_or-set_other m d e _ absent (λ q. far (sym q))))
        (cases_eq d e);
  }

  pub stored_there : (b : ℕ) (x : List ℕ) → b < size m d → block (stored m d b x) d b ≡ x
  stored_there b x k = ap (λ (v : Drive). get_or v.blocks b []) (get_or-set_same m d _ absent h) ∙ get_or-set_same (at m d).blocks b x [] k

  pub stored_broken : (b : ℕ) (x : List ℕ) (e : ℕ) → (at (stored m d b x) e).broken ≡ (at m e).broken
  stored_broken b x e = each_set m d _ (λ v w. v.broken ≡ w.broken) h refl (λ w. refl) e

-- a request that is placed is refused by a breakage alone
pub fault_broke : (m n : List Drive) (d b len : ℕ) (e : BusFault) → Placed m d b len → Faults m n d b len e → n ≡ broke m d
fault_broke m n d b len (NoDrive a) p q = absurd (omega (arith, p.exists, q.1.beyond))
fault_broke m n d b len (Length a) p q = absurd (q.1.other p.whole)
fault_broke m n d b len (Range a) p q = absurd (omega (arith, p.within, q.1.beyond))
fault_broke m n d b len (Broken a) p q = q.1.broken

module _ (m n : List Drive) (r : ℕ) (g : Member) where
  pub missing_broken : (at n g.drive).broken ≡ true → missing n r g ≡ true
  missing_broken e = or_left (at n g.drive).broken (leb g.mark r) e

  pub missing_stays : ((at m g.drive).broken ≡ true → (at n g.drive).broken ≡ true) → missing m r g ≡ true → missing n r g ≡ true
  missing_stays f e =
      ⊎_elim (λ b. missing_broken (f b)) (λ k. or_right (at n g.drive).broken (leb g.mark r) k)
      (or_cases (at m g.drive).broken (leb g.mark r) e)

  pub missing_back : ((at m g.drive).broken ≡ true → (at n g.drive).broken ≡ true) → missing n r g ≡ false → missing m r g ≡ false
  missing_back f e = ⊎_elim (λ t. absurd (both_ways (missing n r g) e (missing_stays f t))) (λ k. k) (cases_Bool (missing m r g))

  pub placed_by : g.start + r < size m g.drive → (len : ℕ) → len ≡ 512 → Placed m g.drive (g.start + r) len
  placed_by h len w = record { exists = there_by_size m g.drive (g.start + r) h; whole = w; within = h }

  pub sent_by : {U : Type 0} (xs : List ℕ) (s : Result U BusFault) → g.start + r < size m g.drive → length xs ≡ 512 → Writes m n g.drive (g.start + r) xs s → Sent m n r g xs
  sent_by xs (Ok u) h w q = record {
    frame = subst (λ (o : List Drive). Frame m o (Its g) (ItsBlock r g)) (sym q.stored) (stored_frame m g.drive q.placed.exists (g.start + r) xs);
    holds = λ z. subst (λ (o : List Drive). held o r g ≡ xs) (sym q.stored) (stored_there m g.drive q.placed.exists (g.start + r) xs h);
  }
  sent_by xs (Err e) h w q =
      let p = placed_by h (length xs) w in
      let is : n ≡ broke m g.drive = fault_broke m n g.drive (g.start + r) (length xs) e p q in
      let dead : missing n r g ≡ true = missing_broken (subst (λ (o : List Drive). (at o g.drive).broken ≡ true) (sym is) (broke_there m g.drive p.exists)) in
      record {
        frame = subst (λ (o : List Drive). Frame m o (Its g) (ItsBlock r g)) (sym is)
            (frame_wider m (broke m g.drive) (Its g) (Its g) NoBlock (ItsBlock r g) (λ d x. x) (λ d b x. absurd x) (broke_frame m g.drive p.exists));
        holds = λ z. absurd (both_ways (missing n r g) z dead);
      }

-- no fewer members are missing than were
pub missing_count_more : (m n : List Drive) (r : ℕ) (gs : List Member) → ((d : ℕ) → (at m d).broken ≡ true → (at n d).broken ≡ true) → missing_count (missings m r gs) ≤ missing_count (missings n r gs)
missing_count_more m n r [] f = omega arith
missing_count_more m n r (g ∷ gs) f =
    let rest = missing_count_more m n r gs f in
    ⊎_elim
    (λ (e : missing m r g ≡ true).
    let k : missing n r g ≡ true = missing_stays m n r g (f g.drive) e in
    let a : missing_count (missings m r (g ∷ gs)) ≡ suc (missing_count (missings m r gs)) = ap (λ (b : Bool). missing_count (b ∷ missings m r gs)) e in
    let z : missing_count (missings n r (g ∷ gs)) ≡ suc (missing_count (missings n r gs)) = ap (λ (b : Bool). missing_count (b ∷ missings n r gs)) k in
    omega arith)
    (λ (e : missing m r g ≡ false).
    let a : missing_count (missings m r (g ∷ gs)) ≡ missing_count (missings m r gs) = ap (λ (b : Bool). missing_count (b ∷ missings m r gs)) e in
    let z : missing_count (missings n r gs) ≤ missing_count (missings n r (g ∷ gs)) =
    ⊎_elim (λ (k : missing n r g ≡ true). omega (arith, ap (λ (b : Bool). missing_count (b ∷ missings n r gs)) k)) (λ (k : missing n r g ≡ false). omega (arith, ap (λ (b : Bool). missing_count (b ∷ missings n r gs)) k)) (cases_Bool (missing n r g)) in
    omega arith)
    (cases_Bool (missing m r g))

-- a group has a member
pub one_member : {X : Type 0} (k : Ghosts X) → Sound k.LEAST k.width k.cycle k.home k.check k.row k.tolerance → {n : ℕ} → k.LEAST ≤ n → 1 ≤ n
one_member k s few = omega (arith, s.least_some)
