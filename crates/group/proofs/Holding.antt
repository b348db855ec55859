-- What a row holds after its members were read or written.
use Rattle.std.proofs.Common.{◌≡◌, ℕ, ◌+◌, ◌<◌, ◌≤◌, Bool, true, false, ◌||◌, eqb, leb, ◌≢◌, List, [], length, get_or, set, sym, ap, ◌∙◌, subst, ⊎_elim, arith}
use Rattle.std.proofs.lemmas.List.{get_or-set_same, get_or-set_other, get_or-map, length-map}
use Rattle.std.proofs.lemmas.Bool.{cases_eq, cases_lt, cases_Bool, both_ways, eq-eqb, ne_eqb, or_left, or_right, or_from, le-leb}
use Rattle.bus.specs.Drives.{Drive, at}
use Rattle.layout.specs.Blocks.{missing_count, Whole, Blocks, Agree}
use Rattle.layout.specs.Methods.{Sound}
use Rattle.layout.specs.declared.method.Method.{Ghosts}
use Rattle.layout.specs.Rewritten.{set_blocks}
use Rattle.group.specs.declared.member.Member.{Member}
use Rattle.group.specs.Group.{nobody, member, missing, missings, held, RowLost, BlockLost, RowHolds, Shape, Frame, Ours, InRow, NoBlock, Its, ItsBlock}
use Rattle.group.specs.Elsewhere.{OthersHold}
use Rattle.group.specs.Steps.{Sent}
use Rattle.group.specs.Sweeps.{Gathered, Spread, concerned}
use Rattle.group.proofs.Frames.{one_member, missing_back, missing_count_more}
use Rattle.group.proofs.Counts.{missing_count_within}

module _ (m n : List Drive) (r : ℕ) (gs : List Member) (D : ℕ → Type 0) (P : ℕ → ℕ → Type 0) (f : Frame m n D P) where
  pub shape_still : Shape m r gs → Shape n r gs
  shape_still s = record {
    apart = s.apart;
    within = λ i h. omega (arith, s.within i h, f.sizes (member gs i).drive);
  }

  pub fine_before : (st : ℕ) → (RowLost st n r gs → ⊥) → RowLost st m r gs → ⊥
  fine_before st fine l = let w = missing_count_more m n r gs f.stays in fine (omega arith)

  pub back : (i : ℕ) → missing n r (member gs i) ≡ false → missing m r (member gs i) ≡ false
  back i = missing_back m n r (member gs i) (f.stays _)

-- the row, as far as it was read
module _ (st : ℕ) (m n : List Drive) (r : ℕ) (gs : List Member) (o : List Bool) (bs : List (List ℕ)) (a : Gathered st m n r gs o bs) where
  pub lost_since : st < missing_count o → RowLost st n r gs
  lost_since h = ⊎_elim (λ l. l) (λ l. absurd (let e = a.enough (λ k. omega arith) in omega arith)) (cases_lt st (missing_count (missings n r gs)))

  pub fine_since : missing_count o ≤ st → RowLost st n r gs → ⊥
  fine_since h l = omega (arith, a.covers)

module _ {X : Type 0} (k : Ghosts X) (t r : ℕ) (gs : List Member) where
  st : ℕ
  st = k.tolerance (length gs)

  -- a row that was only read
  pub holds_read : (m n : List Drive) (us : List (List ℕ)) → Frame m n (Ours gs) NoBlock → RowHolds k t m r gs us → RowHolds k t n r gs us
  holds_read m n us f h = record {
    user = λ p l e. f.blocks _ _ (λ x. x) ∙ h.user p l (back m n r gs (Ours gs) NoBlock f _ e);
    whole = λ fine i l e. f.blocks _ _ (λ x. x) ∙ h.whole (fine_before m n r gs (Ours gs) NoBlock f (k.tolerance (length gs)) fine) i l (back m n r gs (Ours gs) NoBlock f i e);
  }

  -- enough of it was read
  agrees : (m n : List Drive) (us : List (List ℕ)) (o : List Bool) (bs : List (List ℕ)) → Gathered (k.tolerance (length gs)) m n r gs o bs → missing_count o ≤ k.tolerance (length gs) → length bs ≡ length gs →
      RowHolds k t m r gs us → Agree o bs (k.row (length gs) t us)
  agrees m n us o bs a few e h = λ i l z.
      let u = a.known i (omega arith) z in
      u.1 ∙ h.whole (fine_before m n r gs (Ours gs) NoBlock a.frame (k.tolerance (length gs)) (fine_since _ m n r gs o bs a few)) i (omega arith) (back m n r gs (Ours gs) NoBlock a.frame i u.0)

  -- what is told of the parts of a row, at the number of its members and its strip
  at_row : (Q : ℕ → ℕ → List (List ℕ) → Type 0) (o : List Bool) (bs : List (List ℕ)) (l z : ℕ) → l ≡ length gs → z ≡ t →
      ((us : List (List ℕ)) → Blocks (k.width l) us → Agree o bs (k.row l z us) → Q l z us) →
      (us : List (List ℕ)) → Blocks (k.width (length gs)) us → Agree o bs (k.row (length gs) t us) → Q (length gs) t us
  at_row Q o bs l z el ez told =
      subst (λ (x : ℕ). (us : List (List ℕ)) → Blocks (k.width (length gs)) us → Agree o bs (k.row (length gs) x us) → Q (length gs) x us) ez
      (subst (λ (j : ℕ). (us : List (List ℕ)) → Blocks (k.width j) us → Agree o bs (k.row j z us) → Q j z us) el told)

  -- the same of whatever the row held when its members were read, where enough were
  pub known_row : (Q : ℕ → ℕ → List (List ℕ) → Type 0) (o : List Bool) (bs : List (List ℕ)) (l z : ℕ) → l ≡ length gs → z ≡ t →
      (m n : List Drive) → Gathered (k.tolerance (length gs)) m n r gs o bs → missing_count o ≤ k.tolerance l → length bs ≡ l →
      ((us : List (List ℕ)) → Blocks (k.width l) us → Agree o bs (k.row l z us) → Q l z us) →
      (us : List (List ℕ)) → Blocks (k.width (length gs)) us → RowHolds k t m r gs us → Q (length gs) t us
  known_row Q o bs l z el ez m n got few long told us u h =
      at_row Q o bs l z el ez told us u (agrees m n us o bs got (subst (λ (j : ℕ). missing_count o ≤ k.tolerance j) el few) (long ∙ el) h)

  module _ (s : Sound k.LEAST k.width k.cycle k.home k.check k.row k.tolerance) (few : k.LEAST ≤ length gs) (many : length gs ≤ 8)
      (p : ℕ) (here : p < k.width (length gs)) (us : List (List ℕ)) (u : Blocks (k.width (length gs)) us) (new : List ℕ) where
    home : ℕ → ℕ
    home q = k.home (length gs) t q

    -- the new block's home was written, in a row that is lost
    pub holds_sent : (m n : List Drive) (i : ℕ) → i ≡ k.home (length gs) t p → Shape m r gs → RowHolds k t m r gs us → RowLost (k.tolerance (length gs)) m r gs → Sent m n r (member gs i) new →
        RowHolds k t n r gs (set us p new)
    holds_sent m n i is shape h gone f = record {
      user = λ q l e.
          ⊎_elim
          (λ (z : q ≡ p).
          let w : i ≡ k.home (length gs) t q = is ∙ ap (k.home (length gs) t) (sym z) in
          subst (λ (j : ℕ). held n r (member gs j) ≡ new) w (f.holds (subst (λ (j : ℕ). missing n r (member gs j) ≡ false) (sym w) e))
          ∙ sym (ap (λ (j : ℕ). get_or (set us p new) j []) z ∙ get_or-set_same us p new [] (omega (arith, u.many))))
          (λ (ne : q ≡ p → ⊥).
          f.frame.blocks _ _ (λ x.
          ne (s.apart (length gs) t q p (one_member k s few) many l here
          (sym (shape.apart i (k.home (length gs) t q) (omega (arith, s.inside (length gs) t p (one_member k s few) many here)) (s.inside (length gs) t q (one_member k s few) many l) x.0) ∙ is)))
          ∙ h.user q l (back m n r gs (Its (member gs i)) (ItsBlock r (member gs i)) f.frame _ e)
          ∙ sym (get_or-set_other us p q new [] ne))
          (cases_eq q p);
      whole = λ fine. absurd (let w = missing_count_more m n r gs f.frame.stays in fine (omega arith));
    }

    -- all that the write concerns was written
    pub holds_spread : (m n : List Drive) (bs : List (List ℕ)) (i : ℕ) → i ≡ k.home (length gs) t p → Whole new → RowHolds k t m r gs us →
        bs ≡ k.row (length gs) t (set us p new) → Spread (concerned (k.check (length gs) t) i) m n r gs bs → RowHolds k t n r gs (set us p new)
    holds_spread m n bs i is w h eb f =
        let v : Blocks (k.width (length gs)) (set us p new) = set_blocks (k.width (length gs)) us p new u w in
        let user : (q : ℕ) → q < k.width (length gs) → missing n r (member gs (k.home (length gs) t q)) ≡ false → held n r (member gs (k.home (length gs) t q)) ≡ get_or (set us p new) q [] =
        λ q l e.
        ⊎_elim
        (λ (z : q ≡ p).
        f.written (k.home (length gs) t q) (s.inside (length gs) t q (one_member k s few) many l)
        (or_left (eqb (k.home (length gs) t q) i) (k.check (length gs) t (k.home (length gs) t q)) (eq-eqb _ i (ap (k.home (length gs) t) z ∙ sym is))) e
        ∙ ap (λ (x : List (List ℕ)). get_or x (k.home (length gs) t q) []) eb
        ∙ s.placed (length gs) t (set us p new) q few many v l)
        (λ (ne : q ≡ p → ⊥).
        f.kept (k.home (length gs) t q) (s.inside (length gs) t q (one_member k s few) many l)
        (or_from (eqb (k.home (length gs) t q) i) (k.check (length gs) t (k.home (length gs) t q))
        (ne_eqb _ i (λ x. ne (s.apart (length gs) t q p (one_member k s few) many l here (x ∙ is)))) (s.free (length gs) t q (one_member k s few) many l))
        ∙ h.user q l (back m n r gs (Ours gs) (InRow r gs) f.frame _ e)
        ∙ sym (get_or-set_other us p q new [] ne))
        (cases_eq q p) in
        record {
          user = user;
          whole = λ fine j l e.
              ⊎_elim
              (λ (z : k.check (length gs) t j ≡ true).
              f.written j l (or_right (eqb j i) (k.check (length gs) t j) z) e ∙ ap (λ (x : List (List ℕ)). get_or x j []) eb)
              (λ (z : k.check (length gs) t j ≡ false).
              let c = s.covered (length gs) t j (one_member k s few) many l z in
              subst (λ (a : ℕ). held n r (member gs a) ≡ get_or (k.row (length gs) t (set us p new)) a []) c.2
              (user c.0 c.1 (subst (λ (a : ℕ). missing n r (member gs a) ≡ false) (sym c.2) e) ∙ sym (s.placed (length gs) t (set us p new) c.0 few many v c.1)))
              (cases_Bool (k.check (length gs) t j));
        }

    -- where the block is lost, its row holds whatever it held
    pub holds_lost : (n : List Drive) → BlockLost (k.tolerance (length gs)) n r gs (k.home (length gs) t p) → RowHolds k t n r gs (set us p new) → RowHolds k t n r gs us
    holds_lost n gone h = record {
      user = λ q l e.
          ⊎_elim
          (λ (z : q ≡ p). absurd (both_ways (missing n r (member gs (k.home (length gs) t q))) e (subst (λ (a : ℕ). missing n r (member gs (k.home (length gs) t a)) ≡ true) (sym z) gone.0)))
          (λ (ne : q ≡ p → ⊥). h.user q l e ∙ get_or-set_other us p q new [] ne)
          (cases_eq q p);
      whole = λ fine. absurd (fine gone.1);
    }

  -- a member whose mark is behind was written
  module _ (m n : List Drive) (i : ℕ) (inside : i < length gs) (behind : (member gs i).mark ≤ r) (shape : Shape m r gs) (f : Frame m n (Its (member gs i)) (ItsBlock r (member gs i))) where
    missing_behind : (o : List Drive) → missing o r (member gs i) ≡ true
    missing_behind o = or_right (at o (member gs i).drive).broken (leb (member gs i).mark r) (le-leb _ _ behind)

    same_at : (j : ℕ) → j < length gs → j ≢ i → at n (member gs j).drive ≡ at m (member gs j).drive
    same_at j l ne = f.others _ (λ e. ne (sym (shape.apart i j inside l e)))

    same_held : (j : ℕ) → j < length gs → j ≢ i → held n r (member gs j) ≡ held m r (member gs j)
    same_held j l ne = f.blocks _ _ (λ e. ne (sym (shape.apart i j inside l e.0)))

    pub fine_behind : (st : ℕ) → (RowLost st m r gs → ⊥) → RowLost st n r gs → ⊥
    fine_behind st fine l =
        let ln : length (missings n r gs) ≡ length gs = length-map gs (missing n r) in
        let lm : length (missings m r gs) ≡ length gs = length-map gs (missing m r) in
        let w = missing_count_within (missings n r gs) (missings m r gs) (omega arith) (λ j h e.
        ⊎_elim
        (λ (z : j ≡ i). get_or-map (missing m r) gs j nobody true (omega arith) ∙ subst (λ (a : ℕ). missing m r (member gs a) ≡ true) (sym z) (missing_behind m))
        (λ (ne : j ≡ i → ⊥).
        get_or-map (missing m r) gs j nobody true (omega arith)
        ∙ ap (λ (v : Drive). v.broken || leb (member gs j).mark r) (sym (same_at j (omega arith) ne))
        ∙ sym (get_or-map (missing n r) gs j nobody true (omega arith)) ∙ e)
        (cases_eq j i)) in
        fine (omega arith)

    in_not : (j : ℕ) → missing n r (member gs j) ≡ false → j ≢ i
    in_not j e z = both_ways (missing n r (member gs j)) e (subst (λ (a : ℕ). missing n r (member gs a) ≡ true) (sym z) (missing_behind n))

    pub holds_behind : (s : Sound k.LEAST k.width k.cycle k.home k.check k.row k.tolerance) → k.LEAST ≤ length gs → length gs ≤ 8 → (us : List (List ℕ)) → RowHolds k t m r gs us → RowHolds k t n r gs us
    holds_behind s few many us h = record {
      user = λ q l e. same_held _ (s.inside (length gs) t q (one_member k s few) many l) (in_not _ e) ∙ h.user q l (back m n r gs (Its (member gs i)) (ItsBlock r (member gs i)) f _ e);
      whole = λ fine j l e.
          same_held j l (in_not j e)
          ∙ h.whole (fine_before m n r gs (Its (member gs i)) (ItsBlock r (member gs i)) f (k.tolerance (length gs)) fine) j l (back m n r gs (Its (member gs i)) (ItsBlock r (member gs i)) f j e);
    }

module _ {X : Type 0} (k : Ghosts X) (s : Sound k.LEAST k.width k.cycle k.home k.check k.row k.tolerance) where
  pub holds_apart : (t r : ℕ) (gs : List Member) (us : List (List ℕ)) (m n : List Drive) (D : ℕ → Type 0) (P : ℕ → ℕ → Type 0) →
      k.LEAST ≤ length gs → length gs ≤ 8 → Frame m n D P → ((i : ℕ) → i < length gs → P (member gs i).drive ((member gs i).start + r) → ⊥) →
      RowHolds k t m r gs us → RowHolds k t n r gs us
  holds_apart t r gs us m n D P few many f apart h = record {
    user = λ p l e. f.blocks _ _ (apart _ (s.inside (length gs) t p (one_member k s few) many l)) ∙ h.user p l (back m n r gs D P f _ e);
    whole = λ fine i l e. f.blocks _ _ (apart i l) ∙ h.whole (fine_before m n r gs D P f (k.tolerance (length gs)) fine) i l (back m n r gs D P f i e);
  }

  pub holds_elsewhere : OthersHold k
  holds_elsewhere t r q gs hs us m n few many f apart h =
      holds_apart t r hs us m n (Ours gs) (InRow q gs) few many f (λ i l x. apart i x.0 l x.1 x.2 x.3) h
