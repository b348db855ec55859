-- Reading member after member.
use Rattle.std.proofs.Common.{◌≡◌, ℕ, ◌+◌, ◌<◌, ◌≤◌, Bool, true, false, ◌||◌, leb, ◌≢◌, List, [], length, get_or, set, Option, Some, None, sym, ap, ◌∙◌, subst, ⊎_elim, arith}
use Rattle.std.proofs.lemmas.List.{get_or-set_same, get_or-set_other, get_or-map, length-map}
use Rattle.std.proofs.lemmas.Bool.{cases_eq, cases_lt, cases_Bool, both_ways}
use Rattle.bus.specs.Drives.{Drive, at, size}
use Rattle.layout.specs.Blocks.{missing_count}
use Rattle.group.specs.declared.member.Member.{Member}
use Rattle.group.specs.Group.{nobody, member, missing, missings, held, Shape, Frame, Ours, NoBlock, Its}
use Rattle.group.specs.Steps.{Fetched}
use Rattle.group.specs.Sweeps.{Gathered}
use Rattle.group.proofs.Frames.{frame_trans, frame_wider, missing_stays}
use Rattle.group.proofs.Counts.{missing_count_within, missing_count_set}

-- the members below i were gone over, and s is the bus now
pub record Gathers (tolerance : ℕ) (m : List Drive) (r : ℕ) (gs : List Member) (i : ℕ) (s : List Drive) (unread : List Bool) (bs : List (List ℕ)) : Type 0 where
  pub frame : Frame m s (Ours gs) NoBlock
  pub known : (k : ℕ) → k < length gs → get_or unread k true ≡ false → (missing s r (member gs k) ≡ false) × (get_or bs k [] ≡ held m r (member gs k))
  pub tried : tolerance < missing_count unread → (k : ℕ) → k < i → get_or unread k true ≡ true → missing s r (member gs k) ≡ true
  pub rest : (k : ℕ) → i ≤ k → get_or unread k true ≡ true

module _ (tolerance : ℕ) (m : List Drive) (r : ℕ) (gs : List Member) where
  pub gathers_as : (i : ℕ) (s z : List Drive) (o p : List Bool) (bs cs : List (List ℕ)) → z ≡ s → p ≡ o → cs ≡ bs → Gathers tolerance m r gs i s o bs → Gathers tolerance m r gs i z p cs
  gathers_as i s z o p bs cs es eo eb h =
      subst (λ (x : List Drive). Gathers tolerance m r gs i x p cs) (sym es)
      (subst (λ (x : List Bool). Gathers tolerance m r gs i s x cs) (sym eo) (subst (λ (x : List (List ℕ)). Gathers tolerance m r gs i s o x) (sym eb) h))

  pub gathers_skip : (i j : ℕ) (s : List Drive) (o : List Bool) (bs : List (List ℕ)) → i ≤ j → missing_count o ≤ tolerance → Gathers tolerance m r gs i s o bs → Gathers tolerance m r gs j s o bs
  gathers_skip i j s o bs le few a = record {
    frame = a.frame;
    known = a.known;
    tried = λ l k h e. absurd (omega arith);
    rest = λ k h. a.rest k (omega arith);
  }

  module _ (shape : Shape m r gs) (i : ℕ) (s : List Drive) (o : List Bool) (bs : List (List ℕ)) (h : i < length gs) (a : Gathers tolerance m r gs i s o bs) where
    -- the row lies on the drives as they are now
    pub still_within : (member gs i).start + r < size s (member gs i).drive
    still_within = omega (arith, shape.within i h, a.frame.sizes (member gs i).drive)

    module _ (n : List Drive) (x : Option (List ℕ)) (f : Fetched s n r (member gs i) x) where
      frame_next : Frame m n (Ours gs) NoBlock
      frame_next = frame_trans m s n (Ours gs) NoBlock a.frame
          (frame_wider s n (Its (member gs i)) (Ours gs) NoBlock NoBlock (λ d e. (i, h, e)) (λ d c x. x) f.frame)

      -- another member's drive is as it was
      same_at : (k : ℕ) → k < length gs → k ≢ i → at n (member gs k).drive ≡ at s (member gs k).drive
      same_at k l ne = f.frame.others (member gs k).drive (λ e. ne (sym (shape.apart i k h l e)))

      same_missing : (k : ℕ) → k < length gs → k ≢ i → missing n r (member gs k) ≡ missing s r (member gs k)
      same_missing k l ne = ap (λ (v : Drive). v.broken || leb (member gs k).mark r) (same_at k l ne)

    pub gathers_read : (n : List Drive) (buf : List ℕ) → i < length o → i < length bs → Fetched s n r (member gs i) (Some buf) → Gathers tolerance m r gs (i + 1) n (set o i false) (set bs i buf)
    gathers_read n buf ho hb f = record {
      frame = frame_next n (Some buf) f;
      known = λ k l e.
          ⊎_elim
          (λ (q : k ≡ i). (
            subst (λ (j : ℕ). missing n r (member gs j) ≡ false) (sym q) f.answer.0,
            subst (λ (j : ℕ). get_or (set bs i buf) j [] ≡ held m r (member gs j)) (sym q)
                (get_or-set_same bs i buf [] hb ∙ f.answer.1 ∙ a.frame.blocks _ _ (λ x. x)),
          ))
          (λ (ne : k ≡ i → ⊥).
          let old = a.known k l (sym (get_or-set_other o i k false true ne) ∙ e) in
          (same_missing n (Some buf) f k l ne ∙ old.0, get_or-set_other bs i k buf [] ne ∙ old.1))
          (cases_eq k i);
      tried = λ l k lt e.
          ⊎_elim
          (λ (q : k ≡ i). absurd (both_ways (get_or (set o i false) k true) (ap (λ (j : ℕ). get_or (set o i false) j true) q ∙ get_or-set_same o i false true ho) e))
          (λ (ne : k ≡ i → ⊥).
          let fewer = missing_count_set o i in
          missing_stays s n r (member gs k) (f.frame.stays _) (a.tried (omega arith) k (omega arith) (sym (get_or-set_other o i k false true ne) ∙ e)))
          (cases_eq k i);
      rest = λ k l. let ne : k ≢ i = omega arith in get_or-set_other o i k false true ne ∙ a.rest k (omega arith);
    }

    pub gathers_miss : (n : List Drive) → Fetched s n r (member gs i) None → Gathers tolerance m r gs (i + 1) n o bs
    gathers_miss n f = record {
      frame = frame_next n None f;
      known = λ k l e.
          ⊎_elim
          (λ (q : k ≡ i). absurd (both_ways (get_or o k true) e (a.rest k (omega arith))))
          (λ (ne : k ≡ i → ⊥). let old = a.known k l e in (same_missing n None f k l ne ∙ old.0, old.1))
          (cases_eq k i);
      tried = λ l k lt e.
          ⊎_elim
          (λ (q : k ≡ i). subst (λ (j : ℕ). missing n r (member gs j) ≡ true) (sym q) f.answer)
          (λ (ne : k ≡ i → ⊥). missing_stays s n r (member gs k) (f.frame.stays _) (a.tried l k (omega arith) e))
          (cases_eq k i);
      rest = λ k l. a.rest k (omega arith);
    }

  pub gathers_all : (i : ℕ) (s : List Drive) (o : List Bool) (bs : List (List ℕ)) → length gs ≤ i → length o ≡ length gs → Gathers tolerance m r gs i s o bs → Gathered tolerance m s r gs o bs
  gathers_all i s o bs end eo a =
      let long : length (missings s r gs) ≡ length gs = length-map gs (missing s r) in
      let here : (k : ℕ) → k < length gs → get_or (missings s r gs) k true ≡ missing s r (member gs k) = λ k l. get_or-map (missing s r) gs k nobody true l in
      record {
        frame = a.frame;
        known = a.known;
        covers = missing_count_within (missings s r gs) o (omega arith) (λ k l e.
            ⊎_elim (λ t. t) (λ f. absurd (both_ways (missing s r (member gs k)) (a.known k (omega arith) f).0 (sym (here k (omega arith)) ∙ e))) (cases_Bool (get_or o k true)));
        enough = λ fine.
            ⊎_elim
            (λ (l : tolerance < missing_count o).
            let w = missing_count_within o (missings s r gs) (omega arith) (λ k j e. here k (omega arith) ∙ a.tried l k (omega arith) e) in
            absurd (fine (omega arith)))
            (λ l. l) (cases_lt tolerance (missing_count o));
      }
