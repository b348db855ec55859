-- Filling extents with zeros, block by block and extent by extent.
use Rattle.std.proofs.Common.{◌≡◌, ℕ, ◌+◌, ◌-◌, ◌<◌, ◌≤◌, ◌⊎◌, List, length, Err, sym, refl, ap, ◌∙◌, subst, inl, inr, ⊎_elim, arith}
use Rattle.std.proofs.lemmas.Bool.{cases_eq, cases_lt}
use Rattle.bus.specs.declared.fault.BusFault.{BusFault}
use Rattle.bus.specs.declared.fault.BusFault.TheVariants.{NoDrive, Length, Range, Broken}
use Rattle.bus.specs.Drives.{Drive, at, size, block, broke, stored}
use Rattle.bus.specs.Requests.{WroteBy, Faults}
use Rattle.layout.specs.declared.extent.ExtentRow.{ExtentRow}
use Rattle.layout.specs.Extents.{Sound, Covers}
use Rattle.group.specs.declared.fill.Stop.{Stop}
use Rattle.group.specs.Group.{Frame, NoBlock}
use Rattle.group.specs.Filling.{extent, zeros, Zeroed, Stops, OneDrive, FillsOne, SomeDrive, SomeBlock, Stopped}
use Rattle.group.proofs.Frames.{frame_trans, frame_wider, broke_frame, broke_there, stored_frame, stored_there, stored_broken}

-- the first k blocks of the extent e are filled, and nothing else changed
pub record FilledTo (m n : List Drive) (e : ExtentRow) (k : ℕ) : Type 0 where
  pub frame : Frame m n (OneDrive e) (Covers e)
  pub zeroed : Zeroed n e k

module _ (m s n : List Drive) (e : ExtentRow) (k : ℕ) (inside : k < e.count) (before : FilledTo m s e k) where
  -- one more block is written
  wrote_frame : WroteBy s n e.drive (e.start + k) zeros → Frame s n (OneDrive e) (Covers e)
  wrote_frame w =
      subst (λ (o : List Drive). Frame s o (OneDrive e) (Covers e)) (sym w.stored)
      (frame_wider s (stored s e.drive (e.start + k) zeros) (OneDrive e) (OneDrive e) (λ d b. (e.drive ≡ d) × (e.start + k ≡ b)) (Covers e)
      (λ d x. x)
      (λ d b x. record { drive = sym x.0; from = omega (arith, x.1); below = omega (arith, x.1) })
      (stored_frame s e.drive w.placed.exists (e.start + k) zeros))

  wrote_block : WroteBy s n e.drive (e.start + k) zeros → (r : ℕ) → r < k + 1 → block n e.drive (e.start + r) ≡ zeros
  wrote_block w r h =
      ⊎_elim
      (λ (q : r ≡ k).
      ap (λ (v : ℕ). block n e.drive (e.start + v)) q ∙ ap (λ (o : List Drive). block o e.drive (e.start + k)) w.stored
      ∙ stored_there s e.drive w.placed.exists (e.start + k) zeros w.placed.within)
      (λ ne.
      ap (λ (o : List Drive). block o e.drive (e.start + r)) w.stored
      ∙ (stored_frame s e.drive w.placed.exists (e.start + k) zeros).blocks e.drive (e.start + r) (λ x. ne (omega (arith, x.1)))
      ∙ before.zeroed.blocks r (let far : (r ≡ k → ⊥) = ne in omega arith))
      (cases_eq r k)

  pub filled_more : WroteBy s n e.drive (e.start + k) zeros → FilledTo m n e (k + 1)
  filled_more w = record {
    frame = frame_trans m s n (OneDrive e) (Covers e) before.frame (wrote_frame w);
    zeroed = record {
      blocks = wrote_block w;
      works = λ h.
          ap (λ (o : List Drive). (at o e.drive).broken) w.stored
          ∙ stored_broken s e.drive w.placed.exists (e.start + k) zeros e.drive
          ∙ w.working;
    };
  }

  -- the drive refuses the next block
  same_frame : n ≡ s → Frame m n (OneDrive e) (Covers e)
  same_frame q = subst (λ (o : List Drive). Frame m o (OneDrive e) (Covers e)) (sym q) before.frame

  broke_now : e.drive < length s → n ≡ broke s e.drive → Frame m n (OneDrive e) (Covers e)
  broke_now h q =
      frame_trans m s n (OneDrive e) (Covers e) before.frame
      (subst (λ (o : List Drive). Frame s o (OneDrive e) (Covers e)) (sym q)
      (frame_wider s (broke s e.drive) (OneDrive e) (OneDrive e) NoBlock (Covers e) (λ d x. x) (λ d b x. absurd x) (broke_frame s e.drive h)))

  pub filled_stops : (f : BusFault) → Faults s n e.drive (e.start + k) (length zeros) f → Frame m n (OneDrive e) (Covers e) × (k < e.count) × Stops n e k f
  filled_stops (NoDrive a) q =
      (same_frame q.1.same, inside, (q.0.drive, q.0.place, omega (arith, ap length q.1.same, q.1.beyond)))
  filled_stops (Length a) q = absurd (q.1.other refl)
  filled_stops (Range a) q =
      (same_frame q.1.same, inside, (q.0.drive, q.0.place, omega (arith, ap (λ (o : List Drive). size o e.drive) q.1.same, q.1.beyond)))
  filled_stops (Broken a) q = (
    broke_now q.1.placed.exists q.1.broken,
    inside,
    (q.0.drive, q.0.place, ap (λ (o : List Drive). (at o e.drive).broken) q.1.broken ∙ broke_there s e.drive q.1.placed.exists),
  )

-- the extents below i are filled, and no more than the extents changed
pub record FilledMembers (m n : List Drive) (es : List ExtentRow) (i : ℕ) : Type 0 where
  pub frame : Frame m n (SomeDrive es) (SomeBlock es)
  pub zeroed : (j : ℕ) → j < i → Zeroed n (extent es j) (extent es j).count

covers_cases : (e : ExtentRow) (d b : ℕ) → Covers e d b ⊎ (Covers e d b → ⊥)
covers_cases e d b =
    ⊎_elim
    (λ (q : d ≡ e.drive).
    ⊎_elim
    (λ (l : b < e.start). inr (λ x. omega (arith, x.from)))
    (λ (l : e.start ≤ b).
    ⊎_elim
    (λ (u : b < e.start + e.count). inl (record { drive = q; from = l; below = u }))
    (λ (u : e.start + e.count ≤ b). inr (λ x. omega (arith, x.below)))
    (cases_lt b (e.start + e.count)))
    (cases_lt b e.start))
    (λ ne. inr (λ x. ne x.drive))
    (cases_eq d e.drive)

-- a block that a filled extent covers is zeros
covered_zeros : (n : List Drive) (e : ExtentRow) (d b : ℕ) → Zeroed n e e.count → Covers e d b → block n d b ≡ zeros
covered_zeros n e d b z c =
    let l : b - e.start < e.count = omega (arith, c.from, c.below) in
    let q : b ≡ e.start + (b - e.start) = omega (arith, c.from) in
    ap (λ (v : ℕ). block n v b) c.drive ∙ ap (λ (v : ℕ). block n e.drive v) q ∙ z.blocks (b - e.start) l

-- what is filled stays so while the sound extent e is filled
still_zeroed : (s n : List Drive) (e f : ExtentRow) → Sound e → Frame s n (OneDrive e) (Covers e) → Zeroed n e e.count → (k : ℕ) → Zeroed s f k → Zeroed n f k
still_zeroed s n e f sound fr z k was = record {
  blocks = λ r h.
      ⊎_elim
      (λ (c : Covers e f.drive (f.start + r)). covered_zeros n e f.drive (f.start + r) z c)
      (λ (far : Covers e f.drive (f.start + r) → ⊥). fr.blocks f.drive (f.start + r) far ∙ was.blocks r h)
      (covers_cases e f.drive (f.start + r));
  works = λ h.
      ⊎_elim
      (λ (q : f.drive ≡ e.drive). ap (λ (d : ℕ). (at n d).broken) q ∙ z.works sound.some)
      (λ ne. ap (λ (v : Drive). v.broken) (fr.others f.drive (λ q. ne (sym q))) ∙ was.works h)
      (cases_eq f.drive e.drive);
}

module _ (m s n : List Drive) (es : List ExtentRow) (i : ℕ) (inside : i < length es) (before : FilledMembers m s es i) where
  one_of : Frame s n (OneDrive (extent es i)) (Covers (extent es i)) → Frame m n (SomeDrive es) (SomeBlock es)
  one_of fr =
      frame_trans m s n (SomeDrive es) (SomeBlock es) before.frame
      (frame_wider s n (OneDrive (extent es i)) (SomeDrive es) (Covers (extent es i)) (SomeBlock es) (λ d x. (i, inside, x)) (λ d b x. (i, inside, x)) fr)

  pub member_filled : Sound (extent es i) → Frame s n (OneDrive (extent es i)) (Covers (extent es i)) → Zeroed n (extent es i) (extent es i).count → FilledMembers m n es (i + 1)
  member_filled sound fr z = record {
    frame = one_of fr;
    zeroed = λ j h.
        ⊎_elim
        (λ (q : j ≡ i). subst (λ (v : ℕ). Zeroed n (extent es v) (extent es v).count) (sym q) z)
        (λ ne. still_zeroed s n (extent es i) (extent es j) sound fr z (extent es j).count (before.zeroed j (let far : (j ≡ i → ⊥) = ne in omega arith)))
        (cases_eq j i);
  }

  pub member_stops : (U : Type 0) (number : ℕ) (x : Stop) → ((k : ℕ) → k < length es → Sound (extent es k)) → FillsOne {U = U} s n (extent es i) (Err x) → Stopped m n es number number x.row i x.fault
  member_stops U number x sound told =
      record { frame = one_of told.0; group = refl; inside = inside; row = told.1; fault = told.2; sound = sound }
