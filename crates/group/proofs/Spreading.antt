-- Writing member after member.
use Rattle.std.proofs.Common.{◌≡◌, ℕ, ◌+◌, ◌<◌, ◌≤◌, Bool, true, false, ◌≢◌, List, [], length, get_or, sym, ap, ◌∙◌, subst, ⊎_elim, arith}
use Rattle.std.proofs.lemmas.Bool.{cases_eq, both_ways}
use Rattle.bus.specs.Drives.{Drive, size}
use Rattle.group.specs.declared.member.Member.{Member}
use Rattle.group.specs.Group.{member, missing, held, Shape, Frame, Ours, InRow, Its, ItsBlock}
use Rattle.group.specs.Steps.{Sent}
use Rattle.group.proofs.Frames.{frame_trans, frame_wider, missing_back}

pub record Spreads (to : ℕ → Bool) (m : List Drive) (r : ℕ) (gs : List Member) (bs : List (List ℕ)) (i : ℕ) (s : List Drive) : Type 0 where
  pub frame : Frame m s (Ours gs) (InRow r gs)
  pub written : (k : ℕ) → k < length gs → k < i → to k ≡ true → missing s r (member gs k) ≡ false → held s r (member gs k) ≡ get_or bs k []
  pub kept : (k : ℕ) → k < length gs → (to k ≡ true → i ≤ k) → held s r (member gs k) ≡ held m r (member gs k)

module _ (to : ℕ → Bool) (m : List Drive) (r : ℕ) (gs : List Member) (bs : List (List ℕ)) where
  pub spreads_skip : (i : ℕ) (s : List Drive) → to i ≡ false → Spreads to m r gs bs i s → Spreads to m r gs bs (i + 1) s
  spreads_skip i s off a = record {
    frame = a.frame;
    written = λ k l lt e w.
        ⊎_elim (λ (q : k ≡ i). absurd (both_ways (to k) (ap to q ∙ off) e)) (λ (ne : k ≡ i → ⊥). a.written k l (omega arith) e w) (cases_eq k i);
    kept = λ k l f. a.kept k l (λ e. omega (arith, f e));
  }

  module _ (shape : Shape m r gs) (i : ℕ) (s : List Drive) (h : i < length gs) (a : Spreads to m r gs bs i s) where
    pub still_within : (member gs i).start + r < size s (member gs i).drive
    still_within = omega (arith, shape.within i h, a.frame.sizes (member gs i).drive)

    pub spreads_send : (n : List Drive) → Sent s n r (member gs i) (get_or bs i []) → to i ≡ true → Spreads to m r gs bs (i + 1) n
    spreads_send n f on =
        let same : (k : ℕ) → k < length gs → k ≢ i → held n r (member gs k) ≡ held s r (member gs k) =
        λ k l ne. f.frame.blocks _ _ (λ e. ne (sym (shape.apart i k h l e.0))) in
        record {
          frame = frame_trans m s n (Ours gs) (InRow r gs) a.frame
              (frame_wider s n (Its (member gs i)) (Ours gs) (ItsBlock r (member gs i)) (InRow r gs) (λ d e. (i, h, e)) (λ d b e. (i, h, e.0, e.1)) f.frame);
          written = λ k l lt e w.
              ⊎_elim
              (λ (q : k ≡ i). subst (λ (j : ℕ). held n r (member gs j) ≡ get_or bs j []) (sym q) (f.holds (subst (λ (j : ℕ). missing n r (member gs j) ≡ false) q w)))
              (λ (ne : k ≡ i → ⊥). same k l ne ∙ a.written k l (omega arith) e (missing_back s n r (member gs k) (f.frame.stays _) w))
              (cases_eq k i);
          kept = λ k l off.
              let ne : k ≢ i = λ q. let z : i + 1 ≤ k = off (ap to q ∙ on) in omega arith in
              same k l ne ∙ a.kept k l (λ e. omega (arith, off e));
        }
