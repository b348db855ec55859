-- What a log says by one entry more, and what drives still hold when they change elsewhere. Assumes nothing.
use Rattle.std.proofs.Common.{◌≡◌, ℕ, ◌+◌, ◌<◌, List, [], ◌∷◌, ◌++◌, length, get_or, refl, ap, arith}
use Rattle.bus.specs.Drives.{Drive, Worse}
use Rattle.group.specs.Group.{member, Frame, NoBlock}
use Rattle.group.proofs.Holding.{holds_apart}
use Rattle.array.specs.Kinds.{method}
use Rattle.array.specs.Configuration.{GroupConfig, Configuration, HasMember, group_at}
use Rattle.array.specs.Tables.{SoundGroup, SoundConfig}
use Rattle.array.specs.Calls.{OnDrives, Holds}
use Rattle.array.proofs.Soundness.{method_sound}
use Rattle.controller.specs.State.{Entry, State, start, after, after_all, state_of, users}
use Rattle.controller.specs.Law.{Held}

-- one entry more ----------------------------------------------------------------------------------------------------------

after_all_snoc : (st : State) (log : List Entry) (e : Entry) → after_all st (log ++ e ∷ []) ≡ after (after_all st log) e
after_all_snoc st [] e = refl
after_all_snoc st (x ∷ log) e = after_all_snoc (after st x) log e

pub state_snoc : (log : List Entry) (e : Entry) → state_of (log ++ e ∷ []) ≡ after (state_of log) e
unfolding state_of
state_snoc log e = after_all_snoc start log e

-- other blocks change ---------------------------------------------------------------------------------------------------------

module _ (m n : List Drive) {D : ℕ → Type 0} {P : ℕ → ℕ → Type 0} (f : Frame m n D P) where
  pub lies_frame : (c : Configuration) → OnDrives m c → OnDrives n c
  lies_frame c lies g i has = omega (arith, lies g i has, f.sizes (member (group_at c g).members i).drive)

  -- a row that has no block in P
  pub row_frame : (g : GroupConfig) (r : ℕ) (us : List (List ℕ)) → SoundGroup g →
      ((i : ℕ) → i < length g.members → P (member g.members i).drive ((member g.members i).start + r) → ⊥) →
      Holds m g r us → Holds n g r us
  row_frame g r us s apart h = holds_apart (method g.kind) (method_sound g.kind) _ r g.members us m n D P s.least s.most f apart h

  pub held_frame : (st : State) → SoundConfig st.configuration →
      ((g i r : ℕ) → HasMember st.configuration g i → r < (group_at st.configuration g).rows →
      P (member (group_at st.configuration g).members i).drive ((member (group_at st.configuration g).members i).start + r) → ⊥) →
      Held m st → Held n st
  held_frame st s apart held g r has l =
      row_frame (group_at st.configuration g) r (users st g r) (s.groups g has) (λ i li. apart g i r (has, li) l) (held g r has l)

module _ (m n : List Drive) (w : Worse m n) where
  pub worse_frame : Frame m n (λ d. Unit {0}) NoBlock
  worse_frame = record {
    count = w.count;
    sizes = λ d. ap length (w.blocks d);
    stays = w.stays;
    others = λ d ne. absurd (ne tt);
    blocks = λ d b ne. ap (λ (bs : List (List ℕ)). get_or bs b []) (w.blocks d);
  }

  pub lies_worse : (c : Configuration) → OnDrives m c → OnDrives n c
  lies_worse = lies_frame m n worse_frame

  pub held_worse : (st : State) → SoundConfig st.configuration → Held m st → Held n st
  held_worse st s = held_frame m n worse_frame st s (λ g i r has l x. x)
