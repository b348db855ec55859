-- What going over the members of a row does: m is the meaning of the bus before, and n after.
use Rattle.std.specs.Prelude.{◌≡◌, ℕ, ◌<◌, ◌≤◌, Bool, true, false, ◌||◌, List, [], length, ◌==◌, slice_index_or}
use Rattle.bus.specs.Drives.{Drive}
use Rattle.layout.specs.Blocks.{missing_count, Blocks, Agree}
use Rattle.layout.specs.declared.method.Method.{Ghosts}
use Rattle.group.specs.declared.member.Member.{Member}
use Rattle.group.specs.Group.{member, missing, missings, held, RowLost, Frame, Ours, InRow, NoBlock}

-- members were read into bs until enough were there; `unread` marks the others
pub record Gathered (tolerance : ℕ) (m n : List Drive) (r : ℕ) (gs : List Member) (unread : List Bool) (bs : List (List ℕ)) : Type 0 where
  pub frame : Frame m n (Ours gs) NoBlock
  pub known : (i : ℕ) → i < length gs → slice_index_or unread i true ≡ false → (missing n r (member gs i) ≡ false) × (slice_index_or bs i [] ≡ held m r (member gs i))
  pub covers : missing_count (missings n r gs) ≤ missing_count unread
  pub enough : (RowLost tolerance n r gs → ⊥) → missing_count unread ≤ tolerance

-- the members that a write of the user block at `home` concerns
abbrev pub concerned : (ℕ → Bool) → ℕ → ℕ → Bool
concerned check home i = i == home || check i

-- bs was written to the members that `to` marks and that are not missing
pub record Spread (to : ℕ → Bool) (m n : List Drive) (r : ℕ) (gs : List Member) (bs : List (List ℕ)) : Type 0 where
  pub frame : Frame m n (Ours gs) (InRow r gs)
  pub written : (i : ℕ) → i < length gs → to i ≡ true → missing n r (member gs i) ≡ false → held n r (member gs i) ≡ slice_index_or bs i []
  pub kept : (i : ℕ) → i < length gs → to i ≡ false → held n r (member gs i) ≡ held m r (member gs i)

-- P holds of whatever user blocks bs are the row of, in strip t with n members, at the members that `unread` does not mark
abbrev pub FromRow : {X : Type 0} → Ghosts X → ℕ → ℕ → List Bool → List (List ℕ) → (List (List ℕ) → Type 0) → Type 0
FromRow k n t unread bs P = (us : List (List ℕ)) → Blocks (k.width n) us → Agree unread bs (k.row n t us) → P us
