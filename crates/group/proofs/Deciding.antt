-- From how a write was settled to what its contract says.
use Rattle.std.proofs.Common.{◌≡◌, ℕ, ◌<◌, ◌≤◌, List, [], length, get_or, set, Ok, Err, Result, ◌∙◌}
use Rattle.bus.specs.Drives.{Drive}
use Rattle.layout.specs.Blocks.{Blocks}
use Rattle.layout.specs.Methods.{Sound}
use Rattle.layout.specs.declared.method.Method.{Ghosts}
use Rattle.group.specs.declared.member.Member.{Member}
use Rattle.group.specs.declared.fault.RowFault.{RowFault}
use Rattle.group.specs.declared.fault.RowFault.TheVariants.{Lost, Failed}
use Rattle.group.specs.Group.{member, RowLost, RowHolds, Shape, Frame, Its, ItsBlock}
use Rattle.group.specs.Steps.{Stores}
use Rattle.group.specs.Requests.{Settled, Changes, Rebuilds}
use Rattle.group.proofs.Holding.{holds_lost, fine_behind}

module _ {X : Type 0} (k : Ghosts X) (t r : ℕ) (gs : List Member) (s : Sound k.LEAST k.width k.cycle k.home k.check k.row k.tolerance)
    (few : k.LEAST ≤ length gs) (many : length gs ≤ 8) (p : ℕ) (here : p < k.width (length gs)) (new : List ℕ) (m n : List Drive)
    (holds : (us : List (List ℕ)) → Blocks (k.width (length gs)) us → RowHolds k t m r gs us → RowHolds k t n r gs (set us p new)) where
  pub changes : {U : Type 0} (x : Result U RowFault) → Settled (k.tolerance (length gs)) n r gs (k.home (length gs) t p) x → Changes k t m n r gs p new x
  changes (Ok u) h = holds
  changes (Err (Lost j q)) h = λ us u a. holds_lost k t r gs s few many p here us u new n h.1 (holds us u a)
  changes (Err (Failed f j q)) h = absurd h

-- from how a rebuild ended
module _ {X : Type 0} (k : Ghosts X) (t r : ℕ) (gs : List Member) (i : ℕ) (m a n : List Drive) where
  pub stored_frame : {U : Type 0} (b : List ℕ) (x : Result U RowFault) → Stores a n r (member gs i) i b x → Frame a n (Its (member gs i)) (ItsBlock r (member gs i))
  stored_frame b (Ok u) h = h.0
  stored_frame b (Err (Failed f j q)) h = h.0
  stored_frame b (Err (Lost j q)) h = absurd h

  pub rebuilds_by : {U : Type 0} (b : List ℕ) (x : Result U RowFault) → i < length gs → (member gs i).mark ≤ r → Shape a r gs → (RowLost (k.tolerance (length gs)) a r gs → ⊥) →
      ((us : List (List ℕ)) → Blocks (k.width (length gs)) us → RowHolds k t m r gs us → b ≡ get_or (k.row (length gs) t us) i []) →
      Stores a n r (member gs i) i b x → Rebuilds k t m n r gs i x
  rebuilds_by b (Ok u) inside behind shape fine made h =
      (fine_behind k t r gs a n i inside behind shape h.0 (k.tolerance (length gs)) fine, h.2, λ us v w. h.1 ∙ made us v w)
  rebuilds_by b (Err (Failed f j q)) inside behind shape fine made h =
      (h.1, h.2, h.3, fine_behind k t r gs a n i inside behind shape h.0 (k.tolerance (length gs)) fine, h.4)
  rebuilds_by b (Err (Lost j q)) inside behind shape fine made h = absurd h
