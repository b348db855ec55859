-- What a read, a write and a rebuild of one block of a row answer, and what they leave: m is the meaning of the bus
-- before, and n after. The cases of an answer exclude one another.
use Rattle.std.specs.Prelude.{◌≡◌, ℕ, ◌+◌, ◌<◌, true, false, ◌⊎◌, List, [], length, Ok, Err, Result, slice_index_or, slice_set}
use Rattle.bus.specs.Numbers.{broken_at}
use Rattle.bus.specs.Drives.{Drive, at}
use Rattle.layout.specs.Blocks.{Blocks}
use Rattle.layout.specs.declared.method.Method.{Ghosts}
use Rattle.group.specs.declared.member.Member.{Member}
use Rattle.group.specs.declared.fault.RowFault.{RowFault}
use Rattle.group.specs.declared.fault.RowFault.TheVariants.{Lost, Failed}
use Rattle.group.specs.Group.{member, missing, held, RowLost, BlockLost, RowHolds, Frame, Ours, InRow, Its, ItsBlock, NoBlock}

-- whatever user blocks the row held, it holds
abbrev pub Keeps : {X : Type 0} → Ghosts X → ℕ → List Drive → List Drive → ℕ → List Member → Type 0
Keeps k t m n r gs = (us : List (List ℕ)) → Blocks (k.width (length gs)) us → RowHolds k t m r gs us → RowHolds k t n r gs us

-- a fault names the row r and a member that is missing in it
pub record Blames (n : List Drive) (r : ℕ) (gs : List Member) (j q : ℕ) : Type 0 where
  pub row : q ≡ r
  pub inside : j < length gs
  pub gone : missing n r (member gs j) ≡ true

-- refused where, and only where, the row is lost
abbrev pub Intact : {U : Type 0} → ℕ → List Drive → ℕ → List Member → Result U RowFault → Type 0
Intact tolerance n r gs (Ok u) = RowLost tolerance n r gs → ⊥
Intact tolerance n r gs (Err (Lost j q)) = Blames n r gs j q × RowLost tolerance n r gs
Intact tolerance n r gs (Err (Failed f j q)) = ⊥

-- at the end: refused where, and only where, the block with home i is lost
abbrev pub Settled : {U : Type 0} → ℕ → List Drive → ℕ → List Member → ℕ → Result U RowFault → Type 0
Settled tolerance n r gs i (Ok u) = BlockLost tolerance n r gs i → ⊥
Settled tolerance n r gs i (Err (Lost j q)) = Blames n r gs j q × BlockLost tolerance n r gs i
Settled tolerance n r gs i (Err (Failed f j q)) = ⊥

-- a home that is not missing at the end was tried first and answered: no other drive can have broken
abbrev pub HomeFirst : List Drive → List Drive → ℕ → List Member → ℕ → Type 0
HomeFirst m n r gs i = missing n r (member gs i) ≡ false → Frame m n (Its (member gs i)) NoBlock

-- an accepted read gives user block p, of whatever user blocks the row held
abbrev pub Gives : {X : Type 0} → Ghosts X → ℕ → List Drive → ℕ → List Member → ℕ → Result (List ℕ) RowFault → Type 0
Gives k t m r gs p (Ok b) = (us : List (List ℕ)) → Blocks (k.width (length gs)) us → RowHolds k t m r gs us → b ≡ slice_index_or us p []
Gives k t m r gs p (Err e) = Unit {0}

-- A write is refused where the row was lost when it began, and then nothing changed; else it is accepted exactly where
-- the block is not lost at its end.
abbrev pub Decided : {U : Type 0} → ℕ → List Drive → List Drive → ℕ → List Member → ℕ → Result U RowFault → Type 0
Decided tolerance m n r gs i (Ok u) = (RowLost tolerance m r gs → ⊥) × (BlockLost tolerance n r gs i → ⊥)
Decided tolerance m n r gs i (Err (Lost j q)) =
    Blames n r gs j q × ((RowLost tolerance m r gs × (n ≡ m)) ⊎ ((RowLost tolerance m r gs → ⊥) × BlockLost tolerance n r gs i))
Decided tolerance m n r gs i (Err (Failed f j q)) = ⊥

-- the row holds the new block, or what it held
abbrev pub Changes : {X U : Type 0} → Ghosts X → ℕ → List Drive → List Drive → ℕ → List Member → ℕ → List ℕ → Result U RowFault → Type 0
Changes k t m n r gs p new (Ok u) = (us : List (List ℕ)) → Blocks (k.width (length gs)) us → RowHolds k t m r gs us → RowHolds k t n r gs (slice_set us p new)
Changes k t m n r gs p new (Err e) = Keeps k t m n r gs

-- A rebuild is done, with the member's drive holding its block of the row; or the row is lost; or the member's own
-- drive is broken. It says which.
abbrev pub Rebuilds : {X U : Type 0} → Ghosts X → ℕ → List Drive → List Drive → ℕ → List Member → ℕ → Result U RowFault → Type 0
Rebuilds k t m n r gs i (Ok u) =
    (RowLost (k.tolerance (length gs)) n r gs → ⊥) × ((at n (member gs i).drive).broken ≡ false) ×
    ((us : List (List ℕ)) → Blocks (k.width (length gs)) us → RowHolds k t m r gs us → held n r (member gs i) ≡ slice_index_or (k.row (length gs) t us) i [])
Rebuilds k t m n r gs i (Err (Lost j q)) = Blames n r gs j q × RowLost (k.tolerance (length gs)) n r gs
Rebuilds k t m n r gs i (Err (Failed f j q)) =
    (f ≡ broken_at (member gs i).drive ((member gs i).start + r)) × (j ≡ i) × (q ≡ r) × (RowLost (k.tolerance (length gs)) n r gs → ⊥) × ((at n (member gs i).drive).broken ≡ true)

-- all that is told of a read of user block p of the row r
pub record RowRead {X : Type 0} (k : Ghosts X) (m n : List Drive) (t r p : ℕ) (x : Result (List ℕ) RowFault) (gs : List Member) : Type 0 where
  pub frame : Frame m n (Ours gs) NoBlock
  pub settled : Settled (k.tolerance (length gs)) n r gs (k.home (length gs) t p) x
  pub first : HomeFirst m n r gs (k.home (length gs) t p)
  pub keeps : Keeps k t m n r gs
  pub gives : Gives k t m r gs p x

-- of a write of it
pub record RowWrite {X U : Type 0} (k : Ghosts X) (m n : List Drive) (t r p : ℕ) (new : List ℕ) (x : Result U RowFault) (gs : List Member) : Type 0 where
  pub frame : Frame m n (Ours gs) (InRow r gs)
  pub decided : Decided (k.tolerance (length gs)) m n r gs (k.home (length gs) t p) x
  pub changes : Changes k t m n r gs p new x

-- and of a rebuild of the member i's block
pub record RowRebuild {X U : Type 0} (k : Ghosts X) (m n : List Drive) (t r i : ℕ) (x : Result U RowFault) (gs : List Member) : Type 0 where
  pub frame : Frame m n (Ours gs) (ItsBlock r (member gs i))
  pub keeps : Keeps k t m n r gs
  pub rebuilds : Rebuilds k t m n r gs i x
