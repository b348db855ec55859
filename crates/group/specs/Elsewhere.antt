-- A request at one row leaves every other row, of its group and of any other, as it was.
use Rattle.std.specs.Prelude.{◌≡◌, ℕ, ◌+◌, ◌<◌, ◌≤◌, List, length, ◌≢◌}
use Rattle.bus.specs.Drives.{Drive}
use Rattle.layout.specs.declared.method.Method.{Ghosts}
use Rattle.group.specs.declared.member.Member.{Member}
use Rattle.group.specs.Group.{member, RowHolds, Frame, Ours, InRow}

-- the row q of the group gs was asked for; the row r of the group hs, which has no block of it, holds what it held
abbrev pub OthersHold : {X : Type 0} → Ghosts X → Type 0
OthersHold k =
    (t r q : ℕ) (gs hs : List Member) (us : List (List ℕ)) (m n : List Drive) →
    k.LEAST ≤ length hs → length hs ≤ 8 → Frame m n (Ours gs) (InRow q gs) →
    ((i j : ℕ) → i < length hs → j < length gs → (member gs j).drive ≡ (member hs i).drive → (member gs j).start + q ≢ (member hs i).start + r) →
    RowHolds k t m r hs us → RowHolds k t n r hs us
