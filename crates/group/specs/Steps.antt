-- What one request at a member does: m is the meaning of the bus before, and n after.
use Rattle.std.specs.Prelude.{◌≡◌, ℕ, ◌+◌, true, false, List, Ok, Err, Result, Option, MatchOption}
use Rattle.bus.specs.Drives.{Drive, at}
use Rattle.bus.specs.Numbers.{broken_at}
use Rattle.group.specs.declared.member.Member.{Member}
use Rattle.group.specs.declared.fault.RowFault.{RowFault}
use Rattle.group.specs.declared.fault.RowFault.TheVariants.{Lost, Failed}
use Rattle.group.specs.Group.{missing, held, Frame, Its, ItsBlock, NoBlock}

-- the member's block was read, or the member is missing now
pub record Fetched (m n : List Drive) (r : ℕ) (g : Member) (x : Option (List ℕ)) : Type 0 where
  pub frame : Frame m n (Its g) NoBlock
  pub answer : MatchOption x (missing n r g ≡ true) (λ b. (missing n r g ≡ false) × (b ≡ held m r g))

-- the member was sent xs, unless it is missing
pub record Sent (m n : List Drive) (r : ℕ) (g : Member) (xs : List ℕ) : Type 0 where
  pub frame : Frame m n (Its g) (ItsBlock r g)
  pub holds : missing n r g ≡ false → held n r g ≡ xs

-- the member i, which is g, was written though it may be missing
abbrev pub Stores : {U : Type 0} → List Drive → List Drive → ℕ → Member → ℕ → List ℕ → Result U RowFault → Type 0
Stores m n r g i xs (Ok u) = Frame m n (Its g) (ItsBlock r g) × (held n r g ≡ xs) × ((at n g.drive).broken ≡ false)
Stores m n r g i xs (Err (Failed f j q)) = Frame m n (Its g) (ItsBlock r g) × (f ≡ broken_at g.drive (g.start + r)) × (j ≡ i) × (q ≡ r) × ((at n g.drive).broken ≡ true)
Stores m n r g i xs (Err (Lost j q)) = ⊥
