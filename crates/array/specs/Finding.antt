-- What the walk over the runs of a volume set finds. Assumes nothing.
use Rattle.std.specs.Prelude.{◌≡◌, ℕ, ◌+◌, ◌<◌, ◌≤◌, List, length, Some, None, Option, slice_index_or}
use Rattle.array.specs.declared.volume.Run.{Run}
use Rattle.array.specs.declared.spots.GroupBlock.{GroupBlock}
use Rattle.bus.specs.declared.address.BlockAddress.{BlockAddress}
use Rattle.array.specs.declared.slot.GroupSlot.{GroupSlot}
use Rattle.array.specs.Configuration.{Configuration, Configured, group_at, group_view}
use Rattle.array.specs.Places.{DriveBlock, spot_in, spot_of, blocks_in, size_of}

-- the run ends where a group can end
abbrev pub ShortRun : Run → Type 0
ShortRun r = r.first + r.count ≤ 524288

-- block b of the runs joined in order
pub record SpotAt (rs : List Run) (b : ℕ) (s : GroupBlock) : Type 0 where
  pub below : b < blocks_in rs
  pub group : s.group ≡ (spot_in rs b).group
  pub block : s.block ≡ (spot_in rs b).block

-- the group's entry under its number g
pub record SlotAt (c : Configuration) (g : ℕ) (s : GroupSlot) : Type 0 where
  pub configured : Configured c.groups g
  pub view : group_view s ≡ group_at c g
  pub number : s.group.number ≡ g

-- x stands under the number n in a table
pub record EntryAt {A : Type 0} (xs : List (Option A)) (n : ℕ) (x : A) : Type 0 where
  pub inside : n < length xs
  pub is : slice_index_or xs n None ≡ Some x

-- block b of volume set v is protected block q of the group s
pub record FoundAt (c : Configuration) (v b : ℕ) (s : GroupSlot) (q : ℕ) : Type 0 where
  pub slot : SlotAt c (spot_of c v b).group s
  pub block : q ≡ (spot_of c v b).block
  pub inside : q < size_of (group_view s)

-- the drive block that is this one
abbrev pub PlacedAt : DriveBlock → BlockAddress → Type 0
PlacedAt d p = (p.drive ≡ d.drive) × (p.block ≡ d.at)
