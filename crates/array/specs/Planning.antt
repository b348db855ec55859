-- The steps of making group g, by method code at depth k on the extents es: m are the drives before and n after, c is the
-- configuration. Assumes nothing.
use Rattle.std.specs.Prelude.{◌≡◌, ℕ, ◌+◌, ◌<◌, ◌≤◌, false, List, length, Some, None, Option, Ok, Err, Result}
use Rattle.bus.specs.Drives.{Drive, at, size}
use Rattle.layout.specs.Extents.{Sound, Overlap}
use Rattle.layout.specs.declared.extent.ExtentRow.{ExtentRow}
use Rattle.group.specs.Filling.{Filled}
use Rattle.array.specs.declared.kind.MethodKind.{MethodKind}
use Rattle.array.specs.declared.refusal.Refusal.TheVariants.{Broken}
use Rattle.array.specs.declared.refusal.Refused.{Refused}
use Rattle.array.specs.declared.slot.GroupSlot.{GroupSlot}
use Rattle.array.specs.Kinds.{method_of}
use Rattle.array.specs.Configuration.{GroupConfig, Configuration, Free, HasMember, Unassigned, extent_at, group_at, group_view, mapped_option, new_group, no_group, or_else}
use Rattle.array.specs.Checks.{scene, FirstNo, EachExtent, FieldsFor, DifferentDrives, group_checks}
use Rattle.array.specs.Calls.{Blamed, Unfilled}

-- an entry of the table of groups as a group, of no members where there is none
abbrev pub slot_view : Option GroupSlot → GroupConfig
slot_view x = or_else no_group (mapped_option group_view x)

-- the extent shares a block with a member of the group; of a group
abbrev pub Shared : ExtentRow → GroupConfig → Type 0
Shared e g = (i : ℕ) × (i < length g.members) × Overlap e (extent_at g i)

abbrev pub Assigned : Configuration → ExtentRow → Type 0
Assigned c e = (g : ℕ) × (i : ℕ) × HasMember c g i × Overlap e (extent_at (group_at c g) i)

-- every extent lies on its drive
pub record Lying (m : List Drive) (es : List ExtentRow) : Type 0 where
  pub on_bus : EachExtent es (λ e. e.drive < length m)
  pub inside : EachExtent es (λ e. e.start + e.count ≤ size m e.drive)

-- a group of that kind on sound extents: its drives differ, and it is the one to be entered
pub record Built (kind : MethodKind) (g k : ℕ) (es : List ExtentRow) (s : GroupSlot) : Type 0 where
  pub apart : DifferentDrives es
  pub number : s.group.number ≡ g
  pub view : Some (group_view s) ≡ new_group (Some kind) k es

-- every check before the fill holds, and s is to be entered
pub record Planned (m : List Drive) (c : Configuration) (g code k : ℕ) (es : List ExtentRow) (s : GroupSlot) : Type 0 where
  pub fields : FieldsFor (method_of code) k es
  pub lying : Lying m es
  pub free : Free c.groups g
  pub below : g < 8
  pub unassigned : EachExtent es (Unassigned c)
  pub apart : DifferentDrives es
  pub sound : EachExtent es Sound
  pub number : s.group.number ≡ g
  pub view : Some (group_view s) ≡ new_group (method_of code) k es

abbrev pub Plans : List Drive → Configuration → ℕ → ℕ → ℕ → List ExtentRow → Result GroupSlot Refused → Type 0
Plans m c g code k es (Ok s) = Planned m c g code k es s
Plans m c g code k es (Err x) = ((n : List Drive) → FirstNo (group_checks (scene m n c) g code k es) x.refusal) × Blamed x × (x.fault ≡ None)

-- filled; or a drive is broken, which is named
abbrev pub FillsGroup : {U : Type 0} → List Drive → List Drive → ℕ → List ExtentRow → Result U Refused → Type 0
FillsGroup m n g es (Ok u) = Filled m n es
FillsGroup m n g es (Err x) =
    (x.refusal ≡ Broken) × Blamed x × Unfilled m n g es x.fault × (EachExtent es (λ e. (at n e.drive).broken ≡ false) → ⊥)
