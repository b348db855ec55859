-- The rules of one call: which answers are right. Assumes nothing.
use Rattle.std.specs.Prelude.{◌≡◌, ℕ, ◌+◌, ◌<◌, true, List, [], ◌++◌, length, drop, Some, None, Option, Ok, Err}
use Rattle.layout.specs.declared.extent.ExtentRow.{ExtentRow}
use Rattle.group.specs.Group.{member}
use Rattle.group.specs.Filling.{extent}
use Rattle.array.specs.declared.refusal.Fault.{Fault}
use Rattle.array.specs.declared.refusal.Fault.TheVariants.{OfRow, OfBlock}
use Rattle.array.specs.Configuration.{group_at}
use Rattle.array.specs.Places.{mapped, blocks_of, spot_of, row_of, missing}
use Rattle.array.specs.Checks.{Check, AllHold, FirstNo, Scene, group_checks, delete_group_checks, volume_checks, delete_volume_checks, control_checks, size_checks, map_checks, read_checks, write_checks}
use Rattle.array.specs.Calls.{Blamed}
use Rattle.controller.specs.declared.calls.Call.{Call}
use Rattle.controller.specs.declared.calls.Call.TheVariants.{MakeGroup, DeleteGroup, MakeVolume, DeleteVolume, WriteControl, Size, Map, Read, Write}
use Rattle.controller.specs.declared.calls.Value.{Value}
use Rattle.controller.specs.declared.calls.Value.TheVariants.{Done, Blocks, At}
use Rattle.controller.specs.State.{Answer, Entry, State}

-- the buffer with `out` written over its front
abbrev pub over : List ℕ → List ℕ → List ℕ
over out buffer = out ++ drop (length out) buffer

-- Accepted exactly when all checks hold, with this value, and these bytes written over the front of the buffer; refused
-- exactly with the first check that does not hold, and then the buffer is as it was.
abbrev pub Answers : List Check → Value → List ℕ → Entry → Answer → Type 0
Answers cs v out e (Ok w) = AllHold cs × (w ≡ v) × (e.left ≡ over out e.buffer)
Answers cs v out e (Err x) = FirstNo cs x.refusal × (e.left ≡ e.buffer)

-- where the entry's call is made
abbrev pub scene_at : ℕ → (ℕ → ℕ) → State → Entry → Scene
scene_at count capacity st e = record { count = count; capacity = capacity; configuration = st.configuration; before = e.before; after = e.after }

abbrev pub RightFor : Scene → State → Entry → Call → Type 0
RightFor s st e (MakeGroup g code k es) = Answers (group_checks s g code k es.now) Done [] e e.answer
RightFor s st e (DeleteGroup g) = Answers (delete_group_checks st.configuration g) Done [] e e.answer
RightFor s st e (MakeVolume v rs) = Answers (volume_checks st.configuration v rs.now) Done [] e e.answer
RightFor s st e (DeleteVolume v) = Answers (delete_volume_checks st.configuration v) Done [] e e.answer
RightFor s st e (WriteControl v on) = Answers (control_checks st.configuration v) Done [] e e.answer
RightFor s st e (Size v) = Answers (size_checks st.configuration v) (Blocks (blocks_of st.configuration v)) [] e e.answer
RightFor s st e (Map v b) =
    Answers (map_checks st.configuration v b) (At (record { drive = (mapped st.configuration v b).drive; block = (mapped st.configuration v b).at })) [] e e.answer
RightFor s st e (Read v b) =
    Answers (read_checks s v b (length e.buffer)) Done (st.contents (spot_of st.configuration v b).group (spot_of st.configuration v b).block) e e.answer
RightFor s st e (Write v b) = Answers (write_checks s v b (length e.buffer)) Done [] e e.answer

-- THE ANSWER IS THE ONE THAT THE RULES GIVE, after what the log said so far
abbrev pub Right : ℕ → (ℕ → ℕ) → State → Entry → Type 0
Right count capacity st e = RightFor (scene_at count capacity st e) st e e.call

-- what a fault names ------------------------------------------------------------------------------------------------------

-- an extent of the list, at a row, whose drive is broken after the call
pub record BrokenExtent (s : Scene) (g : ℕ) (es : List ExtentRow) (h r i d b : ℕ) : Type 0 where
  pub group : h ≡ g
  pub inside : i < length es
  pub row : r < (extent es i).count
  pub drive : d ≡ (extent es i).drive
  pub block : b ≡ (extent es i).start + r
  pub broken : s.after d ≡ true

-- a member that is missing after the call in the row of block a of volume set v
pub record MissingMember (s : Scene) (v a w x h r i d b : ℕ) : Type 0 where
  pub volume : w ≡ v
  pub block : x ≡ a
  pub group : h ≡ (spot_of s.configuration v a).group
  pub row : r ≡ row_of (group_at s.configuration (spot_of s.configuration v a).group) (spot_of s.configuration v a).block
  pub inside : i < length (group_at s.configuration (spot_of s.configuration v a).group).members
  pub drive : d ≡ (member (group_at s.configuration (spot_of s.configuration v a).group).members i).drive
  pub place : b ≡ (member (group_at s.configuration (spot_of s.configuration v a).group).members i).start + r
  pub gone : missing s.after r (member (group_at s.configuration (spot_of s.configuration v a).group).members i) ≡ true

abbrev pub NamesExtent : Scene → ℕ → List ExtentRow → Option Fault → Type 0
NamesExtent s g es None = Unit {0}
NamesExtent s g es (Some (OfRow h r i p)) = BrokenExtent s g es h r i p.drive p.block
NamesExtent s g es (Some (OfBlock o h r i p)) = ⊥

abbrev pub NamesMember : Scene → ℕ → ℕ → Option Fault → Type 0
NamesMember s v a None = Unit {0}
NamesMember s v a (Some (OfRow h r i p)) = ⊥
NamesMember s v a (Some (OfBlock o h r i p)) = MissingMember s v a o.volume o.block h r i p.drive p.block

abbrev pub Names : Scene → Call → Option Fault → Type 0
Names s (MakeGroup g code k es) f = NamesExtent s g es.now f
Names s (DeleteGroup g) f = f ≡ None
Names s (MakeVolume v rs) f = f ≡ None
Names s (DeleteVolume v) f = f ≡ None
Names s (WriteControl v on) f = f ≡ None
Names s (Size v) f = f ≡ None
Names s (Map v b) f = f ≡ None
Names s (Read v b) f = NamesMember s v b f
Names s (Write v b) f = NamesMember s v b f

-- A REFUSAL NAMES A DRIVE exactly where drives have to do with it, and one that it may name; which of several is free
abbrev pub BlamesFor : Scene → Call → Answer → Type 0
BlamesFor s call (Ok w) = Unit {0}
BlamesFor s call (Err x) = Blamed x × Names s call x.fault

abbrev pub Blames : ℕ → (ℕ → ℕ) → State → Entry → Type 0
Blames count capacity st e = BlamesFor (scene_at count capacity st e) e.call e.answer
