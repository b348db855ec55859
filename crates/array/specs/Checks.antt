-- The checks before any work: for each call the list of what must hold, in the order asked. Assumes nothing.
use Rattle.std.specs.Prelude.{◌≡◌, ℕ, ◌+◌, ◌<◌, ◌≤◌, Bool, true, false, ◌⊎◌, List, [], ◌∷◌, length, Some, None, Option, ◌≢◌}
use Rattle.bus.specs.Drives.{Drive, at, size}
use Rattle.layout.specs.declared.extent.ExtentRow.{ExtentRow}
use Rattle.layout.specs.Places.{Fits}
use Rattle.group.specs.Filling.{extent}
use Rattle.array.specs.declared.kind.MethodKind.{MethodKind}
use Rattle.array.specs.declared.volume.Run.{Run}
use Rattle.array.specs.declared.refusal.Refusal.{Refusal}
use Rattle.array.specs.declared.refusal.Refusal.TheVariants.{Field, NoDrive, NotConfigured, ShortBuffer, Outside, Conflict, Broken, WritesDisabled, LostReading, LostWriting}
use Rattle.array.specs.Kinds.{method, method_of}
use Rattle.array.specs.Configuration.{Configuration, Configured, Free, Unassigned, UnassignedRun, RunsOverlap, HasRun, group_at, volume_at, run, rows_in}
use Rattle.array.specs.Places.{size_of, blocks_of, LostAt, LostRowAt}

-- what must hold, and the refusal if it does not
pub record Check : Type 1 where
  pub refusal : Refusal
  pub holds : Type 0

infix 68 ◌unless◌
abbrev pub ◌unless◌ : Refusal → Type 0 → Check
x unless P = record { refusal = x; holds = P }

-- all of them hold
abbrev pub AllHold : List Check → Type 0
AllHold [] = Unit {0}
AllHold (c ∷ cs) = c.holds × AllHold cs

-- x is the refusal of the first that does not hold
abbrev pub FirstNo : List Check → Refusal → Type 0
FirstNo [] x = ⊥
FirstNo (c ∷ cs) x = ((c.holds → ⊥) × (x ≡ c.refusal)) ⊎ (c.holds × FirstNo cs x)

-- Where a call is made: how many drives there are, their capacities, what is configured, and the drives' broken marks
-- before and after the call.
pub record Scene : Type 0 where
  pub count : ℕ
  pub capacity : ℕ → ℕ
  pub configuration : Configuration
  pub before : ℕ → Bool
  pub after : ℕ → Bool

-- the scene of a call that finds the drives m and leaves the drives n
abbrev pub scene : List Drive → List Drive → Configuration → Scene
scene m n c = record { count = length m; capacity = λ d. size m d; configuration = c; before = λ d. (at m d).broken; after = λ d. (at n d).broken }

-- P of each extent, of each run, of a list
abbrev pub EachExtent : List ExtentRow → (ExtentRow → Type 0) → Type 0
EachExtent es P = (i : ℕ) → i < length es → P (extent es i)

abbrev pub EachRun : List Run → (Run → Type 0) → Type 0
EachRun rs P = (i : ℕ) → i < length rs → P (run rs i)

-- making a group ------------------------------------------------------------------------------------------------------

-- members, depth and rows are right for the method, and every extent has as many blocks as there are rows
pub record GroupFields (k : MethodKind) (depth : ℕ) (es : List ExtentRow) : Type 0 where
  pub fits : Fits (method k) (length es) depth (rows_in es)
  pub equal : EachExtent es (λ e. e.count ≡ rows_in es)

abbrev pub FieldsFor : Option MethodKind → ℕ → List ExtentRow → Type 0
FieldsFor None depth es = ⊥
FieldsFor (Some k) depth es = GroupFields k depth es

abbrev pub OnBus : Scene → ExtentRow → Type 0
OnBus s e = e.drive < s.count

abbrev pub Inside : Scene → ExtentRow → Type 0
Inside s e = e.start + e.count ≤ s.capacity e.drive

abbrev pub Unbroken : Scene → ExtentRow → Type 0
Unbroken s e = s.after e.drive ≡ false

abbrev pub DifferentDrives : List ExtentRow → Type 0
DifferentDrives es = (i j : ℕ) → i < j → j < length es → (extent es i).drive ≢ (extent es j).drive

-- a broken drive stays broken: unbroken throughout is unbroken at the end
abbrev pub group_checks : Scene → ℕ → ℕ → ℕ → List ExtentRow → List Check
group_checks s g code k es =
    Field unless (FieldsFor (method_of code) k es)
    ∷ NoDrive unless (EachExtent es (OnBus s))
    ∷ NotConfigured unless (Free s.configuration.groups g)
    ∷ Outside unless (EachExtent es (Inside s))
    ∷ Conflict unless (EachExtent es (Unassigned s.configuration) × DifferentDrives es)
    ∷ Broken unless (EachExtent es (Unbroken s))
    ∷ []

-- asking for a group
abbrev pub group_number_checks : Configuration → ℕ → List Check
group_number_checks c g = NotConfigured unless (Configured c.groups g) ∷ []

-- deleting a group: no run lies in it
abbrev pub delete_group_checks : Configuration → ℕ → List Check
delete_group_checks c g =
    NotConfigured unless (Configured c.groups g)
    ∷ Conflict unless ((v j : ℕ) → HasRun c v j → (run (volume_at c v).runs j).group ≢ g)
    ∷ []

-- volume sets ---------------------------------------------------------------------------------------------------------

abbrev pub RunsSeparate : List Run → Type 0
RunsSeparate rs = (i j : ℕ) → i < j → j < length rs → RunsOverlap (run rs i) (run rs j) → ⊥

abbrev pub volume_checks : Configuration → ℕ → List Run → List Check
volume_checks c v rs =
    Field unless ((1 ≤ length rs) × (length rs ≤ 4) × EachRun rs (λ r. 1 ≤ r.count))
    ∷ NotConfigured unless (EachRun rs (λ r. Configured c.groups r.group) × Free c.volumes v)
    ∷ Outside unless (EachRun rs (λ r. r.first + r.count ≤ size_of (group_at c r.group)))
    ∷ Conflict unless (EachRun rs (UnassignedRun c) × RunsSeparate rs)
    ∷ []

abbrev pub delete_volume_checks : Configuration → ℕ → List Check
delete_volume_checks c v = NotConfigured unless (Configured c.volumes v) ∷ []

-- one volume set is named, or all are meant
abbrev pub control_checks : Configuration → Option ℕ → List Check
control_checks c None = []
control_checks c (Some v) = NotConfigured unless (Configured c.volumes v) ∷ []

abbrev pub size_checks : Configuration → ℕ → List Check
size_checks c v = NotConfigured unless (Configured c.volumes v) ∷ []

abbrev pub map_checks : Configuration → ℕ → ℕ → List Check
map_checks c v b =
    NotConfigured unless (Configured c.volumes v)
    ∷ Outside unless (b < blocks_of c v)
    ∷ []

-- blocks of a volume set ------------------------------------------------------------------------------------------------

-- before its block is looked for: block b of volume set v, with a buffer of len bytes
abbrev pub block_checks : Configuration → ℕ → ℕ → ℕ → List Check
block_checks c v b len =
    NotConfigured unless (Configured c.volumes v)
    ∷ ShortBuffer unless (512 ≤ len)
    ∷ Outside unless (b < blocks_of c v)
    ∷ []

-- a read is refused exactly when its block is lost when the call ends
abbrev pub read_checks : Scene → ℕ → ℕ → ℕ → List Check
read_checks s v b len =
    NotConfigured unless (Configured s.configuration.volumes v)
    ∷ ShortBuffer unless (512 ≤ len)
    ∷ Outside unless (b < blocks_of s.configuration v)
    ∷ LostReading unless (LostAt s.after s.configuration v b → ⊥)
    ∷ []

-- a write is refused when its row was lost when the call began, and else exactly when its block is lost when the call ends
abbrev pub write_checks : Scene → ℕ → ℕ → ℕ → List Check
write_checks s v b len =
    NotConfigured unless (Configured s.configuration.volumes v)
    ∷ ShortBuffer unless (512 ≤ len)
    ∷ Outside unless (b < blocks_of s.configuration v)
    ∷ WritesDisabled unless ((volume_at s.configuration v).writes ≡ true)
    ∷ LostWriting unless ((LostRowAt s.before s.configuration v b → ⊥) × (LostAt s.after s.configuration v b → ⊥))
    ∷ []
