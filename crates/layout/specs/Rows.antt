-- The work on a row in memory, by any method. Assumes nothing.
use Rattle.std.specs.Prelude.{◌≡◌, ℕ, ◌<◌, ◌≤◌, Bool, Ok, Err, Result, List, length, slice_set}
use Rattle.layout.specs.declared.method.Method.{Ghosts}
use Rattle.layout.specs.declared.row.RowError.{RowError}
use Rattle.layout.specs.declared.row.RowError.TheVariants.{Size, Marks, Missing, NoBlock}
use Rattle.layout.specs.Blocks.{missing_count, Blocks, Agree, AgreeBut}
use Rattle.layout.specs.Methods.{Enough}

-- the blocks of a row of as many members as the method may have
pub record RightSize {X : Type 0} (m : Ghosts X) (was : List (List ℕ)) : Type 0 where
  pub least_members : m.LEAST ≤ length was
  pub most_members : length was ≤ 8

-- the members that are not missing are enough
abbrev pub Recoverable : {X : Type 0} → Ghosts X → List Bool → List (List ℕ) → Type 0
Recoverable m missing was = Enough m.LEAST m.tolerance missing was

-- why the blocks `was` are not recovered
abbrev pub Unrecovered : {X : Type 0} → Ghosts X → List Bool → List (List ℕ) → RowError → Type 0
Unrecovered m missing was Size = RightSize m was → ⊥
Unrecovered m missing was Marks = length missing ≡ length was → ⊥
Unrecovered m missing was Missing = m.tolerance (length was) < missing_count missing
Unrecovered m missing was NoBlock = ⊥

-- why user block p is not replaced
abbrev pub Unreplaced : {X : Type 0} → Ghosts X → List Bool → ℕ → List (List ℕ) → RowError → Type 0
Unreplaced m missing p was Size = RightSize m was → ⊥
Unreplaced m missing p was Marks = length missing ≡ length was → ⊥
Unreplaced m missing p was Missing = m.tolerance (length was) < missing_count missing
Unreplaced m missing p was NoBlock = m.width (length was) ≤ p

-- of a row in strip t, whose blocks were `was` and are `is`
module _ {X : Type 0} (m : Ghosts X) (t : ℕ) where
  -- whatever user blocks `was` is the row of, at the members that are not missing, `is` is their row at all
  abbrev pub WholeRow : List Bool → List (List ℕ) → List (List ℕ) → Type 0
  WholeRow missing was is =
      (us : List (List ℕ)) → Blocks (m.width (length was)) us → Agree missing was (m.row (length was) t us) → is ≡ m.row (length was) t us

  -- a row is recovered, or left as it is where that can't be done
  abbrev pub RecoversRow : List Bool → List (List ℕ) → List (List ℕ) → Result (Unit {0}) RowError → Type 0
  RecoversRow missing was is (Ok u) = Recoverable m missing was × WholeRow missing was is
  RecoversRow missing was is (Err e) = (Recoverable m missing was → ⊥) × (is ≡ was) × Unrecovered m missing was e

  -- the check blocks are made from the user blocks
  abbrev pub EncodesRow : List (List ℕ) → List (List ℕ) → Result (Unit {0}) RowError → Type 0
  EncodesRow was is (Ok u) =
      RightSize m was × ((us : List (List ℕ)) → Blocks (m.width (length was)) us → AgreeBut (m.check (length was) t) was (m.row (length was) t us) → is ≡ m.row (length was) t us)
  EncodesRow was is (Err e) = (RightSize m was → ⊥) × (is ≡ was) × (e ≡ Size)

  -- user block p is made new, by the members that are not missing
  abbrev pub ReplacesUser : List Bool → ℕ → List ℕ → List (List ℕ) → List (List ℕ) → Result (Unit {0}) RowError → Type 0
  ReplacesUser missing p new was is (Ok u) =
      Recoverable m missing was × (p < m.width (length was)) ×
      ((us : List (List ℕ)) → Blocks (m.width (length was)) us → Agree missing was (m.row (length was) t us) → is ≡ m.row (length was) t (slice_set us p new))
  ReplacesUser missing p new was is (Err e) =
      (Recoverable m missing was × (p < m.width (length was)) → ⊥) × (is ≡ was) × Unreplaced m missing p was e
