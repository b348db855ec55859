-- The worked figures, said with the definitions. Assumes nothing.
use Rattle.std.specs.Prelude.{◌≡◌, ℕ, ◌-◌, ◌*◌, ◌≤◌, [], ◌∷◌, map, Ok, Err, Result}
use Rattle.layout.specs.declared.geometry.Geometry.{Geometry}
use Rattle.layout.specs.declared.refusal.Refusal.{Refusal}
use Rattle.layout.specs.contracts.unprotected.UnprotectedMethod.TheImpl as none
use Rattle.layout.specs.contracts.mirror.MirrorMethod.TheImpl as copy
use Rattle.layout.specs.contracts.parity.ParityMethod.TheImpl as xor
use Rattle.layout.specs.Refusals.{number_of, AnsweredBoth}
use Rattle.layout.specs.Places.{Fits, protected, home_of, row_of}

-- what the creation check may answer for XOR with three members at depth 2 and l rows
abbrev pub Answers : ℕ → Result Geometry Refusal → Type 0
Answers l = AnsweredBoth (Fits xor.ghosts 3 2 l) (l ≤ 65536) (λ g. (g.members ≡ 3) × (g.depth ≡ 2) × (g.rows ≡ l))

abbrev pub Accepted : Result Geometry Refusal → Type 0
Accepted (Ok g) = Unit {0}
Accepted (Err e) = ⊥

abbrev pub RefusedBy : ℕ → Result Geometry Refusal → Type 0
RefusedBy n (Ok g) = ⊥
RefusedBy n (Err e) = number_of e ≡ n

-- in the XOR group with three members, depth 2 and rows 0 to 11
pub record ExampleGroup : Type 0 where
  pub homes : map (home_of xor.ghosts 3 2) (0 ∷ 2 ∷ 4 ∷ 8 ∷ 12 ∷ 23 ∷ []) ≡ (1 ∷ 2 ∷ 0 ∷ 0 ∷ 1 ∷ 1 ∷ [])
  pub rows : map (row_of xor.ghosts 3 2) (0 ∷ 2 ∷ 4 ∷ 8 ∷ 12 ∷ 23 ∷ []) ≡ (0 ∷ 0 ∷ 2 ∷ 4 ∷ 6 ∷ 11 ∷ [])
  pub blocks : protected xor.ghosts 3 12 ≡ 24
  pub six : (r : Result Geometry Refusal) → Answers 6 r → Accepted r
  pub ten : (r : Result Geometry Refusal) → Answers 10 r → RefusedBy 3 r

-- how many protected blocks there are, and the places of copy in plain words
pub record PlainRules : Type 0 where
  pub none_blocks : (n l : ℕ) → protected none.ghosts n l ≡ n * l
  pub copy_blocks : (n l : ℕ) → protected copy.ghosts n l ≡ l
  pub xor_blocks : (n l : ℕ) → protected xor.ghosts n l ≡ (n - 1) * l
  pub copy_home : (n k q : ℕ) → home_of copy.ghosts n k q ≡ 0
  pub copy_row : (n k q : ℕ) → row_of copy.ghosts n k q ≡ q

-- all of them
abbrev pub Figures : Type 0
Figures = ExampleGroup × PlainRules
