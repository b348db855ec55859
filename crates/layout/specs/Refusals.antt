-- The numbers of the refusals, and the answer of a call that can refuse. Assumes nothing.
use Rattle.std.specs.Prelude.{◌≡◌, ℕ, Ok, Err, Result}
use Rattle.layout.specs.declared.refusal.Refusal.{Refusal}
use Rattle.layout.specs.declared.refusal.Refusal.TheVariants.{OutOfRule, Outside}

-- the number of the check that failed
abbrev pub number_of : Refusal → ℕ
number_of OutOfRule = 3
number_of Outside = 7

-- accepted exactly where P, with a value of which Q; else refused by x
abbrev pub Answered : {V : Type 0} → Type 0 → (V → Type 0) → Refusal → Result V Refusal → Type 0
Answered P Q x (Ok v) = P × Q v
Answered P Q x (Err e) = (P → ⊥) × (e ≡ x)

-- two checks in turn: accepted exactly where P and Q, with a value of which R; else refused by the first that does not hold
abbrev pub AnsweredBoth : {V : Type 0} → Type 0 → Type 0 → (V → Type 0) → Result V Refusal → Type 0
AnsweredBoth P Q R (Ok v) = P × Q × R v
AnsweredBoth P Q R (Err OutOfRule) = P → ⊥
AnsweredBoth P Q R (Err Outside) = P × (Q → ⊥)
