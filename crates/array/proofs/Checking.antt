-- Checks that are asked one after the other.
use Rattle.std.proofs.Common.{◌≡◌, ℕ, Bool, true, false, List, [], ◌∷◌, Ok, Err, None, Result, MatchResult, sym, refl, ◌∙◌, subst, ⊎_elim}
use Rattle.std.specs.Result.{IsErrAnd}
use Rattle.bus.specs.Drives.{Drive}
use Rattle.layout.specs.declared.extent.ExtentRow.{ExtentRow}
use Rattle.array.specs.declared.refusal.Refusal.{Refusal}
use Rattle.array.specs.declared.refusal.Refused.{Refused}
use Rattle.array.specs.declared.slot.GroupSlot.{GroupSlot}
use Rattle.array.specs.Configuration.{Configuration}
use Rattle.array.specs.Checks.{Check, AllHold, FirstNo, ◌unless◌, scene, group_checks}
use Rattle.array.specs.Calls.{Asked}
use Rattle.array.specs.Planning.{Plans}
use Rattle.array.specs.Refusals.{of_drives, plain}

-- what one check alone refuses does not hold
pub not_held : (P : Type 0) (x y : Refusal) → FirstNo (x unless P ∷ []) y → P → ⊥
not_held P x y first p = ⊎_elim (λ e. e.0 p) (λ e. e.1) first

-- the answer r is that of a check which refuses by x
module _ (x : Refusal) (y : Refused) (is : y ≡ plain x) where
  pub refused : {V : Type 0} (cs : List Check) (Q : V → Type 0) (r : Result V Refused) → IsErrAnd r (λ z. z ≡ y) → FirstNo cs x → Asked cs Q r
  refused cs Q (Ok v) e first = absurd e
  refused cs Q (Err z) e first = subst (λ (w : Refused). FirstNo cs w.refusal × (w.fault ≡ None)) (sym (e ∙ is)) (first, refl)

  pub unplanned : (m : List Drive) (c : Configuration) (g code k : ℕ) (es : List ExtentRow) (r : Result GroupSlot Refused) → IsErrAnd r (λ z. z ≡ y) → of_drives x ≡ false → ((n : List Drive) → FirstNo (group_checks (scene m n c) g code k es) x) → Plans m c g code k es r
  unplanned m c g code k es (Ok s) e alone first = absurd e
  unplanned m c g code k es (Err z) e alone first = subst (λ (w : Refused). Plans m c g code k es (Err w)) (sym (e ∙ is)) (first, sym alone, refl)

-- the last check, whose answer is the call's
pub asked_last : {V : Type 0} (cs : List Check) (Q : V → Type 0) (b : Bool) (x : Refusal) (r : Result V Refused) → MatchResult r (λ u. b ≡ true) (λ y. (b ≡ false) × (y ≡ plain x)) → (b ≡ true → AllHold cs) → (b ≡ false → FirstNo cs x) → ((v : V) → Q v) → Asked cs Q r
asked_last cs Q b x (Ok v) e holds first q = (holds e, q v)
asked_last cs Q b x (Err y) e holds first q = subst (λ (w : Refused). FirstNo cs w.refusal × (w.fault ≡ None)) (sym e.1) (first e.0, refl)
