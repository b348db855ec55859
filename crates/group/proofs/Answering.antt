-- What a call answered, from what `map_err` made of it.
use Rattle.std.proofs.Common.{◌≡◌, ℕ, Ok, Err, Result, refl, ap, subst, arith}
use Rattle.std.specs.Result.{MatchResult, IsErrAnd}

module _ {T E D : Type 0} where
  pub was_ok : (x : Result T E) (r : Result T D) (P : E → D → Type 0) → MatchResult x (λ v. r ≡ Ok v) (λ e. IsErrAnd r (P e)) → (u : T) → r ≡ Ok u → x ≡ Ok u
  was_ok (Ok v) (Ok w) P h u e = cc
  was_ok (Ok v) (Err d) P h u e = cc
  was_ok (Err f) (Ok w) P h u e = absurd h
  was_ok (Err f) (Err d) P h u e = let clash : ◌≡◌ {A = ℕ} 0 1 = cc in absurd (omega arith)

  pub was_err : (x : Result T E) (r : Result T D) (P : E → D → Type 0) → MatchResult x (λ v. r ≡ Ok v) (λ e. IsErrAnd r (P e)) → (d : D) → r ≡ Err d → (e : E) × (x ≡ Err e) × P e d
  was_err (Ok v) r P h d e = let clash : ◌≡◌ {A = ℕ} 0 1 = cc in absurd (omega arith)
  was_err (Err f) r P h d e = (f, refl, subst (λ (z : Result T D). IsErrAnd z (P f)) e h)

  -- the same answer, with the error made another
  abbrev pub mapped : (E → D) → Result T E → Result T D
  mapped f (Ok v) = Ok v
  mapped f (Err e) = Err (f e)

  pub is_mapped : (f : E → D) (x : Result T E) (r : Result T D) (P : E → D → Type 0) → ((e : E) (d : D) → P e d → d ≡ f e) → MatchResult x (λ v. r ≡ Ok v) (λ e. IsErrAnd r (P e)) → r ≡ mapped f x
  is_mapped f (Ok v) r P told h = h
  is_mapped f (Err e) (Ok w) P told h = absurd h
  is_mapped f (Err e) (Err d) P told h = ap Err (told e d h)
