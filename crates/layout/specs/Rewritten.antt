-- What a method's law gives of a row that is written. Assumes nothing.
use Rattle.std.specs.Prelude.{◌≡◌, ℕ, ◌<◌, ◌≤◌, Bool, Ok, Err, Result, ◌≢◌, List, [], length, slice_index_or, slice_set}
use Rattle.std.proofs.Common.{sym, ap, subst, ◌∙◌, ⊎_elim, arith, length-set, get_or-set_same, get_or-set_other}
use Rattle.std.proofs.lemmas.Bool.{cases_eq}
use Rattle.layout.specs.Blocks.{Whole, Blocks, AgreeBut}
use Rattle.layout.specs.declared.method.Method.{Ghosts}
use Rattle.layout.specs.declared.row.RowError.{RowError}
use Rattle.layout.specs.Methods.{Sound}
use Rattle.layout.specs.Rows.{Recoverable, WholeRow, EncodesRow, ReplacesUser}

pub set_blocks : (k : ℕ) (us : List (List ℕ)) (p : ℕ) (b : List ℕ) → Blocks k us → Whole b → Blocks k (slice_set us p b)
set_blocks k us p b u w = record {
  many = length-set us p b ∙ u.many;
  whole = λ q h. ⊎_elim (λ (e : q ≡ p). subst Whole (sym (ap (λ (i : ℕ). slice_index_or (slice_set us p b) i []) e ∙ get_or-set_same us p b [] (omega (arith, u.many)))) w)
      (λ (ne : q ≡ p → ⊥). subst Whole (sym (get_or-set_other us p q b [] ne)) (u.whole q h)) (cases_eq q p);
}

module _ {least : ℕ} {width cycle : ℕ → ℕ} {home : ℕ → ℕ → ℕ → ℕ} {check : ℕ → ℕ → ℕ → Bool}
    {row : ℕ → ℕ → List (List ℕ) → List (List ℕ)} {tolerance : ℕ → ℕ} (s : Sound least width cycle home check row tolerance)
    (n t : ℕ) (few : least ≤ n) (many : n ≤ 8) where
  one : 1 ≤ n
  one = omega (arith, s.least_some)

  -- with the user block p written at its home, a row agrees with the new one but at the check members
  pub written : (us bs : List (List ℕ)) (p : ℕ) (b : List ℕ) → Blocks (width n) us → p < width n → Whole b →
      bs ≡ row n t us → AgreeBut (check n t) (slice_set bs (home n t p) b) (row n t (slice_set us p b))
  written us bs p b u h w e m lt free =
      let h0 = home n t p in
      let new : Blocks (width n) (slice_set us p b) = set_blocks (width n) us p b u w in
      let long : length bs ≡ n = ap length e ∙ (s.whole n t us few many u).many in
      let ms : m < n = omega (arith, length-set bs h0 b) in
      let c = s.covered n t m one many ms free in
      ⊎_elim
      (λ (q : m ≡ h0).
      ap (λ (i : ℕ). slice_index_or (slice_set bs h0 b) i []) q ∙ get_or-set_same bs h0 b [] (omega (arith, s.inside n t p one many h))
      ∙ sym (ap (λ (i : ℕ). slice_index_or (row n t (slice_set us p b)) i []) q ∙ s.placed n t (slice_set us p b) p few many new h ∙ get_or-set_same us p b [] (omega (arith, u.many))))
      (λ (ne : m ≡ h0 → ⊥).
      let far : c.0 ≢ p = λ k. ne (sym c.2 ∙ ap (home n t) k) in
      get_or-set_other bs h0 m b [] ne ∙ ap (λ (l : List (List ℕ)). slice_index_or l m []) e ∙ ap (λ (i : ℕ). slice_index_or (row n t us) i []) (sym c.2)
      ∙ s.placed n t us c.0 few many u c.1 ∙ sym (get_or-set_other us p c.0 b [] far)
      ∙ sym (s.placed n t (slice_set us p b) c.0 few many new c.1) ∙ ap (λ (i : ℕ). slice_index_or (row n t (slice_set us p b)) i []) c.2)
      (cases_eq m h0)

  -- what `encode` ensures, at the row's length under another name
  pub carried : (x bs : List (List ℕ)) (k : ℕ) → k ≡ n →
      ((us : List (List ℕ)) → Blocks (width k) us → AgreeBut (check k t) bs (row k t us) → x ≡ row k t us) →
      (us : List (List ℕ)) → Blocks (width n) us → AgreeBut (check n t) bs (row n t us) → x ≡ row n t us
  carried x bs k e told = subst (λ (j : ℕ). (us : List (List ℕ)) → Blocks (width j) us → AgreeBut (check j t) bs (row j t us) → x ≡ row j t us) e told

-- what `replace_user` leaves: bs is the recovered row, h the home, r the answer of `encode_row`
pub replaced : {X : Type 0} (m : Ghosts X) (s : Sound m.LEAST m.width m.cycle m.home m.check m.row m.tolerance)
    (t : ℕ) (missing : List Bool) (p : ℕ) (new : List ℕ) (was bs is : List (List ℕ)) (h : ℕ) (r : Result (Unit {0}) RowError) →
    Recoverable m missing was → p < m.width (length was) → Whole new → WholeRow m t missing was bs → length bs ≡ length was →
    h ≡ m.home (length was) t p → EncodesRow m t (slice_set bs h new) is r → ReplacesUser m t missing p new was is r
replaced m s t missing p new was bs is h (Ok u) enough lt w rec long at enc =
    let n = length was in (
      enough,
      lt,
      λ us u agree.
          carried s n t enough.least_members enough.most_members is (slice_set bs h new) (length (slice_set bs h new)) (length-set bs h new ∙ long)
          enc.1 (slice_set us p new) (set_blocks (m.width n) us p new u w)
          (subst (λ (i : ℕ). AgreeBut (m.check n t) (slice_set bs i new) (m.row n t (slice_set us p new))) (sym at)
          (written s n t enough.least_members enough.most_members us bs p new u lt w (rec us u agree))),
    )
replaced m s t missing p new was bs is h (Err e) enough lt w rec long at enc =
    let same : length (slice_set bs h new) ≡ length was = length-set bs h new ∙ long in
    absurd (enc.0 (record { least_members = omega (arith, enough.least_members); most_members = omega (arith, enough.most_members) }))
