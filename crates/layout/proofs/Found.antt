-- The members that are marked, by the words of the library. Assumes nothing.
use Rattle.std.proofs.Common.{◌≡◌, ℕ, ◌+◌, ◌<◌, Bool, true, false, cond, not, List, ◌∷◌, length, Option, Some, None, SomeIff, nat_lt, count_by, refl, sym, ◌∙◌, subst, arith}
use Rattle.std.specs.Prelude.{position}
use Rattle.std.specs.List.{position_or_len}
use Rattle.std.proofs.lemmas.Bool.{cond_both, ltb-true, ltb-false}
use Rattle.std.proofs.lemmas.List.Recursion.{is_count_by, is_position_or_len}
use Rattle.layout.specs.Blocks.{missing_count, first_missing, first_present}

one_more : (b : Bool) (o : List Bool) → missing_count (b ∷ o) ≡ cond b (1 + missing_count o) (missing_count o)
one_more true o = omega arith
one_more false o = refl

pub counted : (o : List Bool) (r : ℕ) → r ≡ count_by (λ gone. gone) o → r ≡ missing_count o
counted o r e = e ∙ sym (is_count_by missing_count (λ gone. gone) refl one_more o)

missing_next : (b : Bool) (o : List Bool) → first_missing (b ∷ o) ≡ cond b 0 (1 + first_missing o)
missing_next true o = refl
missing_next false o = omega arith

present_next : (b : Bool) (o : List Bool) → first_present (b ∷ o) ≡ cond (not b) 0 (1 + first_present o)
present_next true o = omega arith
present_next false o = refl

-- what a search by position answers
found : (p : Bool → Bool) (o : List Bool) (k : ℕ) → k ≡ position_or_len p o → (r : Option ℕ) → r ≡ position p o → SomeIff r (k < length o) k
found p o k f r e =
    let at : ℕ → Type 0 = λ i. SomeIff r (i < length o) i in
    let here = position_or_len p o in
    subst at (sym f)
    (subst (λ q. SomeIff q (here < length o) here) (sym e)
    (cond_both (nat_lt here (length o)) (Some here) None (λ q. SomeIff q (here < length o) here)
    (λ t. (ltb-true here (length o) t, refl)) (λ t h. omega (arith, ltb-false here (length o) t))))

pub missing_found : (o : List Bool) (r : Option ℕ) → r ≡ position (λ gone. gone) o → SomeIff r (first_missing o < length o) (first_missing o)
missing_found o = found (λ gone. gone) o (first_missing o) (is_position_or_len first_missing (λ gone. gone) refl missing_next o)

pub present_found : (o : List Bool) (r : Option ℕ) → r ≡ position not o → SomeIff r (first_present o < length o) (first_present o)
present_found o = found not o (first_present o) (is_position_or_len first_present not refl present_next o)
