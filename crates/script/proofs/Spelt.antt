-- Byte strings, digit by digit. Assumes nothing.
use Rattle.std.specs.Simd.{first_chunks}
use Rattle.std.specs.List.{list_all}
use Rattle.std.proofs.Math.Bool.{and-false}
use Rattle.std.proofs.Common.{suc, zero, is_some, map, ◌&&◌, eqb, subst, ◌≡◌, ℕ, ◌+◌, ◌/◌, ◌%◌, ◌<◌, Bool, true, false, cond, List, [], ◌∷◌, length, get_or, replicate, Some, None, Err, Option, sym, refl, ap, ◌∙◌, arith}
use Rattle.std.specs.Char.{is_ascii_hexdigit}
use Rattle.script.specs.declared.bytes.BytesFault.{BytesFault}
use Rattle.script.specs.declared.bytes.BytesFault.TheVariants.{TooLong}
use Rattle.script.specs.Numerals.{and_then, numeral}
use Rattle.script.specs.Spelling.{pair, one_byte, paired, plain, run, Added}

-- the bytes of pairs of digits

abbrev pub pair_of : List ℕ → ℕ
pair_of p = pair (get_or p 0 0) (get_or p 1 0)

pub paired_chunks : (n : ℕ) (l : List ℕ) → length l / 2 ≡ n → map pair_of (first_chunks 2 n l) ≡ paired l
paired_chunks n [] e = let z : n ≡ 0 = omega arith in ap (λ k. map pair_of (first_chunks 2 k [])) z
paired_chunks n (c ∷ []) e = let z : n ≡ 0 = omega arith in ap (λ k. map pair_of (first_chunks 2 k (c ∷ []))) z
paired_chunks zero (c ∷ d ∷ l) e = absurd (omega arith)
paired_chunks (suc n) (c ∷ d ∷ l) e = ap (λ bs. pair c d ∷ bs) (paired_chunks n l (omega arith))

pub length_paired : (l : List ℕ) → length (paired l) ≡ length l / 2
length_paired [] = refl
length_paired (c ∷ []) = refl
length_paired (c ∷ d ∷ l) = omega (arith, length_paired l)

-- a word is an even number of digits, or stands for nothing

pub plain_test : (l : List ℕ) → is_some (plain l) ≡ eqb (length l % 2) 0 && list_all is_ascii_hexdigit l
plain_test [] = refl
plain_test (c ∷ []) = refl
plain_test (c ∷ d ∷ l) = by (is_ascii_hexdigit c) (is_ascii_hexdigit d) (plain_test l)
  where
    more : (o : Option (List ℕ)) → is_some (and_then o (λ bs. Some (pair c d ∷ bs))) ≡ is_some o
    more None = refl
    more (Some bs) = refl

    by : (s t : Bool) → is_some (plain l) ≡ eqb (length l % 2) 0 && list_all is_ascii_hexdigit l →
        is_some (cond s (cond t (and_then (plain l) (λ bs. Some (pair c d ∷ bs))) None) None) ≡ eqb (length (c ∷ d ∷ l) % 2) 0 && (s && (t && list_all is_ascii_hexdigit l))
    by true true e = let same : length l % 2 ≡ length (c ∷ d ∷ l) % 2 = omega arith in more (plain l) ∙ e ∙ ap (λ k. eqb k 0 && list_all is_ascii_hexdigit l) same
    by true false e = sym (and-false (eqb (length (c ∷ d ∷ l) % 2) 0))
    by false t e = sym (and-false (eqb (length (c ∷ d ∷ l) % 2) 0))

pub plain_paired : (l : List ℕ) → is_some (plain l) ≡ true → plain l ≡ Some (paired l)
plain_paired [] h = refl
plain_paired (c ∷ []) h = let z : ◌≡◌ {A = ℕ} 0 1 = cc in absurd (omega arith)
plain_paired (c ∷ d ∷ l) h = by (is_ascii_hexdigit c) (is_ascii_hexdigit d) h (plain_paired l)
  where
    by : (s t : Bool) → is_some (cond s (cond t (and_then (plain l) (λ bs. Some (pair c d ∷ bs))) None) None) ≡ true → (is_some (plain l) ≡ true → plain l ≡ Some (paired l)) →
        cond s (cond t (and_then (plain l) (λ bs. Some (pair c d ∷ bs))) None) None ≡ Some (pair c d ∷ paired l)
    by true true h e = on (plain l) h e
      where
        on : (o : Option (List ℕ)) → is_some (and_then o (λ bs. Some (pair c d ∷ bs))) ≡ true → (is_some o ≡ true → o ≡ Some (paired l)) → and_then o (λ bs. Some (pair c d ∷ bs)) ≡ Some (pair c d ∷ paired l)
        on None h e = let z : ◌≡◌ {A = ℕ} 0 1 = cc in absurd (omega arith)
        on (Some bs) h e = ap (λ p. and_then p (λ xs. Some (pair c d ∷ xs))) (e refl)
    by true false h e = let z : ◌≡◌ {A = ℕ} 0 1 = cc in absurd (omega arith)
    by false t h e = let z : ◌≡◌ {A = ℕ} 0 1 = cc in absurd (omega arith)

pub stands_for_none : (o : Option (List ℕ)) → is_some o ≡ false → o ≡ None
stands_for_none None h = refl
stands_for_none (Some bs) h = let z : ◌≡◌ {A = ℕ} 0 1 = cc in absurd (omega arith)

pub run_is : (count value : List ℕ) (n b : ℕ) → Some n ≡ numeral count → Some b ≡ one_byte value → run count value ≡ Some (replicate n b)
run_is count value n b e k = ap (λ o. and_then o (λ m. and_then (one_byte value) (λ v. Some (replicate m v)))) (sym e) ∙ ap (λ o. and_then o (λ v. Some (replicate n v))) (sym k)

-- a word that there was no room for
module _ (o : Option (List ℕ)) (bs : List ℕ) (limit : ℕ) (was is : List ℕ) (more len : ℕ) (fault : BytesFault) (means : o ≡ Some bs) (long : length bs ≡ more) (had : len ≡ length was) (same : is ≡ was) where
  pub too_long : (fault ≡ TooLong) × (limit < len + more) → Added o limit was is (Err fault)
  too_long h = subst (λ f. Added o limit was is (Err f)) (sym h.0) (bs, means, omega arith, same)
