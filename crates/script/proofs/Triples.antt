-- Three numbers with a colon between each two. Assumes nothing.
use Rattle.std.proofs.Common.{◌≡◌, ℕ, ◌+◌, ◌-◌, ◌*◌, Bool, true, false, cond, eqb, List, [], ◌∷◌, ◌++◌, Some, None, Option, unwrap_or, sym, refl, ap, ◌∙◌, arith}
use Rattle.std.specs.Char.{is_ascii_digit}
use Rattle.std.specs.List.{AllByRecursion}
use Rattle.std.proofs.lemmas.Bool.{eqb-true}
use Rattle.script.specs.Laws.{Three}
use Rattle.script.specs.Numerals.{and_then, value_after, fitting, numeral, cut_at, triple}
use Rattle.script.proofs.Back.{cut_front}

same_some : {X : Type 0} (x y : X) → Some x ≡ Some y → x ≡ y
same_some x y e = ap (λ o. unwrap_or o x) e

came_from : {X Y : Type 0} (o : Option X) (f : X → Option Y) (y : Y) → and_then o f ≡ Some y → (x : X) × (o ≡ Some x) × (f x ≡ Some y)
came_from None f y e = let z : ◌≡◌ {A = ℕ} 0 1 = cc in absurd (omega arith)
came_from (Some x) f y e = (x, refl, e)

cut_sound : (at : ℕ) (w a b : List ℕ) → cut_at at w ≡ Some (a, b) → w ≡ a ++ at ∷ b
cut_sound at [] a b e = let z : ◌≡◌ {A = ℕ} 0 1 = cc in absurd (omega arith)
cut_sound at (x ∷ xs) a b e = by (eqb x at) refl e (cut_sound at xs)
  where
    by : (t : Bool) → eqb x at ≡ t → cond {A = Option (List ℕ × List ℕ)} t (Some ([], xs)) (and_then (cut_at at xs) (λ p. Some (x ∷ p.0, p.1))) ≡ Some (a, b) → ((c d : List ℕ) → cut_at at xs ≡ Some (c, d) → xs ≡ c ++ at ∷ d) → x ∷ xs ≡ a ++ at ∷ b
    by true k e more =
        let both : ◌≡◌ {A = List ℕ × List ℕ} ([], xs) (a, b) = same_some _ _ e in
        (λ i. eqb-true x at k i ∷ (both i).1) ∙ ap (λ l. l ++ at ∷ b) (ap (λ (p : List ℕ × List ℕ). p.0) both)
    by false k e more =
        let p = came_from (cut_at at xs) _ (a, b) e in
        let both = same_some _ _ p.2 in
        ap (λ l. x ∷ l) (more p.0.0 p.0.1 p.1) ∙ (λ i. (both i).0 ++ at ∷ (both i).1)

pub triple_sound : (w : List ℕ) (x y z : ℕ) → triple w ≡ Some (x, y, z) → Three w x y z
triple_sound w x y z e =
    let p = came_from (cut_at 58 w) _ (x, y, z) e in
    let q = came_from (cut_at 58 p.0.1) _ (x, y, z) p.2 in
    let u = came_from (numeral p.0.0) _ (x, y, z) q.2 in
    let v = came_from (numeral q.0.0) _ (x, y, z) u.2 in
    let t = came_from (numeral q.0.1) _ (x, y, z) v.2 in
    let all : ◌≡◌ {A = ℕ × ℕ × ℕ} (u.0, v.0, t.0) (x, y, z) = same_some _ _ t.2 in
    record {
      first = p.0.0;
      second = q.0.0;
      third = q.0.1;
      whole = cut_sound 58 w p.0.0 p.0.1 p.1 ∙ ap (λ l. p.0.0 ++ 58 ∷ l) (cut_sound 58 p.0.1 q.0.0 q.0.1 q.1);
      first_is = u.1 ∙ ap (λ (r : ℕ × ℕ × ℕ). Some r.0) all;
      second_is = v.1 ∙ ap (λ (r : ℕ × ℕ × ℕ). Some r.1) all;
      third_is = t.1 ∙ ap (λ (r : ℕ × ℕ × ℕ). Some r.2) all;
    }

no_colon : (k n : ℕ) (ds : List ℕ) → value_after k ds ≡ Some n → AllByRecursion (λ c. c ≡ 58 → ⊥) ds
no_colon k n [] e = tt
no_colon k n (c ∷ ds) e = by (is_ascii_digit c) refl e (no_colon (k * 10 + (c - 48)) n ds)
  where
    by : (b : Bool) → is_ascii_digit c ≡ b → cond b (value_after (k * 10 + (c - 48)) ds) None ≡ Some n → (value_after (k * 10 + (c - 48)) ds ≡ Some n → AllByRecursion (λ x. x ≡ 58 → ⊥) ds) → AllByRecursion (λ x. x ≡ 58 → ⊥) (c ∷ ds)
    by true d e more = (λ colon. let f : false ≡ true = ap is_ascii_digit (sym colon) ∙ d in let z : ◌≡◌ {A = ℕ} 0 1 = cc in omega arith, more e)
    by false d e more = let z : ◌≡◌ {A = ℕ} 0 1 = cc in absurd (omega arith)

numeral_no_colon : (n : ℕ) (w : List ℕ) → numeral w ≡ Some n → AllByRecursion (λ c. c ≡ 58 → ⊥) w
numeral_no_colon n [] e = tt
numeral_no_colon n (c ∷ cs) e = let p = came_from (value_after 0 (c ∷ cs)) fitting n e in no_colon 0 p.0 (c ∷ cs) p.1

pub triple_back : (w : List ℕ) (x y z : ℕ) → Three w x y z → triple w ≡ Some (x, y, z)
triple_back w x y z t =
    let one = cut_front 58 t.first (t.second ++ 58 ∷ t.third) (numeral_no_colon x t.first t.first_is) in
    let two = cut_front 58 t.second t.third (numeral_no_colon y t.second t.second_is) in
    ap triple t.whole ∙ simp (one, two, t.first_is, t.second_is, t.third_is)
