-- A row with one block of exclusive or: the others give each block. Assumes nothing.
use Rattle.std.specs.Prelude.{◌≡◌, ℕ, suc, ◌+◌, ◌-◌, ◌%◌, ◌<◌, ◌≤◌, Bool, false, ◌≢◌, List, [], ◌∷◌, length, get_or, set, replicate, nat_eq, nat_lt, slice_index_or, slice_set, refl}
use Rattle.std.proofs.Common.{sym, ap, ◌∙◌, subst, ⊎_elim, not-suc-le-zero, mod-lt, arith, lit≤}
use Rattle.std.proofs.Math.Nat.{add-mod_right}
use Rattle.std.proofs.lemmas.List.{set-get_or, set_past, set-set, get_or-set_same}
use Rattle.std.proofs.lemmas.Bool.{cases_lt, cond_below, cond_above, cond_both, eqb-false, eqb-true, ne_eqb, ltb-true, ltb-false}
use Rattle.layout.specs.Blocks.{xor, xor_all, missing_count, first_missing, Whole, Blocks, Agree}
use Rattle.layout.specs.Methods.{Sound, xor_width, xor_cycle, xor_home, xor_check, xor_row, xor_tolerance, past}
use Rattle.layout.specs.PutIn.{length_insert, insert_below, insert_above, insert_at, insert_each, set_agree}
use Rattle.layout.specs.Rewritten.{set_blocks}
use Rattle.layout.specs.Marks.{one_missing, one_marked}
use Rattle.layout.specs.XorBytes.{nil_r, comm, assoc, same, zeros, xor_whole, all_insert, all_set}

pub all_whole : (us : List (List ℕ)) → 0 < length us → ((p : ℕ) → p < length us → Whole (slice_index_or us p [])) → Whole (xor_all us)
all_whole [] h w = absurd (not-suc-le-zero h)
all_whole (u ∷ []) h w = subst Whole (sym (nil_r u)) (w 0 (omega arith))
all_whole (u ∷ v ∷ vs) h w =
    xor_whole u (xor_all (v ∷ vs)) (w 0 (omega arith)) (all_whole (v ∷ vs) (omega arith) (λ p q. w (suc p) (omega arith)))

-- a block of a row that comes to zero is the exclusive or of the others
absent : (row : List (List ℕ)) (m : ℕ) → length (slice_index_or row m []) ≡ 512 → xor_all row ≡ replicate 512 0 → xor (replicate 512 0) (xor_all (slice_set row m [])) ≡ slice_index_or row m []
absent row m w z =
    let y = get_or row m [] in
    let x = xor_all (slice_set row m []) in
    ap (λ (l : List ℕ). xor l x) (sym (same y ∙ ap (λ (k : ℕ). replicate k 0) w)) ∙ assoc y y x ∙ ap (xor y) (all_set m row ∙ z)
    ∙ comm y (replicate 512 0) ∙ zeros 512 y (omega arith)

module _ (n t : ℕ) (us : List (List ℕ)) (few : 3 ≤ n) (u : Blocks (n - 1) us) where
  check_whole : Whole (xor_all us)
  check_whole = all_whole us (omega (arith, u.many)) (λ p h. u.whole p (omega (arith, u.many)))

  pub xor_wide : Blocks n (xor_row n t us)
  xor_wide = record {
    many = length_insert (t % n) (xor_all us) us ∙ omega (arith, u.many);
    whole = λ m h. insert_each Whole (t % n) (xor_all us) us [] check_whole
        (λ p k. u.whole p (omega (arith, u.many))) m (omega (arith, u.many));
  }

  xor_zero : xor_all (xor_row n t us) ≡ replicate 512 0
  xor_zero = all_insert (t % n) (xor_all us) us ∙ same (xor_all us) ∙ ap (λ (k : ℕ). replicate k 0) check_whole.long

  -- what `recover` leaves
  pub xor_fixed : (missing : List Bool) (bs : List (List ℕ)) → length bs ≡ n → length missing ≡ n → missing_count missing ≤ 1 → Agree missing bs (xor_row n t us) →
      slice_set bs (first_missing missing) (xor (replicate 512 0) (xor_all (slice_set bs (first_missing missing) []))) ≡ xor_row n t us
  xor_fixed missing bs eb eo one agree =
      let m = first_missing missing in
      let row = xor_row n t us in
      let er : length row ≡ n = xor_wide.many in
      let near : (v : List ℕ) → slice_set bs m v ≡ set row m v =
      λ v. set_agree bs row m v [] (omega arith) (λ k h ne. agree k h (one_missing missing one k (omega arith) ne)) in
      near _ ∙ ap (λ (l : List (List ℕ)). set row m (xor (replicate 512 0) (xor_all l))) (near [])
      ∙ ⊎_elim (λ (h : m < length row). ap (set row m) (absent row m (xor_wide.whole m (omega arith)).long xor_zero) ∙ set-get_or row m [])
      (λ (h : length row ≤ m). set_past row m _ h) (cases_lt m (length row))

  pub xor_placed : (p : ℕ) → p < n - 1 → slice_index_or (xor_row n t us) (xor_home n t p) [] ≡ slice_index_or us p []
  xor_placed p h =
      let at : ℕ → List ℕ = λ i. get_or (xor_row n t us) i [] in
      ⊎_elim (λ (k : p < t % n). ap at (sym (cond_below p (t % n) p (p + 1) k)) ∙ insert_below (t % n) (xor_all us) us p [] k (omega (arith, u.many)))
      (λ (k : t % n ≤ p). ap at (sym (cond_above p (t % n) p (p + 1) (p + 1) k refl)) ∙ insert_above (t % n) (xor_all us) us p [] k) (cases_lt p (t % n))

-- the check block after one user block has changed
pub xor_update : (n t : ℕ) (us : List (List ℕ)) → 3 ≤ n → Blocks (n - 1) us → (p : ℕ) (old new was : List ℕ) → p < n - 1 → slice_index_or us p [] ≡ old →
    Whole old → Whole new → slice_index_or (xor_row n t us) (t % n) [] ≡ was → xor (xor was old) new ≡ slice_index_or (xor_row n t (slice_set us p new)) (t % n) []
xor_update n t us few u p old new was h e wo wn f =
    let us' = set us p new in
    let u' : Blocks (n - 1) us' = set_blocks (n - 1) us p new u wn in
    let x = xor_all (slice_set us p []) in
    let lt : t % n < n = mod-lt t (omega arith) in
    let before : was ≡ xor old x =
    sym f ∙ insert_at (t % n) (xor_all us) us [] (omega (arith, u.many)) ∙ sym (all_set p us) ∙ ap (λ (b : List ℕ). xor b x) e in
    let after : xor_all us' ≡ xor new x =
    sym (all_set p us') ∙ ap (λ (b : List ℕ). xor b (xor_all (slice_set us' p []))) (get_or-set_same us p new [] (omega (arith, u.many)))
    ∙ ap (λ (l : List (List ℕ)). xor new (xor_all l)) (set-set us p new []) in
    ap (λ (b : List ℕ). xor (xor b old) new) before ∙ ap (λ (b : List ℕ). xor b new) (comm (xor old x) old ∙ sym (assoc old old x) ∙ ap (λ (b : List ℕ). xor b x) (same old ∙ ap (λ (k : ℕ). replicate k 0) wo.long))
    ∙ assoc (replicate 512 0) x new ∙ ap (xor (replicate 512 0)) (comm x new ∙ sym after)
    ∙ zeros 512 (xor_all us') (omega (arith, (check_whole n t us' few u').long))
    ∙ sym (insert_at (t % n) (xor_all us') us' [] (omega (arith, u'.many)))

pub past_apart : (c p q : ℕ) → past c p ≡ past c q → p ≡ q
past_apart c p q e =
    ⊎_elim (λ (h : p < c). ⊎_elim (λ (k : q < c). omega (arith, cond_below p c p (p + 1) h, cond_below q c q (q + 1) k))
    (λ (k : c ≤ q). omega (arith, cond_below p c p (p + 1) h, cond_above q c q (q + 1) (q + 1) k refl)) (cases_lt q c))
    (λ (h : c ≤ p). ⊎_elim (λ (k : q < c). omega (arith, cond_above p c p (p + 1) (p + 1) h refl, cond_below q c q (q + 1) k))
    (λ (k : c ≤ q). omega (arith, cond_above p c p (p + 1) (p + 1) h refl, cond_above q c q (q + 1) (q + 1) k refl)) (cases_lt q c)) (cases_lt p c)

pub past_free : (c p : ℕ) → past c p ≢ c
past_free c p =
    cond_both (nat_lt p c) p (p + 1) (λ (i : ℕ). i ≢ c) (λ e q. omega (arith, ltb-true p c e)) (λ e q. omega (arith, ltb-false p c e))

xor_inside : (n t p : ℕ) → p < n - 1 → xor_home n t p < n
xor_inside n t p h = cond_both (nat_lt p (t % n)) p (p + 1) (λ (i : ℕ). i < n) (λ e. omega arith) (λ e. omega arith)

xor_covered : (n t m : ℕ) → m < n → xor_check n t m ≡ false → (p : ℕ) × (p < n - 1) × (xor_home n t p ≡ m)
xor_covered n t m h f =
    let ne : m ≢ t % n = eqb-false m (t % n) f in
    let lt : t % n < n = mod-lt t (omega arith) in
    ⊎_elim (λ (k : m < t % n). (m, omega arith, sym (cond_below m (t % n) m (m + 1) k)))
    (λ (k : t % n ≤ m). (m - 1, omega arith, sym (cond_above (m - 1) (t % n) (m - 1) (m - 1 + 1) m (omega arith) (omega arith)))) (cases_lt m (t % n))

pub xor_sound : Sound 3 xor_width xor_cycle xor_home xor_check xor_row xor_tolerance
xor_sound = record {
  least_some = lit≤ tt;
  narrow = λ n few many. omega arith;
  inside = λ n t p few many h. xor_inside n t p h;
  free = λ n t p few many h. ne_eqb (past (t % n) p) (t % n) (past_free (t % n) p);
  apart = λ n t p q few many h k e. past_apart (t % n) p q e;
  covered = λ n t m few many h f. xor_covered n t m h f;
  short = λ n few many. (few, omega arith);
  round = λ n t m few many. ap (nat_eq m) (add-mod_right t n);
  some = λ n few many. omega arith;
  whole = λ n t us few many u. xor_wide n t us few u;
  placed = λ n t us p few many u h. xor_placed n t us few u p h;
  few_checks = λ n t marks few many eo told. one_marked marks (t % n) (λ k l e. eqb-true k (t % n) (sym (told k (omega arith)) ∙ e));
  determined = λ n t missing us vs few many u v eo one agree.
      let er : length (xor_row n t us) ≡ n = (xor_wide n t us few u).many in
      sym (xor_fixed n t us few u missing (xor_row n t us) er eo one (λ m h f. refl))
      ∙ xor_fixed n t vs few v missing (xor_row n t us) er eo one agree;
}
