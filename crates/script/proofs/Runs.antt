-- Runs of equal bytes. Assumes nothing.
use Rattle.std.proofs.Common.{◌≡◌, ℕ, zero, suc, ◌+◌, ◌-◌, ◌<◌, ◌≤◌, Bool, true, false, cond, eqb, List, [], ◌∷◌, ◌++◌, map, length, get_or, drop, sym, refl, ap, ◌∙◌, append-nil, one-add, add-one, arith}
use Rattle.std.specs.List.{prefix_len, IsChunkByPrefix}
use Rattle.std.proofs.Math.Seq.{drop-append_seam}
use Rattle.std.proofs.lemmas.List.Sums.{prefix_len_is}
use Rattle.std.proofs.lemmas.List.{nil_from_length, get_or_append_left, length-append}
use Rattle.std.proofs.lemmas.Bool.{eqb-true, eqb-false, ne_eqb, eq-eqb}
use Rattle.script.specs.Showing.{before, runs, shown_run, spaced, shown_runs}

drop_cons : (n x : ℕ) (xs : List ℕ) → drop (1 + n) (x ∷ xs) ≡ drop n xs
drop_cons n x xs = rw one-add refl

abbrev pub same : ℕ → List ℕ → ℕ
same b bs = prefix_len ((λ c. eqb c b)) bs

pub runs_cons : (b : ℕ) (bs : List ℕ) → runs (b ∷ bs) ≡ (1 + same b bs, b) ∷ runs (drop (same b bs) bs)
runs_cons b [] = refl
runs_cons b (c ∷ cs) = ap (before b) (runs_cons c cs) ∙ by (eqb c b) refl (runs_cons c cs)
  where
    by : (t : Bool) → eqb c b ≡ t → runs (c ∷ cs) ≡ (1 + same c cs, c) ∷ runs (drop (same c cs) cs) →
        cond {A = List (ℕ × ℕ)} t ((1 + (1 + same c cs), b) ∷ runs (drop (same c cs) cs)) ((1, b) ∷ (1 + same c cs, c) ∷ runs (drop (same c cs) cs)) ≡
        (1 + cond t (1 + same b cs) 0, b) ∷ runs (drop (cond t (1 + same b cs) 0) (c ∷ cs))
    by true e more = let k = eqb-true c b e in ap (λ x. (1 + (1 + same x cs), b) ∷ runs (drop (same x cs) cs)) k ∙ ap (λ l. (1 + (1 + same b cs), b) ∷ runs l) (sym (drop_cons (same b cs) c cs))
    by false e more = ap (λ rs. (1, b) ∷ rs) (sym more)

-- the first run, and the others
pub first_run : (bs : List ℕ) (n : ℕ) → 0 < length bs → n ≡ same (get_or bs 0 0) bs → (0 < n) × (runs bs ≡ (n, get_or bs 0 0) ∷ runs (drop n bs))
first_run [] n h e = absurd (omega arith)
first_run (b ∷ bs) n h e =
    let long : n ≡ 1 + same b bs = e ∙ ap (λ t. cond t (1 + same b bs) 0) (eq-eqb b b refl) in
    (omega arith, runs_cons b bs ∙ sym (ap (λ k. (k, b) ∷ runs (drop k (b ∷ bs))) long ∙ ap (λ l. (1 + same b bs, b) ∷ runs l) (drop_cons (same b bs) b bs)))

spaced_cons : (w : List ℕ) (rs rest : List (ℕ × ℕ)) (r : ℕ × ℕ) → rs ≡ r ∷ rest → spaced (w ∷ map shown_run rs) ≡ w ++ 32 ∷ spaced (map shown_run rs)
spaced_cons w rs rest r e = ap (λ x. spaced (w ∷ map shown_run x)) e ∙ ap (λ x. w ++ 32 ∷ spaced (map shown_run x)) (sym e)

-- the first run in its printed form, with what follows it
pub shown_last : (bs : List ℕ) (n : ℕ) → 0 < length bs → n ≡ same (get_or bs 0 0) bs → length (drop n bs) ≡ 0 → shown_runs bs ≡ shown_run (n, get_or bs 0 0)
shown_last bs n h e none = ap (λ rs. spaced (map shown_run rs)) ((first_run bs n h e).1 ∙ ap (λ l. (n, get_or bs 0 0) ∷ runs l) (nil_from_length (drop n bs) none))

pub shown_more : (bs : List ℕ) (n : ℕ) → 0 < length bs → n ≡ same (get_or bs 0 0) bs → 0 < length (drop n bs) → shown_runs bs ≡ shown_run (n, get_or bs 0 0) ++ 32 ∷ shown_runs (drop n bs)
shown_more bs n h e some = ap (λ rs. spaced (map shown_run rs)) (first_run bs n h e).1 ∙ spaced_cons (shown_run (n, get_or bs 0 0)) (runs (drop n bs)) _ _ (first_run (drop n bs) _ some refl).1

-- the bytes up to n are alike, and the next is another
module _ (bs : List ℕ) (n : ℕ) (some : 0 < n) (within : n ≤ length bs) (chunk : IsChunkByPrefix eqb bs n) where
  alike : (k : ℕ) → k < n → get_or bs k 0 ≡ get_or bs 0 0
  alike zero h = refl
  alike (suc k) h = sym (eqb-true (get_or bs k 0) (get_or bs (k + 1) 0) (chunk.0 k 0 (omega arith)) ∙ ap (λ i. get_or bs i 0) (add-one k)) ∙ alike k (omega arith)

  pub chunk_is : n ≡ same (get_or bs 0 0) bs
  chunk_is =
      sym (prefix_len_is (λ c. eqb c (get_or bs 0 0)) bs n 0 within (λ k h. eq-eqb (get_or bs k 0) (get_or bs 0 0) (alike k h))
      (λ h. ne_eqb (get_or bs n 0) (get_or bs 0 0) (λ e. eqb-false (get_or bs (n - 1) 0) (get_or bs n 0) (chunk.1 h 0) (alike (n - 1) (omega arith) ∙ sym e))))

-- what is printed of the bytes that are left, with sep in front where there is one
abbrev pub rest_shown : List ℕ → List ℕ → List ℕ
rest_shown sep [] = []
rest_shown sep (b ∷ bs) = sep ++ shown_runs (b ∷ bs)

rest_some : (sep bs : List ℕ) → 0 < length bs → rest_shown sep bs ≡ sep ++ shown_runs bs
rest_some sep [] h = absurd (omega arith)
rest_some sep (b ∷ bs) h = refl

-- the bytes bs are the run x and the rest
module _ (bs x rest : List ℕ) (parts : bs ≡ x ++ rest) (some : 0 < length x) (chunk : IsChunkByPrefix eqb bs (length x)) where
  long : length bs ≡ length x + length rest
  long = ap length parts ∙ length-append x rest

  left : drop (length x) bs ≡ rest
  left = ap (drop (length x)) parts ∙ drop-append_seam x rest

  run : length x ≡ same (get_or bs 0 0) bs
  run = chunk_is bs (length x) some (omega (arith, long)) chunk

  run_shown_by : (r : List ℕ) → drop (length x) bs ≡ r → shown_runs bs ≡ shown_run (length x, get_or bs 0 0) ++ rest_shown (32 ∷ []) r
  run_shown_by [] e = shown_last bs (length x) (omega (arith, long)) run (ap length e) ∙ sym (append-nil (shown_run (length x, get_or bs 0 0)))
  run_shown_by (c ∷ cs) e = shown_more bs (length x) (omega (arith, long)) run (omega (arith, ap length e)) ∙ ap (λ l. shown_run (length x, get_or bs 0 0) ++ 32 ∷ shown_runs l) e

  pub run_shown : (sep : List ℕ) → rest_shown sep bs ≡ sep ++ (shown_run (length x, get_or x 0 0) ++ rest_shown (32 ∷ []) rest)
  run_shown sep =
      let first : get_or bs 0 0 ≡ get_or x 0 0 = ap (λ l. get_or l 0 0) parts ∙ get_or_append_left x rest 0 0 some in
      rest_some sep bs (omega (arith, long)) ∙ ap (λ l. sep ++ l) (run_shown_by rest left ∙ ap (λ b. shown_run (length x, b) ++ rest_shown (32 ∷ []) rest) first)
