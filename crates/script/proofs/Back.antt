-- What is printed reads back. Assumes nothing.
use Rattle.std.proofs.Common.{◌≡◌, ℕ, ◌+◌, ◌-◌, ◌*◌, ◌/◌, ◌%◌, ◌^◌, ◌<◌, ◌≤◌, Bool, true, false, cond, not, ◌||◌, eqb, List, [], ◌∷◌, ◌++◌, map, length, replicate, Some, None, decimal, sym, refl, ap, ◌∙◌, subst, append_assoc, append-nil, one-add, arith}
use Rattle.std.specs.Char.{is_ascii_digit, is_ascii_hexdigit, digit_char}
use Rattle.std.specs.Int.{IsInRange}
use Rattle.std.specs.List.{flat_map, AllByRecursion}
use Rattle.std.proofs.lemmas.Fmt.{decimal_by_steps}
use Rattle.std.proofs.ByRecursion.{All-append, All-push, All-weaker, All-map}
use Rattle.std.proofs.lemmas.List.{length-append}
use Rattle.std.proofs.lemmas.Bool.{ne_eqb, eq-eqb, le-leb, and_from, cond-true, eqb-true, eqb-false}
use Rattle.std.proofs.lemmas.Bool.Decides.{nat_tests}
use Rattle.script.specs.Kinds.{blank, hash, solid}
use Rattle.script.specs.Laws.{Word, Apart}
use Rattle.script.specs.Lines.{ended, words_after, words}
use Rattle.script.specs.Numerals.{and_then, value_after, fitting, numeral, cut_at}
use Rattle.script.specs.Showing.{before, runs, shown_run, spaced, shown}
use Rattle.script.specs.Spelling.{hex_value, one_byte, spelled, spelled_all, plain_or_run}
use Rattle.script.proofs.Reading.{fits, numeral_some}
use Rattle.script.proofs.Spelt.{run_is}
use Rattle.script.proofs.Wording.{ended_some}

-- words

words_on : (u w rest : List ℕ) → AllByRecursion (λ c. solid c ≡ true) w → words_after u (w ++ rest) ≡ words_after (u ++ w) rest
words_on u [] rest h = ap (λ x. words_after x rest) (sym (append-nil u))
words_on u (c ∷ w) rest h = by (blank c) (hash c) h.0 (words_on (u ++ c ∷ []) w rest h.1 ∙ ap (λ x. words_after x rest) (append_assoc u (c ∷ []) w))
  where
    by : (b t : Bool) → not (b || t) ≡ true → words_after (u ++ c ∷ []) (w ++ rest) ≡ words_after (u ++ c ∷ w) rest → cond b (ended u ++ words (w ++ rest)) (cond t (ended u) (words_after (u ++ c ∷ []) (w ++ rest))) ≡ words_after (u ++ c ∷ w) rest
    by true t e k = let z : ◌≡◌ {A = ℕ} 0 1 = cc in absurd (omega arith)
    by false true e k = let z : ◌≡◌ {A = ℕ} 0 1 = cc in absurd (omega arith)
    by false false e k = k

pub words_back : (ws : List (List ℕ)) → AllByRecursion Word ws → words (spaced ws) ≡ ws
words_back [] h = refl
words_back (w ∷ []) h = ap words (sym (append-nil w)) ∙ words_on [] w [] h.0.1 ∙ ended_some w h.0.0
words_back (w ∷ v ∷ ws) h = words_on [] w (32 ∷ spaced (v ∷ ws)) h.0.1 ∙ (λ i. ended_some w h.0.0 i ++ words_back (v ∷ ws) h.1 i)

ended_sound : (u : List ℕ) → AllByRecursion (λ c. solid c ≡ true) u → AllByRecursion Word (ended u)
ended_sound [] h = tt
ended_sound (c ∷ u) h = ((omega arith, h), tt)

pub words_sound : (u l : List ℕ) → AllByRecursion (λ c. solid c ≡ true) u → AllByRecursion Word (words_after u l)
words_sound u [] h = ended_sound u h
words_sound u (c ∷ cs) h = by (blank c) (hash c) refl refl (words_sound [] cs tt) (words_sound (u ++ c ∷ []) cs)
  where
    by : (b t : Bool) → blank c ≡ b → hash c ≡ t → AllByRecursion Word (words cs) → (AllByRecursion (λ x. solid x ≡ true) (u ++ c ∷ []) → AllByRecursion Word (words_after (u ++ c ∷ []) cs)) → AllByRecursion Word (cond b (ended u ++ words cs) (cond t (ended u) (words_after (u ++ c ∷ []) cs)))
    by true t eb et next on = All-append Word (ended u) (words cs) (ended_sound u h) next
    by false true eb et next on = ended_sound u h
    by false false eb et next on = on (All-push (λ x. solid x ≡ true) u c h (simp (eb, et)))

-- numbers

value_push : (k c : ℕ) (ds : List ℕ) → value_after k (ds ++ c ∷ []) ≡ and_then (value_after k ds) (λ m. value_after m (c ∷ []))
value_push k c [] = refl
value_push k c (d ∷ ds) = by (is_ascii_digit d) (value_push (k * 10 + (d - 48)) c ds)
  where
    by : (b : Bool) → value_after (k * 10 + (d - 48)) (ds ++ c ∷ []) ≡ and_then (value_after (k * 10 + (d - 48)) ds) (λ m. value_after m (c ∷ [])) →
        cond b (value_after (k * 10 + (d - 48)) (ds ++ c ∷ [])) None ≡ and_then (cond b (value_after (k * 10 + (d - 48)) ds) None) (λ m. value_after m (c ∷ []))
    by true e = e
    by false e = refl

digit_value : (k d : ℕ) → d < 10 → value_after k ((48 + d) ∷ []) ≡ Some (k * 10 + d)
digit_value k d h =
    let sub : 48 + d - 48 ≡ d = omega arith in
    cond-true (is_ascii_digit (48 + d)) (Some (k * 10 + (48 + d - 48))) None (and_from _ _ (le-leb 48 (48 + d) (omega arith)) (le-leb (48 + d) 57 (omega arith))) ∙ ap (λ x. Some (k * 10 + x)) sub

decimal_value : (n : ℕ) → n < 2 ^ 64 → value_after 0 (decimal n) ≡ Some n
decimal_value = decimal_by_steps (λ m ds. value_after 0 ds ≡ Some m) (λ m h. digit_value 0 m h ∙ ap Some (omega arith)) more
  where
    more : (m : ℕ) (ds : List ℕ) → 10 ≤ m → value_after 0 ds ≡ Some (m / 10) → value_after 0 (ds ++ (48 + m % 10) ∷ []) ≡ Some m
    more m ds h e = value_push 0 (48 + m % 10) ds ∙ ap (λ o. and_then o (λ k. value_after k ((48 + m % 10) ∷ []))) e ∙ digit_value (m / 10) (m % 10) (omega arith) ∙ ap Some (omega arith)

decimal_digits : (n : ℕ) → n < 2 ^ 64 → (0 < length (decimal n)) × AllByRecursion (λ c. IsInRange 48 57 c) (decimal n)
decimal_digits = decimal_by_steps (λ m ds. (0 < length ds) × AllByRecursion (λ c. IsInRange 48 57 c) ds) (λ m h. (omega arith, ((omega arith, omega arith), tt)))
    (λ m ds h e. (omega (arith, length-append ds ((48 + m % 10) ∷ [])), All-push (λ c. IsInRange 48 57 c) ds (48 + m % 10) e.1 (omega arith, omega arith)))

pub numbers_back : (n : ℕ) → n < 2 ^ 64 → numeral (decimal n) ≡ Some n
numbers_back n h = numeral_some (decimal n) (decimal_digits n h).0 ∙ ap (λ o. and_then o fitting) (decimal_value n h) ∙ fits n h

pub cut_front : (at : ℕ) (w xs : List ℕ) → AllByRecursion (λ c. c ≡ at → ⊥) w → cut_at at (w ++ at ∷ xs) ≡ Some (w, xs)
cut_front at [] xs h = cond-true (eqb at at) _ _ (eq-eqb at at refl)
cut_front at (c ∷ w) xs h = rw (ne_eqb c at h.0) (ap (λ o. and_then o (λ (p : List ℕ × List ℕ). Some (c ∷ p.0, p.1))) (cut_front at w xs h.1))

-- runs

solid_from : (c : ℕ) → 42 ≤ c → solid c ≡ true
solid_from c h = simp (ne_eqb c 32 (λ e. omega arith), ne_eqb c 9 (λ e. omega arith), ne_eqb c 35 (λ e. omega arith))

hex_char : (d : ℕ) → d < 16 → (42 ≤ digit_char d) × (is_ascii_hexdigit (digit_char d) ≡ true) × (hex_value (digit_char d) ≡ d)
hex_char d h = (grind (arith, nat_tests), grind (arith, nat_tests), grind (arith, nat_tests))

byte_back : (b : ℕ) → b < 256 → one_byte (digit_char (b / 16) ∷ digit_char (b % 16) ∷ []) ≡ Some b
byte_back b h =
    let high = hex_char (b / 16) (omega arith) in
    let low = hex_char (b % 16) (omega arith) in
    cond-true _ _ _ high.1 ∙ cond-true _ _ _ low.1 ∙ ap Some ((λ i. high.2 i * 16 + low.2 i) ∙ omega arith)

abbrev bytes_of : ℕ × ℕ → List ℕ
bytes_of r = replicate r.0 r.1

run_back : (n b : ℕ) → n < 2 ^ 64 → b < 256 → spelled (shown_run (n, b)) ≡ Some (replicate n b)
run_back n b h k =
    let digits = digit_char (b / 16) ∷ digit_char (b % 16) ∷ [] in
    let star = All-weaker (λ c. IsInRange 48 57 c) (λ c. c ≡ 42 → ⊥) (λ c i e. omega arith) (decimal n) (decimal_digits n h).1 in
    ap (plain_or_run (shown_run (n, b))) (cut_front 42 (decimal n) digits star) ∙ run_is (decimal n) digits n b (sym (numbers_back n h)) (sym (byte_back b k))

run_word : (n b : ℕ) → n < 2 ^ 64 → b < 256 → Word (shown_run (n, b))
run_word n b h k =
    let high = hex_char (b / 16) (omega arith) in
    let low = hex_char (b % 16) (omega arith) in
    let front = All-weaker (λ c. IsInRange 48 57 c) (λ c. solid c ≡ true) (λ c i. solid_from c (omega arith)) (decimal n) (decimal_digits n h).1 in (
      omega (arith, (decimal_digits n h).0, length-append (decimal n) (42 ∷ digit_char (b / 16) ∷ digit_char (b % 16) ∷ [])),
      All-append (λ c. solid c ≡ true) (decimal n) (42 ∷ digit_char (b / 16) ∷ digit_char (b % 16) ∷ []) front (refl, (solid_from _ high.0, (solid_from _ low.0, tt))),
    )

-- a run that can be printed
abbrev Fit : ℕ → ℕ × ℕ → Type 0
Fit k r = (r.0 ≤ k) × (r.1 < 256)

before_fit : (k b : ℕ) (rs : List (ℕ × ℕ)) → b < 256 → AllByRecursion (Fit k) rs → AllByRecursion (Fit (1 + k)) (before b rs)
before_fit k b [] l h = ((omega arith, l), tt)
before_fit k b ((n, c) ∷ rs) l h = by (eqb c b) (All-weaker (Fit k) (Fit (1 + k)) (λ r f. (omega arith, f.1)) rs h.1)
  where
    by : (t : Bool) → AllByRecursion (Fit (1 + k)) rs → AllByRecursion (Fit (1 + k)) (cond t ((1 + n, b) ∷ rs) ((1, b) ∷ (n, c) ∷ rs))
    by true on = ((omega arith, l), on)
    by false on = ((omega arith, l), ((omega arith, h.0.1), on))

runs_fit : (bs : List ℕ) → AllByRecursion (λ b. b < 256) bs → AllByRecursion (Fit (length bs)) (runs bs)
runs_fit [] h = tt
runs_fit (b ∷ bs) h = subst (λ k. AllByRecursion (Fit k) (before b (runs bs))) (one-add (length bs)) (before_fit (length bs) b (runs bs) h.0 (runs_fit bs h.1))

spelled_runs : (rs : List (ℕ × ℕ)) → AllByRecursion (λ r. (r.0 < 2 ^ 64) × (r.1 < 256)) rs → spelled_all (map shown_run rs) ≡ Some (flat_map bytes_of rs)
spelled_runs [] h = refl
spelled_runs ((n, b) ∷ rs) h = (λ i. and_then (run_back n b h.0.0 h.0.1 i) (λ xs. and_then (spelled_runs rs h.1 i) (λ ys. Some (xs ++ ys))))

before_joined : (b : ℕ) (rs : List (ℕ × ℕ)) → flat_map bytes_of (before b rs) ≡ b ∷ flat_map bytes_of rs
before_joined b [] = refl
before_joined b ((n, c) ∷ rs) = by (eqb c b) refl
  where
    by : (t : Bool) → eqb c b ≡ t → flat_map bytes_of (cond {A = List (ℕ × ℕ)} t ((1 + n, b) ∷ rs) ((1, b) ∷ (n, c) ∷ rs)) ≡ b ∷ (replicate n c ++ flat_map bytes_of rs)
    by true e = rw one-add (ap (λ x. b ∷ (replicate n x ++ flat_map bytes_of rs)) (sym (eqb-true c b e)))
    by false e = refl

pub runs_joined : (bs : List ℕ) → flat_map bytes_of (runs bs) ≡ bs
runs_joined [] = refl
runs_joined (b ∷ bs) = before_joined b (runs bs) ∙ ap (λ l. b ∷ l) (runs_joined bs)

before_apart : (b : ℕ) (rs : List (ℕ × ℕ)) → Apart rs → Apart (before b rs)
before_apart b [] h = omega arith
before_apart b ((n, c) ∷ []) h = by (eqb c b) refl
  where
    by : (t : Bool) → eqb c b ≡ t → Apart (cond t ((1 + n, b) ∷ []) ((1, b) ∷ (n, c) ∷ []))
    by true e = omega arith
    by false e = (omega arith, λ k. eqb-false c b e (sym k), h)
before_apart b ((n, c) ∷ (m, d) ∷ rs) h = by (eqb c b) refl
  where
    by : (t : Bool) → eqb c b ≡ t → Apart (cond t ((1 + n, b) ∷ (m, d) ∷ rs) ((1, b) ∷ (n, c) ∷ (m, d) ∷ rs))
    by true e = (omega arith, λ k. h.1 (eqb-true c b e ∙ k), h.2)
    by false e = (omega arith, λ k. eqb-false c b e (sym k), h)

pub runs_apart : (bs : List ℕ) → Apart (runs bs)
runs_apart [] = tt
runs_apart (b ∷ bs) = before_apart b (runs bs) (runs_apart bs)

pub bytes_back : (bs : List ℕ) → 0 < length bs → length bs < 2 ^ 64 → AllByRecursion (λ b. b < 256) bs → spelled_all (words (shown bs)) ≡ Some bs
bytes_back [] h l k = absurd (omega arith)
bytes_back (b ∷ bs) h l k =
    let rs = runs (b ∷ bs) in
    let fit = All-weaker (Fit (length (b ∷ bs))) (λ r. (r.0 < 2 ^ 64) × (r.1 < 256)) (λ r f. (omega arith, f.1)) rs (runs_fit (b ∷ bs) k) in
    let ok = All-map Word shown_run rs (All-weaker (λ r. (r.0 < 2 ^ 64) × (r.1 < 256)) (λ r. Word (shown_run r)) (λ r f. run_word r.0 r.1 f.0 f.1) rs fit) in
    ap spelled_all (words_back (map shown_run rs) ok) ∙ spelled_runs rs fit ∙ ap Some (runs_joined (b ∷ bs))
