-- Bytes as they are printed. Assumes nothing.
use Rattle.std.specs.Prelude.{◌≡◌, ℕ, ◌+◌, ◌/◌, ◌%◌, cond, List, [], ◌∷◌, ◌++◌, map, Ok, Err, decimal, Result, ◌==◌}
use Rattle.std.specs.Char.{digit_char}

-- b before the runs of what follows it
abbrev pub before : ℕ → List (ℕ × ℕ) → List (ℕ × ℕ)
before b [] = (1, b) ∷ []
before b ((n, c) ∷ rs) = cond (c == b) ((1 + n, b) ∷ rs) ((1, b) ∷ (n, c) ∷ rs)

-- the longest runs of equal bytes, each as its length and its byte
abbrev pub runs : List ℕ → List (ℕ × ℕ)
runs [] = []
runs (b ∷ bs) = before b (runs bs)

abbrev pub shown_run : ℕ × ℕ → List ℕ
shown_run r = decimal r.0 ++ 42 ∷ digit_char (r.1 / 16) ∷ digit_char (r.1 % 16) ∷ []

-- words with a space between each two
abbrev pub spaced : List (List ℕ) → List ℕ
spaced [] = []
spaced (w ∷ []) = w
spaced (w ∷ v ∷ ws) = w ++ 32 ∷ spaced (v ∷ ws)

abbrev pub shown_runs : List ℕ → List ℕ
shown_runs bs = spaced (map shown_run (runs bs))

-- the printed form of bytes
abbrev pub shown : List ℕ → List ℕ
shown [] = 48 ∷ []
shown (b ∷ bs) = shown_runs (b ∷ bs)

-- is begins with was
abbrev pub Extends : List ℕ → List ℕ → Type 0
Extends was is = (more : List ℕ) × (is ≡ was ++ more)

-- text was written behind `was`, or a part of it where memory was wanting
abbrev pub Grown : {E : Type 0} → Result (Unit {0}) E → List ℕ → List ℕ → List ℕ → Type 0
Grown (Ok _) text was is = is ≡ was ++ text
Grown (Err _) text was is = Extends was is

-- text was written behind `was`, or nothing where memory was wanting
abbrev pub Written : {E : Type 0} → Result (Unit {0}) E → List ℕ → List ℕ → List ℕ → Type 0
Written (Ok _) text was is = is ≡ was ++ text
Written (Err _) text was is = is ≡ was
