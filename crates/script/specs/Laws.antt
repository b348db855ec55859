-- What is printed reads back, and what is read has the form that it should have. Assumes nothing.
use Rattle.std.specs.Prelude.{◌≡◌, ℕ, ◌^◌, ◌<◌, true, List, [], ◌∷◌, ◌++◌, length, replicate, Some, decimal, ◌≢◌}
use Rattle.std.specs.List.{flat_map, AllByRecursion}
use Rattle.script.specs.Kinds.{solid}
use Rattle.script.specs.Lines.{words}
use Rattle.script.specs.Numerals.{numeral, triple}
use Rattle.script.specs.Showing.{runs, spaced, shown}
use Rattle.script.specs.Spelling.{spelled_all}

-- one byte or more, and no blank or hash among them
abbrev pub Word : List ℕ → Type 0
Word w = (0 < length w) × AllByRecursion (λ c. solid c ≡ true) w

-- every word of a line is one, and words with a space between each two read as those words
abbrev pub WordsRead : Type 0
WordsRead = ((line : List ℕ) → AllByRecursion Word (words line)) × ((ws : List (List ℕ)) → AllByRecursion Word ws → words (spaced ws) ≡ ws)

-- a printed number reads as that number
abbrev pub NumbersRead : Type 0
NumbersRead = (n : ℕ) → n < 2 ^ 64 → numeral (decimal n) ≡ Some n

-- w is three numbers with a colon between each two
pub record Three (w : List ℕ) (x y z : ℕ) : Type 0 where
  pub first : List ℕ
  pub second : List ℕ
  pub third : List ℕ
  pub whole : w ≡ first ++ 58 ∷ (second ++ 58 ∷ third)
  pub first_is : numeral first ≡ Some x
  pub second_is : numeral second ≡ Some y
  pub third_is : numeral third ≡ Some z

abbrev pub TriplesRead : Type 0
TriplesRead = (w : List ℕ) (x y z : ℕ) → (triple w ≡ Some (x, y, z) → Three w x y z) × (Three w x y z → triple w ≡ Some (x, y, z))

-- no run is empty, and none has the byte of the next
abbrev pub Apart : List (ℕ × ℕ) → Type 0
Apart [] = Unit {0}
Apart ((n, b) ∷ []) = 0 < n
Apart ((n, b) ∷ (m, c) ∷ rs) = (0 < n) × (b ≢ c) × Apart ((m, c) ∷ rs)

-- the runs, one behind the other, are the bytes, and each run is as long as can be
abbrev pub RunsLongest : Type 0
RunsLongest = (bs : List ℕ) → (flat_map (λ r. replicate r.0 r.1) (runs bs) ≡ bs) × Apart (runs bs)

-- printed bytes read as those bytes
abbrev pub BytesRead : Type 0
BytesRead = (bs : List ℕ) → 0 < length bs → length bs < 2 ^ 64 → AllByRecursion (λ b. b < 256) bs → spelled_all (words (shown bs)) ≡ Some bs
