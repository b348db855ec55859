-- What the parts of a line come to, by the words that are left.
use Rattle.std.proofs.Common.{◌≡◌, ℕ, ◌+◌, ◌<◌, ◌≤◌, cond, leb, ◌⊎◌, List, [], ◌∷◌, ◌++◌, length, Some, None, Ok, Err, Result, sym, refl, ap, ◌∙◌, subst, inl, inr, MatchResult}
use Rattle.std.proofs.lemmas.Bool.{le-leb, lt-leb, cond-true, cond-false}
use Rattle.buses.specs.declared.memory.Drives.{Drives}
use Rattle.script.specs.declared.bytes.BytesFault.{BytesFault}
use Rattle.script.specs.declared.bytes.BytesFault.TheVariants.{Malformed, TooLong as Long, NoMemory as Wanting}
use Rattle.script.specs.Numerals.{numeral}
use Rattle.script.specs.Spelling.{spelled, Added}
use Rattle.jowlspur.specs.declared.wrong.Wrong.{Wrong}
use Rattle.jowlspur.specs.declared.wrong.Wrong.TheVariants.{Missing, Surplus, Number, Bytes, TooLong, NoMemory}
use Rattle.jowlspur.specs.Shelves.{untouched}
use Rattle.jowlspur.specs.Wrongs.{wrong_of}
use Rattle.jowlspur.specs.Language.{onward, or_else, ended, numbered, number_then, last_number, second_drives, drives_of, buffer_of, extended, extended_all, bytes_of}

-- no word is left
module _ (ws : List (List ℕ)) (none : ws ≡ []) where
  pub ended_none : Ok tt ≡ ended ws
  unfolding ended
  ended_none = sym (ap ended none)

  pub numbered_none : numbered ws ≡ Err Missing
  unfolding numbered
  numbered_none = ap numbered none

  pub last_none : Ok None ≡ last_number ws
  unfolding last_number
  last_none = sym (ap last_number none)

  pub pair_none : Ok (drives_of 0 1) ≡ second_drives ws
  unfolding second_drives
  pair_none = sym (ap second_drives none)

  pub bytes_none : bytes_of ws ≡ Err Missing
  unfolding bytes_of
  bytes_none = ap bytes_of none

-- the word w is left, and vs behind it
module _ (ws : List (List ℕ)) (w : List ℕ) (vs : List (List ℕ)) (some : ws ≡ w ∷ vs) where
  pub ended_some : Err Surplus ≡ ended ws
  unfolding ended
  ended_some = sym (ap ended some)

  numbered_is : numbered ws ≡ onward (or_else (numeral w) Number) (λ n. Ok (n, vs))
  unfolding numbered
  numbered_is = ap numbered some

  pub numbered_not : None ≡ numeral w → numbered ws ≡ Err Number
  numbered_not e = numbered_is ∙ ap (λ o. onward (or_else o Number) (λ n. Ok (n, vs))) (sym e)

  pub numbered_some : (n : ℕ) → Some n ≡ numeral w → numbered ws ≡ Ok (n, vs)
  numbered_some n e = numbered_is ∙ ap (λ o. onward (or_else o Number) (λ n. Ok (n, vs))) (sym e)

  last_is : last_number ws ≡ number_then ws (λ n rest. onward (ended rest) (λ _. Ok (Some n)))
  unfolding last_number
  last_is = ap last_number some ∙ ap (λ v. number_then v (λ n rest. onward (ended rest) (λ _. Ok (Some n)))) (sym some)

  pub last_not : None ≡ numeral w → Err Number ≡ last_number ws
  last_not e = sym (last_is ∙ ap (λ v. onward v (λ p. onward (ended p.1) (λ _. Ok (Some p.0)))) (numbered_not e))

  pub last_some : (n : ℕ) → Some n ≡ numeral w → (z : Result (Unit {0}) Wrong) → z ≡ ended vs → onward z (λ _. Ok (Some n)) ≡ last_number ws
  last_some n e z k = sym (last_is ∙ ap (λ v. onward v (λ p. onward (ended p.1) (λ _. Ok (Some p.0)))) (numbered_some n e) ∙ ap (λ v. onward v (λ _. Ok (Some n))) (sym k))

  abbrev pair_then : ℕ → List (List ℕ) → Result Drives Wrong
  pair_then n us = number_then us (λ c rest. onward (ended rest) (λ _. Ok (drives_of n c)))

  pair_is : second_drives ws ≡ number_then ws pair_then
  unfolding second_drives
  pair_is = ap second_drives some ∙ ap (λ v. number_then v pair_then) (sym some)

  pub pair_not : None ≡ numeral w → Err Number ≡ second_drives ws
  pair_not e = sym (pair_is ∙ ap (λ v. onward v (λ p. pair_then p.0 p.1)) (numbered_not e))

  pair_more : (n : ℕ) → Some n ≡ numeral w → second_drives ws ≡ pair_then n vs
  pair_more n e = pair_is ∙ ap (λ v. onward v (λ p. pair_then p.0 p.1)) (numbered_some n e)

  pub pair_half : (n : ℕ) → Some n ≡ numeral w → (f : Wrong) → numbered vs ≡ Err f → Err f ≡ second_drives ws
  pair_half n e f k = sym (pair_more n e ∙ ap (λ v. onward v (λ p. onward (ended p.1) (λ _. Ok (drives_of n p.0)))) k)

  pub pair_some : (n : ℕ) → Some n ≡ numeral w → (c : ℕ) (us : List (List ℕ)) → numbered vs ≡ Ok (c, us) → (z : Result (Unit {0}) Wrong) → z ≡ ended us → onward z (λ _. Ok (drives_of n c)) ≡ second_drives ws
  pair_some n e c us k z h = sym (pair_more n e ∙ ap (λ v. onward v (λ p. onward (ended p.1) (λ _. Ok (drives_of n p.0)))) k ∙ ap (λ v. onward v (λ _. Ok (drives_of n c))) (sym h))

  bytes_some : (xs : List ℕ) → xs ≡ [] → bytes_of ws ≡ onward (extended xs w) (λ ys. extended_all ys vs)
  unfolding bytes_of
  bytes_some xs e = ap bytes_of some ∙ ap (λ zs. onward (extended zs w) (λ ys. extended_all ys vs)) (sym e)

  pub bytes_begun : (xs ys : List ℕ) → xs ≡ [] → extended xs w ≡ Ok ys → bytes_of ws ≡ extended_all ys vs
  bytes_begun xs ys e k = bytes_some xs e ∙ ap (λ v. onward v (λ zs. extended_all zs vs)) k

  pub bytes_refused : (xs : List ℕ) (f : Wrong) → xs ≡ [] → extended xs w ≡ Err f → bytes_of ws ≡ Err f
  bytes_refused xs f e k = bytes_some xs e ∙ ap (λ v. onward v (λ zs. extended_all zs vs)) k

  pub all_refused : (xs : List ℕ) (f : Wrong) → extended xs w ≡ Err f → extended_all xs ws ≡ Err f
  all_refused xs f k = ap (extended_all xs) some ∙ ap (λ v. onward v (λ zs. extended_all zs vs)) k

pub all_done : (xs : List ℕ) (ws : List (List ℕ)) → ws ≡ [] → extended_all xs ws ≡ Ok xs
all_done xs ws e = ap (extended_all xs) e

-- a refusal that is handed on
pub handed_on : {X V : Type 0} (a : Result X Wrong) (r : Result V Wrong) (P : V → Type 0) (e f : Wrong) → r ≡ Err e → e ≡ f → (a ≡ Err f) ⊎ (f ≡ NoMemory) → MatchResult r P (λ w. (a ≡ Err w) ⊎ (w ≡ NoMemory))
handed_on a r P e f i k h = subst (λ v. MatchResult v P (λ w. (a ≡ Err w) ⊎ (w ≡ NoMemory))) (sym (i ∙ ap Err k)) h

pub buffer_long : (n : ℕ) → 1048576 < n → buffer_of n ≡ Err TooLong
unfolding buffer_of
buffer_long n h = cond-false (leb n 1048576) (Ok (untouched n)) (Err TooLong) (lt-leb n 1048576 h)

pub buffer_fits : (n : ℕ) (xs : List ℕ) → n ≤ 1048576 → xs ≡ untouched n → buffer_of n ≡ Ok xs
unfolding buffer_of
buffer_fits n xs h e = cond-true (leb n 1048576) (Ok (untouched n)) (Err TooLong) (le-leb n 1048576 h) ∙ ap Ok (sym e)

module _ (xs w bs : List ℕ) where
  abbrev fits : List ℕ → Result (List ℕ) Wrong
  fits bs = cond (leb (length xs + length bs) 1048576) (Ok (xs ++ bs)) (Err TooLong)

  pub extended_not : spelled w ≡ None → extended xs w ≡ Err Bytes
  unfolding extended
  extended_not e = ap (λ o. onward (or_else o Bytes) fits) e

  pub extended_long : spelled w ≡ Some bs → 1048576 < length xs + length bs → extended xs w ≡ Err TooLong
  unfolding extended
  extended_long e h = ap (λ o. onward (or_else o Bytes) fits) e ∙ cond-false (leb (length xs + length bs) 1048576) (Ok (xs ++ bs)) (Err TooLong) (lt-leb (length xs + length bs) 1048576 h)

  pub extended_ok : (is : List ℕ) → spelled w ≡ Some bs → length xs + length bs ≤ 1048576 → is ≡ xs ++ bs → extended xs w ≡ Ok is
  unfolding extended
  extended_ok is e h k = ap (λ o. onward (or_else o Bytes) fits) e ∙ cond-true (leb (length xs + length bs) 1048576) (Ok (xs ++ bs)) (Err TooLong) (le-leb (length xs + length bs) 1048576 h) ∙ ap Ok (sym k)

pub word_refused : (xs w is : List ℕ) (f : BytesFault) → Added (spelled w) 1048576 xs is (Err f) → (extended xs w ≡ Err (wrong_of f)) ⊎ (wrong_of f ≡ NoMemory)
word_refused xs w is Malformed h = inl (extended_not xs w [] h.0)
word_refused xs w is Long h = inl (extended_long xs w h.0 h.1 h.2)
word_refused xs w is Wanting h = inr refl
