-- The words of a line. Assumes nothing.
use Rattle.std.specs.Prelude.{ℕ, cond, List, [], ◌∷◌, ◌++◌}
use Rattle.script.specs.Kinds.{blank, hash}

-- the word that was read, unless nothing was
abbrev pub ended : List ℕ → List (List ℕ)
ended [] = []
ended (c ∷ w) = (c ∷ w) ∷ []

-- the words of what is left of a line, where w was read of a word
abbrev pub words_after : List ℕ → List ℕ → List (List ℕ)
words_after w [] = ended w
words_after w (c ∷ cs) = cond (blank c) (ended w ++ words_after [] cs) (cond (hash c) (ended w) (words_after (w ++ c ∷ []) cs))

abbrev pub words : List ℕ → List (List ℕ)
words line = words_after [] line
