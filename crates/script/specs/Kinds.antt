-- Kinds of bytes. Assumes nothing.
use Rattle.std.specs.Prelude.{ℕ, Bool, not, ◌||◌, ◌==◌}

-- a space or a tab
abbrev pub blank : ℕ → Bool
blank c = c == 32 || c == 9

-- what begins a comment
abbrev pub hash : ℕ → Bool
hash c = c == 35

-- what words are made of
abbrev pub solid : ℕ → Bool
solid c = not (blank c || hash c)
