-- Numbers as they are read. Assumes nothing.
use Rattle.std.specs.Prelude.{ℕ, ◌+◌, ◌-◌, ◌*◌, ◌^◌, cond, List, [], ◌∷◌, Some, None, Option, ◌==◌, nat_lt}
use Rattle.std.specs.Char.{is_ascii_digit}

abbrev pub and_then : {X Y : Type 0} → Option X → (X → Option Y) → Option Y
and_then None f = None
and_then (Some x) f = f x

-- the number that decimal digits write after those of n
abbrev pub value_after : ℕ → List ℕ → Option ℕ
value_after n [] = Some n
value_after n (c ∷ cs) = cond (is_ascii_digit c) (value_after (n * 10 + (c - 48)) cs) None

-- the number that one decimal digit or more write
abbrev pub value_of : List ℕ → Option ℕ
value_of [] = None
value_of (c ∷ cs) = value_after 0 (c ∷ cs)

-- n, if 64 bits hold it
abbrev pub fitting : ℕ → Option ℕ
fitting n = cond (nat_lt n (2 ^ 64)) (Some n) None

-- the number that a word stands for
abbrev pub numeral : List ℕ → Option ℕ
numeral w = and_then (value_of w) fitting

-- what stands before the first c of a word, and what behind it
abbrev pub cut_at : ℕ → List ℕ → Option (List ℕ × List ℕ)
cut_at c [] = None
cut_at c (x ∷ xs) = cond (x == c) (Some ([], xs)) (and_then (cut_at c xs) (λ p. Some (x ∷ p.0, p.1)))

-- three numbers with a colon between them
abbrev pub triple : List ℕ → Option (ℕ × ℕ × ℕ)
triple w =
    and_then (cut_at 58 w) (λ p.
    and_then (cut_at 58 p.1) (λ q.
    and_then (numeral p.0) (λ x. and_then (numeral q.0) (λ y. and_then (numeral q.1) (λ z. Some (x, y, z))))))
