-- Byte strings as they are read. Assumes nothing.
use Rattle.std.specs.Prelude.{◌≡◌, ℕ, ◌+◌, ◌-◌, ◌*◌, ◌<◌, ◌≤◌, cond, List, [], ◌∷◌, ◌++◌, length, replicate, Some, None, Ok, Err, Option, Result}
use Rattle.std.specs.Char.{is_ascii_hexdigit}
use Rattle.std.specs.Int.{is_in_range}
use Rattle.script.specs.declared.bytes.BytesFault.{BytesFault}
use Rattle.script.specs.declared.bytes.BytesFault.TheVariants.{Malformed, TooLong, NoMemory}
use Rattle.script.specs.Numerals.{and_then, numeral, cut_at}

-- the value of a hexadecimal digit, and 0 for any other byte
abbrev pub hex_value : ℕ → ℕ
hex_value c = cond (is_in_range 48 57 c) (c - 48) (cond (is_in_range 65 70 c) (c - 55) (cond (is_in_range 97 102 c) (c - 87) 0))

abbrev pub pair : ℕ → ℕ → ℕ
pair c d = hex_value c * 16 + hex_value d

-- the byte that exactly two hexadecimal digits write
abbrev pub one_byte : List ℕ → Option ℕ
one_byte [] = None
one_byte (c ∷ []) = None
one_byte (c ∷ d ∷ []) = cond (is_ascii_hexdigit c) (cond (is_ascii_hexdigit d) (Some (pair c d)) None) None
one_byte (c ∷ d ∷ e ∷ cs) = None

-- the bytes that the digits write two by two
abbrev pub paired : List ℕ → List ℕ
paired [] = []
paired (c ∷ []) = []
paired (c ∷ d ∷ cs) = pair c d ∷ paired cs

-- the bytes that an even number of hexadecimal digits write
abbrev pub plain : List ℕ → Option (List ℕ)
plain [] = Some []
plain (c ∷ []) = None
plain (c ∷ d ∷ cs) = cond (is_ascii_hexdigit c) (cond (is_ascii_hexdigit d) (and_then (plain cs) (λ bs. Some (pair c d ∷ bs))) None) None

-- the bytes that a count and a value with a star between them write
abbrev pub run : List ℕ → List ℕ → Option (List ℕ)
run count value = and_then (numeral count) (λ n. and_then (one_byte value) (λ b. Some (replicate n b)))

abbrev pub plain_or_run : List ℕ → Option (List ℕ × List ℕ) → Option (List ℕ)
plain_or_run w None = plain w
plain_or_run w (Some p) = run p.0 p.1

-- the bytes that one word of a byte string stands for
abbrev pub spelled : List ℕ → Option (List ℕ)
spelled w = plain_or_run w (cut_at 42 w)

-- the bytes that the words of a byte string stand for
abbrev pub spelled_all : List (List ℕ) → Option (List ℕ)
spelled_all [] = Some []
spelled_all (w ∷ ws) = and_then (spelled w) (λ bs. and_then (spelled_all ws) (λ cs. Some (bs ++ cs)))

-- a word that stands for o was added to the bytes `was`, of which at most limit are allowed, with the answer r
abbrev pub Added : Option (List ℕ) → ℕ → List ℕ → List ℕ → Result (Unit {0}) BytesFault → Type 0
Added o limit was is (Ok _) = (bs : List ℕ) × (o ≡ Some bs) × (length was + length bs ≤ limit) × (is ≡ was ++ bs)
Added o limit was is (Err Malformed) = (o ≡ None) × (is ≡ was)
Added o limit was is (Err TooLong) = (bs : List ℕ) × (o ≡ Some bs) × (limit < length was + length bs) × (is ≡ was)
Added o limit was is (Err NoMemory) = (bs : List ℕ) × (o ≡ Some bs) × (length was + length bs ≤ limit) × (is ≡ was)
