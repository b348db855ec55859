-- The language of scripts: what the words of a line ask for, and what is wrong with them otherwise.
use Rattle.std.specs.Prelude.{◌≡◌, ℕ, ◌+◌, cond, ◌⊎◌, List, [], ◌∷◌, ◌++◌, length, Some, None, Ok, Err, vec_items, codes, Option, Result, ◌==◌, nat_le}
use Rattle.std.specs.Str.{bytes_eq}
use Rattle.bus.specs.declared.address.BlockAddress.{BlockAddress}
use Rattle.bus.specs.Numbers.{address}
use Rattle.buses.specs.declared.memory.Drives.{Drives}
use Rattle.script.specs.Lines.{words}
use Rattle.script.specs.Numerals.{numeral}
use Rattle.script.specs.Spelling.{spelled}
use Rattle.jowlspur.specs.declared.shelf.BusDrives.{BusDrives}
use Rattle.jowlspur.specs.declared.request.Line.{Line}
use Rattle.jowlspur.specs.declared.request.Request.{Request}
use Rattle.jowlspur.specs.declared.request.Request.TheVariants.{Bus, Break, Broken, Peek, Poke, Raw}
use Rattle.jowlspur.specs.declared.wrong.Wrong.{Wrong}
use Rattle.jowlspur.specs.declared.wrong.Wrong.TheVariants.{Unknown, Missing, Surplus, Number, Bytes, TooLong, Access, NoMemory}
use Rattle.jowlspur.specs.Shelves.{untouched}

-- a request, with its buffer as bytes
pub data Call : Type 0 where
  bus : BusDrives → Call
  break : ℕ → ℕ → Call
  broken : Call
  peek : BlockAddress → List ℕ → Call
  poke : BlockAddress → List ℕ → Call
  raw : BlockAddress → Call

abbrev pub call_of : Request → Call
call_of (Bus v) = bus v
call_of (Break d n) = break d n
call_of Broken = broken
call_of (Peek a buffer) = peek a (vec_items buffer)
call_of (Poke a bytes) = poke a (vec_items bytes)
call_of (Raw a) = raw a

-- the words that are yet to be read
abbrev pub unread : Line → List (List ℕ)
unread l = words l.words.rest.now

abbrev pub onward : {X Y : Type 0} → Result X Wrong → (X → Result Y Wrong) → Result Y Wrong
onward (Ok x) f = f x
onward (Err e) f = Err e

abbrev pub or_else : {X : Type 0} → Option X → Wrong → Result X Wrong
or_else (Some x) e = Ok x
or_else None e = Err e

-- the line ends here
unfoldable pub ended : List (List ℕ) → Result (Unit {0}) Wrong
ended [] = Ok tt
ended (w ∷ ws) = Err Surplus

-- a number, and the words behind it
unfoldable pub numbered : List (List ℕ) → Result (ℕ × List (List ℕ)) Wrong
numbered [] = Err Missing
numbered (w ∷ ws) = onward (or_else (numeral w) Number) (λ n. Ok (n, ws))

abbrev pub number_then : {X : Type 0} → List (List ℕ) → (ℕ → List (List ℕ) → Result X Wrong) → Result X Wrong
number_then ws f = onward (numbered ws) (λ p. f p.0 p.1)

-- the numbers of a drive and a block, and the words behind them
unfoldable pub addressed : List (List ℕ) → Result (BlockAddress × List (List ℕ)) Wrong
addressed ws = number_then ws (λ d rest. number_then rest (λ b rest. Ok (address d b, rest)))

abbrev pub address_then : {X : Type 0} → List (List ℕ) → (BlockAddress → List (List ℕ) → Result X Wrong) → Result X Wrong
address_then ws f = onward (addressed ws) (λ p. f p.0 p.1)

-- a last number, if there is one
unfoldable pub last_number : List (List ℕ) → Result (Option ℕ) Wrong
last_number [] = Ok None
last_number (w ∷ ws) = number_then (w ∷ ws) (λ n rest. onward (ended rest) (λ _. Ok (Some n)))

-- n drives of c blocks
abbrev pub drives_of : ℕ → ℕ → Drives
drives_of n c = record { number = n; capacity = c }

-- the second pair of numbers of a bus; no drives where there is none
unfoldable pub second_drives : List (List ℕ) → Result Drives Wrong
second_drives [] = Ok (drives_of 0 1)
second_drives (w ∷ ws) = number_then (w ∷ ws) (λ n rest. number_then rest (λ c rest. onward (ended rest) (λ _. Ok (drives_of n c))))

-- a buffer of n bytes
unfoldable pub buffer_of : ℕ → Result (List ℕ) Wrong
buffer_of n = cond (nat_le n 1048576) (Ok (untouched n)) (Err TooLong)

-- the bytes of one word more behind xs
unfoldable pub extended : List ℕ → List ℕ → Result (List ℕ) Wrong
extended xs w = onward (or_else (spelled w) Bytes) (λ bs. cond (nat_le (length xs + length bs) 1048576) (Ok (xs ++ bs)) (Err TooLong))

abbrev pub extended_all : List ℕ → List (List ℕ) → Result (List ℕ) Wrong
extended_all xs [] = Ok xs
extended_all xs (w ∷ ws) = onward (extended xs w) (λ ys. extended_all ys ws)

-- the bytes of the words that are left
unfoldable pub bytes_of : List (List ℕ) → Result (List ℕ) Wrong
bytes_of [] = Err Missing
bytes_of (w ∷ ws) = extended_all [] (w ∷ ws)

-- at once, or in the n-th access
abbrev pub break_in : ℕ → Option ℕ → Result Call Wrong
break_in d None = Ok (break d 0)
break_in d (Some n) = cond (n == 0) (Err Access) (Ok (break d n))

-- what each word asks for, by the words behind it
abbrev pub bus_of : List (List ℕ) → Result Call Wrong
bus_of ws = number_then ws (λ n ws. number_then ws (λ c ws. onward (second_drives ws) (λ v. Ok (bus (record { first = drives_of n c; second = v })))))

abbrev pub break_of : List (List ℕ) → Result Call Wrong
break_of ws = number_then ws (λ d ws. onward (last_number ws) (λ n. break_in d n))

abbrev pub broken_of : List (List ℕ) → Result Call Wrong
broken_of ws = onward (ended ws) (λ _. Ok broken)

abbrev pub peek_of : List (List ℕ) → Result Call Wrong
peek_of ws = address_then ws (λ a ws. number_then ws (λ n ws. onward (ended ws) (λ _. onward (buffer_of n) (λ xs. Ok (peek a xs)))))

abbrev pub poke_of : List (List ℕ) → Result Call Wrong
poke_of ws = address_then ws (λ a ws. onward (bytes_of ws) (λ xs. Ok (poke a xs)))

abbrev pub raw_of : List (List ℕ) → Result Call Wrong
raw_of ws = address_then ws (λ a ws. onward (ended ws) (λ _. Ok (raw a)))

-- the language, a line for each word
abbrev pub asked_by : List ℕ → List (List ℕ) → Result Call Wrong
asked_by w ws =
    cond (bytes_eq w (codes "bus")) (bus_of ws)
    (cond (bytes_eq w (codes "break")) (break_of ws)
    (cond (bytes_eq w (codes "broken")) (broken_of ws)
    (cond (bytes_eq w (codes "peek")) (peek_of ws)
    (cond (bytes_eq w (codes "poke")) (poke_of ws)
    (cond (bytes_eq w (codes "raw")) (raw_of ws)
    (Err Unknown))))))

-- what a line asks for, if it has a word
abbrev pub asked : List (List ℕ) → Result (Option Call) Wrong
asked [] = Ok None
asked (w ∷ ws) = onward (asked_by w ws) (λ q. Ok (Some q))

-- what was read, with the words ws left
abbrev pub leaving : {X : Type 0} → Result X Wrong → List (List ℕ) → Result (X × List (List ℕ)) Wrong
leaving (Ok x) ws = Ok (x, ws)
leaving (Err e) ws = Err e

-- a is what was read, or memory was wanting, which it is only where W holds
abbrev pub Answers : Type 0 → Result Call Wrong → Result Request Wrong → Type 0
Answers W a (Ok q) = a ≡ Ok (call_of q)
Answers W a (Err e) = (a ≡ Err e) ⊎ ((e ≡ NoMemory) × W)

-- the same of a line
abbrev pub Parses : Type 0 → Result (Option Call) Wrong → Result (Option Request) Wrong → Type 0
Parses W a (Ok None) = a ≡ Ok None
Parses W a (Ok (Some q)) = a ≡ Ok (Some (call_of q))
Parses W a (Err e) = (a ≡ Err e) ⊎ ((e ≡ NoMemory) × W)

-- a word whose request has a buffer
abbrev pub Buffered : List ℕ → Type 0
Buffered w = (w ≡ codes "peek") ⊎ (w ≡ codes "poke")

abbrev pub FirstBuffered : List (List ℕ) → Type 0
FirstBuffered [] = ⊥
FirstBuffered (w ∷ ws) = Buffered w
