-- What the console prints.
use Rattle.std.specs.Prelude.{ℕ, Bool, cond, List, [], ◌++◌, Ok, Err, codes, decimal, Result}
use Rattle.std.specs.List.{flat_map}
use Rattle.bus.specs.declared.fault.BusFault.{BusFault}
use Rattle.bus.specs.declared.fault.BusFault.TheVariants.{NoDrive, Length, Range, Broken}
use Rattle.bus.specs.Numbers.{number_of}
use Rattle.bus.specs.Drives.{Drive}
use Rattle.script.specs.Showing.{shown}
use Rattle.jowlspur.specs.declared.wrong.Wrong.{Wrong}
use Rattle.jowlspur.specs.declared.wrong.Wrong.TheVariants.{Unknown, Missing, Surplus, Number, Bytes, TooLong, Access, NoBus, NoMemory}

abbrev pub refusal : ℕ → List ℕ
refusal n = codes "refused " ++ decimal n

-- the drive and the block of a fault, if a drive was tried
abbrev pub place : BusFault → List ℕ
place (NoDrive a) = []
place (Length a) = []
place (Range a) = []
place (Broken a) = codes " drive " ++ (decimal a.drive ++ (codes " at " ++ decimal a.block))

-- the answer to a request, with what is printed behind `ok`
abbrev pub answered : {U : Type 0} → Result U BusFault → List ℕ → List ℕ
answered (Ok u) more = codes "ok" ++ more
answered (Err e) more = refusal (number_of e) ++ place e

abbrev pub answered_bytes : {U : Type 0} → Result U BusFault → List ℕ → List ℕ
answered_bytes r bytes = answered r (codes " " ++ shown bytes)

abbrev pub mark_of : Bool → List ℕ
mark_of broken = cond broken (codes " 1") (codes " 0")

-- the broken marks of all drives
abbrev pub marks_of : List Drive → List ℕ
marks_of s = codes "ok" ++ flat_map (λ v. mark_of v.broken) s

-- what is wrong with a line
abbrev pub complaint : Wrong → List ℕ
complaint Unknown = codes "unknown word"
complaint Missing = codes "a word is missing"
complaint Surplus = codes "a word too many"
complaint Number = codes "not a number from 0 to 18446744073709551615"
complaint Bytes = codes "not a byte string"
complaint TooLong = codes "a buffer is at most 1048576 bytes"
complaint Access = codes "accesses are counted from 1"
complaint NoBus = codes "there is no bus yet"
complaint NoMemory = codes "no memory"

-- the line that a malformed line prints, by its number
abbrev pub complained : ℕ → Wrong → List ℕ
complained n w = codes "error: " ++ (decimal n ++ (codes ": " ++ complaint w))
