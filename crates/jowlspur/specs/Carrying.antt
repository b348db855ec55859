-- What a request does to the drives of a shelf, k before and l after, and what it prints.
use Rattle.std.specs.Prelude.{◌≡◌, ℕ, List, [], length, replicate, vec_items, codes, Result}
use Rattle.bus.specs.declared.fault.BusFault.{BusFault}
use Rattle.bus.specs.Requests.{Reads, Writes}
use Rattle.buses.specs.Breaking.{Told, Counts}
use Rattle.jowlspur.specs.declared.request.Request.{Request}
use Rattle.jowlspur.specs.declared.request.Request.TheVariants.{Bus, Break, Broken, Peek, Poke, Raw}
use Rattle.jowlspur.specs.Shelves.{Breaking, behind, on}
use Rattle.jowlspur.specs.Printing.{answered, answered_bytes, marks_of}

-- the drives stay as they are, and text is printed
pub record Same (k l : Breaking) (text : List ℕ) (Prints : List ℕ → Type 0) : Type 0 where
  pub same : l ≡ k
  pub prints : Prints text

pub record Breaks (d n : ℕ) (k l : Breaking) (Prints : List ℕ → Type 0) : Type 0 where
  pub answer : Result (Unit {0}) BusFault
  pub told : Told (behind k) k.left l.left d n answer
  pub below : l.below ≡ k.below
  pub prints : Prints (answered answer [])

pub record Peeks (d b : ℕ) (was : List ℕ) (k l : Breaking) (Prints : List ℕ → Type 0) : Type 0 where
  pub answer : Result (Unit {0}) BusFault
  pub is : List ℕ
  pub reads : Reads (on k) (on l) d b was is answer
  pub counts : Counts (behind k) (behind l) k.left l.left d b (length was)
  pub prints : Prints (answered_bytes answer is)

pub record Pokes (d b : ℕ) (bytes : List ℕ) (k l : Breaking) (Prints : List ℕ → Type 0) : Type 0 where
  pub answer : Result (Unit {0}) BusFault
  pub writes : Writes (on k) (on l) d b bytes answer
  pub counts : Counts (behind k) (behind l) k.left l.left d b (length bytes)
  pub prints : Prints (answered answer [])

pub record Shows (d b : ℕ) (k l : Breaking) (Prints : List ℕ → Type 0) : Type 0 where
  pub answer : Result (Unit {0}) BusFault
  pub is : List ℕ
  pub reads : Reads (behind k) (behind k) d b (replicate 512 0) is answer
  pub same : l ≡ k
  pub prints : Prints (answered_bytes answer is)

abbrev pub Carries : Request → Breaking → Breaking → (List ℕ → Type 0) → Type 0
Carries (Bus v) k l Prints = Same k l (codes "ok") Prints
Carries (Break d n) k l Prints = Breaks d n k l Prints
Carries Broken k l Prints = Same k l (marks_of (on k)) Prints
Carries (Peek a buffer) k l Prints = Peeks a.drive a.block (vec_items buffer) k l Prints
Carries (Poke a bytes) k l Prints = Pokes a.drive a.block (vec_items bytes) k l Prints
Carries (Raw a) k l Prints = Shows a.drive a.block k l Prints
