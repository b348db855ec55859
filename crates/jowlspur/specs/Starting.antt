-- What a line that starts anew with other drives comes to.
use Rattle.std.specs.Prelude.{◌≡◌, ℕ, Bool, true, ◌⊎◌, List, ◌++◌, Some, None, Ok, Err, codes, Option, Result}
use Rattle.std.specs.declared.alloc.AllocError.{AllocError}
use Rattle.jowlspur.specs.declared.shelf.BusDrives.{BusDrives}
use Rattle.jowlspur.specs.declared.shelf.Memory.{Memory}
use Rattle.jowlspur.specs.declared.wrong.Wrong.TheVariants.{NoMemory}
use Rattle.jowlspur.specs.Shelves.{Filling, New}
use Rattle.jowlspur.specs.Printing.{refusal, complained}

-- memory for the drives v
pub record Begun (v : BusDrives) (was is : List ℕ) (m : Memory) : Type 0 where
  pub first : ℕ
  pub second : ℕ
  pub filling : Filling v first second
  pub new : New v first second m
  pub prints : is ≡ was ++ codes "ok"

-- drives that don't fit a bus
pub record Misfitting (v : BusDrives) (was is : List ℕ) : Type 0 where
  pub misfit : (a b : ℕ) → Filling v a b → ⊥
  pub prints : is ≡ was ++ refusal 3

-- no memory for the drives of the line n
pub record Wanting (n : ℕ) (is : List ℕ) (malformed : Bool) : Type 0 where
  pub counts : malformed ≡ true
  pub prints : is ≡ complained n NoMemory

abbrev pub Starts : BusDrives → ℕ → Bool → List ℕ → List ℕ → Result (Option Memory) AllocError → Type 0
Starts v n malformed was is (Ok (Some m)) = Begun v was is m
Starts v n malformed was is (Ok None) = Misfitting v was is ⊎ Wanting n is malformed
Starts v n malformed was is (Err e) = Unit {0}
