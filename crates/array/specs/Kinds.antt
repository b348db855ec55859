-- The methods of redundancy, by kind and by the standard's codes. Assumes nothing.
use Rattle.std.specs.Prelude.{ℕ, cond, Some, None, Option, ◌==◌}
use Rattle.layout.specs.declared.method.Method.{Ghosts}
use Rattle.layout.specs.declared.unprotected.Unprotected.{Unprotected}
use Rattle.layout.specs.declared.mirror.Mirror.{Mirror}
use Rattle.layout.specs.declared.parity.Parity.{Parity}
use Rattle.layout.specs.contracts.unprotected.UnprotectedMethod.TheImpl as unprotected
use Rattle.layout.specs.contracts.mirror.MirrorMethod.TheImpl as mirror
use Rattle.layout.specs.contracts.parity.ParityMethod.TheImpl as parity
use Rattle.array.specs.declared.kind.MethodKind.{MethodKind}
use Rattle.array.specs.declared.kind.MethodKind.TheVariants.{NoRedundancy, Copy, Xor}
use Rattle.array.specs.declared.kind.UnknownMethod.{UnknownMethod}

-- the type that implements the method
abbrev pub by : MethodKind → Type 0
by NoRedundancy = Unprotected
by Copy = Mirror
by Xor = Parity

-- what the method is: its places, its rows, what it tolerates
abbrev pub method : (k : MethodKind) → Ghosts (by k)
method NoRedundancy = unprotected.ghosts
method Copy = mirror.ghosts
method Xor = parity.ghosts

-- the code of the standard's table
abbrev pub method_code : MethodKind → ℕ
method_code NoRedundancy = 0
method_code Copy = 1
method_code Xor = 2

abbrev pub method_of : ℕ → Option MethodKind
method_of code = cond (code == 0) (Some NoRedundancy) (cond (code == 1) (Some Copy) (cond (code == 2) (Some Xor) None))

-- a code of no method
abbrev pub unknown : ℕ → UnknownMethod
unknown code = record { 0 = code }
