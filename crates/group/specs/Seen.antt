-- A drive's fault seen from a row.
use Rattle.std.specs.Prelude.{ℕ, Ok, Err, Result}
use Rattle.bus.specs.declared.fault.BusFault.{BusFault}
use Rattle.group.specs.declared.fault.RowFault.{RowFault}
use Rattle.group.specs.declared.fault.RowFault.TheVariants.{Failed}

abbrev pub seen : {T : Type 0} → ℕ → ℕ → Result T BusFault → Result T RowFault
seen i r (Ok x) = Ok x
seen i r (Err f) = Err (Failed f i r)
