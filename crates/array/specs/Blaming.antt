-- What a group's fault is to the call that met it. Assumes nothing.
use Rattle.std.specs.Prelude.{Some, Ok, Err, Result}
use Rattle.bus.specs.Numbers.{address_of}
use Rattle.group.specs.declared.fault.GroupFault.{GroupFault}
use Rattle.group.specs.declared.fault.GroupFault.TheVariants.{OutOfRule, Short, Outside as Beyond, Whole, Lost, Failed}
use Rattle.array.specs.declared.refusal.Fault.TheVariants.{OfRow, OfBlock}
use Rattle.array.specs.declared.refusal.Refusal.{Refusal}
use Rattle.array.specs.declared.refusal.Refusal.TheVariants.{Outside, Broken}
use Rattle.array.specs.declared.refusal.Refused.{Refused}
use Rattle.array.specs.declared.volume.VolumeBlock.{VolumeBlock}
use Rattle.array.specs.Refusals.{plain}

-- A request for a block of a volume set: a lost row is refused by x; of the others only an extent that does not lie on its
-- drive is possible.
abbrev pub blamed : VolumeBlock → Refusal → GroupFault → Refused
blamed v x OutOfRule = plain Outside
blamed v x Short = plain Outside
blamed v x Beyond = plain Outside
blamed v x Whole = plain Outside
blamed v x (Lost g r i a) = record { refusal = x; fault = Some (OfBlock v g r i a) }
blamed v x (Failed g r i f) = plain Outside

abbrev pub of_block : {U : Type 0} → VolumeBlock → Refusal → Result U GroupFault → Result U Refused
of_block v x (Ok u) = Ok u
of_block v x (Err e) = Err (blamed v x e)

-- the fill of a new group: of its faults only that of a drive is possible
abbrev pub broken_by : GroupFault → Refused
broken_by OutOfRule = plain Broken
broken_by Short = plain Broken
broken_by Beyond = plain Broken
broken_by Whole = plain Broken
broken_by (Lost g r i a) = plain Broken
broken_by (Failed g r i f) = record { refusal = Broken; fault = Some (OfRow g r i (address_of f)) }
