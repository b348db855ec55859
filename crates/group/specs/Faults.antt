-- The numbers of a group's refusals.
use Rattle.std.specs.Prelude.{ℕ}
use Rattle.bus.specs.Numbers.{number_of}
use Rattle.group.specs.declared.fault.GroupFault.{GroupFault}
use Rattle.group.specs.declared.fault.GroupFault.TheVariants.{OutOfRule, Short, Outside, Whole, Lost, Failed}

abbrev pub group_number : GroupFault → ℕ
group_number OutOfRule = 3
group_number Short = 6
group_number Outside = 7
group_number Whole = 8
group_number (Lost g r m a) = 11
group_number (Failed g r m f) = number_of f
