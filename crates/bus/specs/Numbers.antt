-- The numbers of the refusals, and what a fault names.
use Rattle.std.specs.Prelude.{ℕ}
use Rattle.bus.specs.declared.address.BlockAddress.{BlockAddress}
use Rattle.bus.specs.declared.fault.BusFault.{BusFault}
use Rattle.bus.specs.declared.fault.BusFault.TheVariants.{NoDrive, Length, Range, Broken}

abbrev pub number_of : BusFault → ℕ
number_of (NoDrive a) = 4
number_of (Length a) = 6
number_of (Range a) = 7
number_of (Broken a) = 9

abbrev pub address_of : BusFault → BlockAddress
address_of (NoDrive a) = a
address_of (Length a) = a
address_of (Range a) = a
address_of (Broken a) = a

abbrev pub drive_of : BusFault → ℕ
drive_of f = (address_of f).drive

abbrev pub block_of : BusFault → ℕ
block_of f = (address_of f).block

-- the block b of the drive d
abbrev pub address : ℕ → ℕ → BlockAddress
address d b = record { drive = d; block = b }

-- the faults of a drive that is not there, and of a broken one
abbrev pub no_drive_at : ℕ → ℕ → BusFault
no_drive_at d b = NoDrive (address d b)

abbrev pub broken_at : ℕ → ℕ → BusFault
broken_at d b = Broken (address d b)

-- the same fault of the drive d
abbrev pub renumbered : ℕ → BusFault → BusFault
renumbered d (NoDrive a) = NoDrive (address d a.block)
renumbered d (Length a) = Length (address d a.block)
renumbered d (Range a) = Range (address d a.block)
renumbered d (Broken a) = Broken (address d a.block)
