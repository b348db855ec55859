-- The numbers of the refusals, and their sense. Assumes nothing.
use Rattle.std.specs.Prelude.{ℕ, Bool, true, false, Some, None, Option}
use Rattle.array.specs.declared.refusal.Refusal.{Refusal}
use Rattle.array.specs.declared.refusal.Refusal.TheVariants.{Field, NoDrive, NotConfigured, ShortBuffer, Outside, Conflict, Broken, WritesDisabled, LostReading, LostWriting}
use Rattle.array.specs.declared.refusal.Sense.{Sense}
use Rattle.array.specs.declared.refusal.Refused.{Refused}

-- the number of the check that failed
abbrev pub number_of : Refusal → ℕ
number_of Field = 3
number_of NoDrive = 4
number_of NotConfigured = 5
number_of ShortBuffer = 6
number_of Outside = 7
number_of Conflict = 8
number_of Broken = 9
number_of WritesDisabled = 10
number_of LostReading = 11
number_of LostWriting = 11

abbrev pub sense : ℕ → ℕ → Option Sense
sense key code = Some (record { key = key; code = code; qualifier = 0 })

-- what a host is told; no command of a host leads to 8 or 9
abbrev pub sense_of : Refusal → Option Sense
sense_of Field = sense 5 0x24
sense_of NoDrive = sense 5 0x25
sense_of NotConfigured = sense 5 0x68
sense_of ShortBuffer = sense 5 0x24
sense_of Outside = sense 5 0x21
sense_of Conflict = None
sense_of Broken = None
sense_of WritesDisabled = sense 7 0x27
sense_of LostReading = sense 3 0x11
sense_of LostWriting = sense 3 0x0c

-- drives have to do with the refusal
abbrev pub of_drives : Refusal → Bool
of_drives Field = false
of_drives NoDrive = false
of_drives NotConfigured = false
of_drives ShortBuffer = false
of_drives Outside = false
of_drives Conflict = false
of_drives Broken = true
of_drives WritesDisabled = false
of_drives LostReading = true
of_drives LostWriting = true

-- a refusal with no drive to blame
abbrev pub plain : Refusal → Refused
plain x = record { refusal = x; fault = None }
