use Rattle.array.proofs.slot.GroupSlot.read.Goals as goal

pub returns-in-NoRedundancy : goal.returns-in-NoRedundancy
returns-in-NoRedundancy g c = rw c.in-NoRedundancy.is c.read.ensures

pub returns-in-Copy : goal.returns-in-Copy
returns-in-Copy g c = rw c.in-Copy.is c.read-in-Copy.ensures

pub returns-in-Xor : goal.returns-in-Xor
returns-in-Xor g c = rw c.in-Xor.is c.read-in-Xor.ensures
