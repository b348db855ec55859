use Rattle.array.proofs.kind.MethodKind.locate.Goals as goal

pub returns-in-NoRedundancy : goal.returns-in-NoRedundancy
returns-in-NoRedundancy c = rw c.in-NoRedundancy.is c.locate.ensures.place

pub returns-in-Copy : goal.returns-in-Copy
returns-in-Copy c = rw c.in-Copy.is c.locate-in-Copy.ensures.place

pub returns-in-Xor : goal.returns-in-Xor
returns-in-Xor c = rw c.in-Xor.is c.locate-in-Xor.ensures.place
