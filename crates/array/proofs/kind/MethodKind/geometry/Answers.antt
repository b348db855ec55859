use Rattle.array.proofs.kind.MethodKind.geometry.Goals as goal

pub returns-in-NoRedundancy : goal.returns-in-NoRedundancy
returns-in-NoRedundancy c = rw c.in-NoRedundancy.is c.new.ensures

pub returns-in-Copy : goal.returns-in-Copy
returns-in-Copy c = rw c.in-Copy.is c.new-in-Copy.ensures

pub returns-in-Xor : goal.returns-in-Xor
returns-in-Xor c = rw c.in-Xor.is c.new-in-Xor.ensures
