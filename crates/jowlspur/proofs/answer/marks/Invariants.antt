use Rattle.std.proofs.Common.{◌≡◌, ◌++◌, take, vec_items}
use Rattle.std.specs.List.{flat_map}
use Rattle.jowlspur.specs.Printing.{mark_of}
use Rattle.jowlspur.specs.Shelves.{on}
use Rattle.jowlspur.proofs.answer.marks.Given as goal

abbrev pub invariant-loop-d : goal.invariant-loop-d
invariant-loop-d l = vec_items l.out ≡ vec_items l.initial.out ++ flat_map (λ v. mark_of v.broken) (take l.d (on l.shelf))
