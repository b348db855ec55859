use Rattle.std.proofs.Common.{◌≡◌, ◌^◌, ◌<◌, drop}
use Rattle.script.specs.Numerals.{and_then, value_after, fitting}
use Rattle.script.proofs.numbers.number.Given as goal

abbrev pub invariant-loop-digit : goal.invariant-loop-digit
invariant-loop-digit l = (and_then (value_after l.n (drop l.digit-index l.word)) fitting ≡ and_then (value_after 0 l.word) fitting) × (l.n < 2 ^ 64)
