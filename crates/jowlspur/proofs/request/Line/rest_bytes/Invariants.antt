use Rattle.std.proofs.Common.{◌≡◌, vec_items}
use Rattle.script.specs.Lines.{words}
use Rattle.jowlspur.specs.Language.{extended_all}
use Rattle.jowlspur.proofs.request.Line.rest_bytes.Given as goal

abbrev pub invariant-loop-word : goal.invariant-loop-word
invariant-loop-word l = extended_all (vec_items l.initial.bytes) (words l.initial.word-iterator.rest.now) ≡ extended_all (vec_items l.bytes) (words l.word-iterator.rest.now)
