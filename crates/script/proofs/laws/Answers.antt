use Rattle.std.proofs.Common.{[]}
use Rattle.script.proofs.Back.{words_sound, words_back, numbers_back, runs_joined, runs_apart, bytes_back}
use Rattle.script.proofs.Triples.{triple_sound, triple_back}
use Rattle.script.proofs.laws.Goals as goal

pub returns : goal.returns
returns c = record {
  words = (λ line. words_sound [] line tt, words_back);
  numbers = numbers_back;
  triples = λ w x y z. (triple_sound w x y z, triple_back w x y z);
  runs = λ bs. (runs_joined bs, runs_apart bs);
  bytes = bytes_back;
}
