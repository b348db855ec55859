use Rattle.bus.proofs.Worsening.{worse_refl, worse_trans, worse_sound, reads_worsen, faults_worsen, writes_elsewhere, write_then_read}
use Rattle.std.proofs.Common.{length}
use Rattle.bus.proofs.laws.laws_stand.Goals as goal

pub returns : goal.returns
returns c = record {
  nothing = worse_refl;
  twice = worse_trans;
  sound = worse_sound;
  reads = reads_worsen;
  refused = λ s t d b xs e. faults_worsen s t d b (length xs) e;
  elsewhere = writes_elsewhere;
  stored = write_then_read;
}
