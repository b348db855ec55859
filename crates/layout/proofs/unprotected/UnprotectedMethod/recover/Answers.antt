use Rattle.std.proofs.Common.{arith}
use Rattle.layout.specs.NoneLaw.{none_fixed}
use Rattle.layout.proofs.unprotected.UnprotectedMethod.recover.Goals as goal

pub returns : goal.returns
returns c = λ enough us u agree. none_fixed us c.args._missing.now c.args._blocks.now (omega (arith, u.many)) (omega (arith, u.many)) enough.few agree
