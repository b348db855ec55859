use Rattle.controller.proofs.Running.{goes}
use Rattle.controller.proofs.perform.perform.Goals as goal

pub returns : goal.returns
returns g c = goes _ _ _ _ _ c.answer.ensures
