-- Filling stands at the start, where no event is to come. Rests on Steps.
use Rattle.run.proofs.Steps.{from_start}
use Rattle.run.proofs.fill_first.Goals as goal

pub returns-in-Refusing-clause-left_off : goal.returns-in-Refusing-clause-left_off
returns-in-Refusing-clause-left_off c = from_start _ _ _
