-- The line, then the word `keys` into the rest. Rests on LastTexts.
use Rattle.std.proofs.Common.{rules}
use Rattle.run.proofs.LastTexts.{stopped_put}
use Rattle.run.proofs.lines.put_stopped.Goals as goal

pub returns-clause-result_after : goal.returns-clause-result_after
returns-clause-result_after c = rw (← c.from.ensures) (search (rules, stopped_put))
