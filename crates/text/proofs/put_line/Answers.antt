-- The number, then the outcome into the rest. Rests on Puts and Lengths.
use Rattle.std.proofs.Common.{rules}
use Rattle.text.specs.Text.{line}
use Rattle.text.proofs.Lengths.{outcome_some}
use Rattle.text.proofs.Puts.{put_over, into_room}
use Rattle.text.proofs.put_line.Goals as goal

pub returns-clause-result_after : goal.returns-clause-result_after
unfolding line
returns-clause-result_after c = search (rules, into_room, put_over, outcome_some)
