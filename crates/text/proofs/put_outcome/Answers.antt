-- Of the end of a line, what stands between its first byte and its last (`text_put`). Rests on LineEnds and Puts.
use Rattle.std.proofs.Common.{rules}
use Rattle.text.proofs.LineEnds.{text_put}
use Rattle.text.proofs.Puts.{into_room}
use Rattle.text.proofs.put_outcome.Goals as goal

pub returns-clause-result_after : goal.returns-clause-result_after
returns-clause-result_after c = search (rules, into_room, text_put)
