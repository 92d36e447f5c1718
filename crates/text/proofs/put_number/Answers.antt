-- The space, then the digits into the rest. Rests on Puts.
use Rattle.std.proofs.Common.{rules}
use Rattle.text.proofs.Puts.{put_both, into_room}
use Rattle.text.proofs.put_number.Goals as goal

pub returns-clause-result_after : goal.returns-clause-result_after
returns-clause-result_after c = search (rules, into_room, put_both)
