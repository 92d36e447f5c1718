-- What fits is put whole. Rests on Lays.
use native.Mathlib.Omega.{arith}
use Rattle.schedule.proofs.Lays.{all_put}
use Rattle.schedule.proofs.writing.put_event.Goals as goal

pub returns : goal.returns
returns c = all_put _ _ _ _ _ c.size-needed.ensures c.room-left.ensures _ (omega arith) c.put_numbers.ensures
