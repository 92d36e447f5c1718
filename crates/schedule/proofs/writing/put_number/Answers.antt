-- A turn that goes on leaves one byte more.
use Rattle.std.proofs.Common.{rules}
use Rattle.schedule.proofs.PutNumber.{one_put}
use Rattle.schedule.proofs.writing.put_number.Goals as goal

pub loop-at-preserved : goal.loop-at-preserved
loop-at-preserved c = search (rules, one_put)
