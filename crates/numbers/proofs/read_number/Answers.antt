-- A turn that goes on keeps what was gathered.
use Rattle.std.proofs.Common.{rules}
use Rattle.numbers.proofs.Gathers.{group_more}
use Rattle.numbers.proofs.read_number.Goals as goal

pub loop-count-preserved : goal.loop-count-preserved
loop-count-preserved c = search (rules, group_more)
