-- The reading starts, goes on and ends as Reading says.
use Rattle.std.proofs.Common.{arith}
use Rattle.chain.proofs.Reading.{read_start, read_on_lem, read_full, read_ends}
use Rattle.chain.proofs.Chain.read_into.Goals as goal

pub loop-read-init : goal.loop-read-init
loop-read-init c = read_start _ _ _ _

pub returns-in_default : goal.returns-in_default
returns-in_default c = read_ends _ _ _ _ _ _ _ c.loop-read.invariant _ c.onward-ahead.ensures c.in_default.not-Next

pub returns : goal.returns
returns c = read_full _ _ _ _ _ _ _ c.loop-read.invariant _ c.onward.ensures (omega arith)

pub loop-read-preserved : goal.loop-read-preserved
loop-read-preserved c = read_on_lem _ _ _ _ _ _ _ c.loop-read.invariant _ c.onward-ahead.ensures _ _ c.in-Next.is (omega arith)
