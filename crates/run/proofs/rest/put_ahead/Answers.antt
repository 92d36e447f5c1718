-- The address of the next node, or the end of the line, by what lies ahead. Rests on Steps.
use Rattle.run.proofs.Steps.{address_put, newline_put}
use Rattle.run.proofs.rest.put_ahead.Goals as goal

pub returns-in_default-clause-puts_next : goal.returns-in_default-clause-puts_next
returns-in_default-clause-puts_next c =
    newline_put _ _ _ c.args.chain.now _ _ c.onward-ahead.ensures c.in_default.not-Next c.put_newline-count.ensures.result_after

pub returns-clause-puts_next : goal.returns-clause-puts_next
returns-clause-puts_next c = address_put _ _ _ c.args.chain.now _ _ c.onward-ahead.ensures _ _ c.in-Next.is c.put_address-count.ensures.result_after
