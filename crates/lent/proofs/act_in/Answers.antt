-- The row is too short, or the process past the count, or its record is left advanced. Rests on Events, and on the table's laws of an event in a row.
use Rattle.std.proofs.Common.{sym}
use Rattle.table.specs.Words.{Memory}
use Rattle.table.specs.Events.{state_of, record_in}
use Rattle.table.proofs.Laws.Meets.{event_in_short_row}
use Rattle.words.specs.LentMemory.{memory_in}
use Rattle.lent.specs.Lent.{acted_of}
use Rattle.lent.proofs.Events.{past_count, in_row}
use Rattle.lent.proofs.act_in.Goals as goal

pub returns-then-row-sizes-clause-left : goal.returns-then-row-sizes-clause-left
returns-then-row-sizes-clause-left c =
    let lent : Memory = memory_in c.args.tables.now c.args.sizes in
    rw c.from.ensures (sym (event_in_short_row (state_of lent c.args.row.now) c.args.event c.if-row-sizes.true))

pub returns-then-sizes-process-clause-left : goal.returns-then-sizes-process-clause-left
returns-then-sizes-process-clause-left c =
    let lent : Memory = memory_in c.args.tables.now c.args.sizes in
    let after : Memory = memory_in c.act.new.tables c.args.sizes in
    rw c.from-then-sizes-process.ensures
    (past_count lent c.args.row.now c.args.event after c.act.result c.if-row-sizes.false c.if-sizes-process.true c.fresh-unread.result c.act.ensures.left)

pub returns-clause-left : goal.returns-clause-left
unfolding record_in
returns-clause-left c =
    let lent : Memory = memory_in c.args.tables.now c.args.sizes in
    let after : Memory = memory_in c.act_on.new.tables c.args.sizes in
    let left = acted_of c.act_on.new.record c.act_on.result in
    in_row lent c.args.row.now c.args.event after left c.if-row-sizes.false c.act_on.ensures.left
