-- Each record takes no more bytes than its fields do.
use Rattle.std.proofs.Common.{◌+◌, ◌*◌, ◌≤◌}
use Rattle.cases.specs.Block.{record_room}
use Rattle.cases.proofs.writing.Block.gather_row.Given as goal

abbrev pub invariant-loop-record : goal.invariant-loop-record
invariant-loop-record l = l.self.used ≤ l.initial.self.used + l.record-index * record_room
