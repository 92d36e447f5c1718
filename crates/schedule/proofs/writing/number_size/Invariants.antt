-- The loop keeps the count so far with the bytes of the rest.
use Rattle.std.proofs.Common.{◌≡◌, ◌+◌, ◌≤◌, length}
use Rattle.numbers.specs.Numbers.{number_bytes}
use Rattle.schedule.proofs.writing.number_size.Given as goal

abbrev pub invariant-loop-size : goal.invariant-loop-size
invariant-loop-size l = (l.rest ≤ l.number) × (l.size + length (number_bytes l.rest) ≡ 1 + length (number_bytes l.number))
