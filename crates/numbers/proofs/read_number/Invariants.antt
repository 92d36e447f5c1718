-- The loop keeps what was gathered with what is left to read; its laws are in Gathers.
use Rattle.std.proofs.Common.{◌≡◌, take, drop}
use Rattle.numbers.specs.Numbers.{read_number}
use Rattle.numbers.proofs.Gathers.{after_groups, behind, GatheredSoFar}
use Rattle.numbers.proofs.read_number.Given as goal

abbrev pub invariant-loop-count : goal.invariant-loop-count
invariant-loop-count l =
    GatheredSoFar l.count l.group-items (behind (take l.count l.group-items) (after_groups l.count (drop l.next l.bytes)) ≡ read_number (drop l.at l.bytes))
