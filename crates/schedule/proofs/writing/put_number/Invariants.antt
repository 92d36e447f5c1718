-- The loop keeps the bytes so far with those to come; its laws are in PutNumber.
use Rattle.numbers.specs.Numbers.{number_bytes}
use Rattle.schedule.proofs.PutNumber.{Putting}
use Rattle.schedule.proofs.writing.put_number.Given as goal

abbrev pub invariant-loop-at : goal.invariant-loop-at
invariant-loop-at l = Putting (number_bytes l.number) l.fn.out l.out l.rest l.at
