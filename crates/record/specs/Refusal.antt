-- The refusals of 01, each with its number: "Where an answer is an enum, a definition sets out this paper's number and values for each of its
-- cases." Rests on the declared type alone.
use Rattle.std.specs.Prelude.{ℕ}
use Rattle.record.specs.declared.Refusal.{Refusal}
use Rattle.record.specs.declared.Refusal.TheVariants.{NoSuchProcess, WrongStatus, NoNodeLeft, CutShort, BadEvent, BadNumber, BadSizes, Broken, NoRoom}

abbrev pub number_of : Refusal → ℕ
-- "process number not below the process count"
number_of NoSuchProcess = 1
-- "status is not the one the event needs"
number_of WrongStatus = 2
-- "insert, and the count equals the number of nodes"
number_of NoNodeLeft = 3
-- "the file ends inside the header or an event"
number_of CutShort = 4
-- "kind above 6, or burst count not 1 to 255"
number_of BadEvent = 5
-- "a number not in shortest form, or above 4,294,967,295"
number_of BadNumber = 6
-- "sizes outside the limits, a lent table too short, count below 2 or above the nodes, file too long"
number_of BadSizes = 7
-- "a step on a broken record or word"
number_of Broken = 8
-- "the writer's output too short"
number_of NoRoom = 9
