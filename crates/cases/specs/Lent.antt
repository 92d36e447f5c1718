-- What a case lends: of each table and of the row the first of an array. Rests on the lent memory.
use Rattle.std.specs.Prelude.{take}
use Rattle.table.specs.Events.{State, state_of}
use Rattle.words.specs.declared.Sizes.{Sizes}
use Rattle.words.specs.LentMemory.{lent_memory}
use Rattle.cases.specs.declared.reading.Case.{Case}

-- its state, with the sizes that are stated
abbrev pub lent_state : Case → Sizes → State
lent_state case sizes =
    state_of
    (lent_memory (take case.addresses.count case.addresses.items) (take case.links.count case.links.items)
    (take case.deleters.count case.deleters.items) sizes)
    (take case.row.count case.row.items)
