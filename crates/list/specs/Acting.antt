-- What one event on one record leaves, spelt with the list's types: the place table's `Left`. Rests on the words' LentMemory.
use Rattle.table.specs.Words.{Memory}
use Rattle.table.specs.Events.{Left, leaving}
use Rattle.words.specs.LentMemory.{sized}
use Rattle.list.specs.declared.Acted.{Acted}

-- the memory that the lent tables then stand in, with the sizes that are handed back, the record and the outcome
abbrev pub left : Memory → Acted → Left
left m a = leaving (sized a.sizes m) a.advanced a.outcome
