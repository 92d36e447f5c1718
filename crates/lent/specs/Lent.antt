-- What an event on a lent record leaves, spelt as the list's event by value answers it. Rests on the list's Acting.
use Rattle.record.specs.declared.Record.{Record}
use Rattle.list.specs.declared.Acted.{Acted}
use Rattle.lent.specs.declared.Said.{Said}

-- "one record is lent to the step and left advanced": the lent record afterwards and what is said are what the list's event by value answers
abbrev pub acted_of : Record → Said → Acted
acted_of advanced said = record { advanced = advanced; sizes = said.sizes; outcome = said.outcome }

-- what an event says, of what it leaves
abbrev pub said_of : Acted → Said
said_of a = record { sizes = a.sizes; outcome = a.outcome }
