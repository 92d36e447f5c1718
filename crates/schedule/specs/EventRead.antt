-- What reading an event answers, in numbers. Rests on the declared types and on the refusals' numbers.
use Rattle.std.specs.Prelude.{ℕ, Option, Some, None, Result, Ok, Err}
use Rattle.record.specs.declared.Event.{Event}
use Rattle.record.specs.declared.Refusal.{Refusal}
use Rattle.record.specs.Refusal.{number_of}
use Rattle.schedule.specs.declared.Cursor.{Cursor}

-- an event with the cursor after it, the end of the file, or the refusal's number
pub data EventRead : Type 0 where
  Got : Event → Cursor → EventRead
  End : EventRead
  Refused : (refusal : ℕ) → EventRead

-- "Where an answer is an enum, a definition sets out this paper's number and values for each of its cases.": of the reader's answer
abbrev pub event_told : Result (Option (Event × Cursor)) Refusal → EventRead
event_told (Ok (Some x)) = Got x.0 x.1
event_told (Ok None) = End
event_told (Err refusal) = Refused (number_of refusal)
