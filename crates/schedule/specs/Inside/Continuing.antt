-- What the reader gives of an event that is partly read. Rests on Cursors.
use Rattle.std.specs.Prelude.{List, ℕ, drop, Result, Ok, Err}
use Rattle.record.specs.declared.Process.{Process}
use Rattle.record.specs.declared.Event.{Event}
use Rattle.record.specs.declared.Refusal.{Refusal}
use Rattle.record.specs.Refusal.{number_of}
use Rattle.numbers.specs.Numbers.{Read}
use Rattle.numbers.specs.ReadAt.{place_in}
use Rattle.schedule.specs.declared.Cursor.{Cursor}
use Rattle.schedule.specs.EventRead.{EventRead, Got, Refused}
use Rattle.schedule.specs.Encoding.{Item}
use Rattle.schedule.specs.Reading.{read_burst, read_rest, read_item, standing}
use Rattle.schedule.specs.Cursors.{event_read}

-- of the answer where an event must stand
abbrev pub item_told : Result (Event × Cursor) Refusal → EventRead
item_told (Ok x) = Got x.0 x.1
item_told (Err refusal) = Refused (number_of refusal)

-- an item, read or refused
abbrev pub read_as : List ℕ → Read Item → EventRead
read_as file r = event_read (place_in file) (standing r)

unfoldable pub burst_at : List ℕ → Process → ℕ → EventRead
burst_at file p at = read_as file (read_burst p (drop at file))

unfoldable pub rest_at : List ℕ → (kind : ℕ) → Process → ℕ → EventRead
rest_at file kind p at = read_as file (read_rest kind p (drop at file))

unfoldable pub item_at : List ℕ → ℕ → EventRead
item_at file at = read_as file (read_item (drop at file))
