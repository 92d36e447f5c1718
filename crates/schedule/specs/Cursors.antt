-- Reading by a cursor: the header, and one event after another, a burst handed out as its steps. Rests on Reading, HeaderRead and EventRead.
use Rattle.std.specs.Prelude.{cond, List, [], ℕ, ◌-◌, ltb, length, drop}
use Rattle.record.specs.Record.{process}
use Rattle.record.specs.declared.Process.{Process}
use Rattle.record.specs.Event.{event_of}
use Rattle.record.specs.declared.Action.TheVariants.{Step}
use Rattle.numbers.specs.Numbers.{Read, got, stops}
use Rattle.numbers.specs.ReadAt.{place_in}
use Rattle.schedule.specs.declared.Header.{Header}
use Rattle.schedule.specs.declared.Cursor.{Cursor}
use Rattle.schedule.specs.HeaderRead.{HeaderRead}
use Rattle.schedule.specs.HeaderRead as header
use Rattle.schedule.specs.EventRead.{EventRead}
use Rattle.schedule.specs.EventRead as event
use Rattle.schedule.specs.Encoding.{single, burst}
use Rattle.schedule.specs.Reading.{read_header, NextItem, end, item, refuses, next_item}

-- at a place, in a burst of which so many steps are left
abbrev pub cursor_in : (at : ℕ) → Process → (left : ℕ) → Cursor
cursor_in at p left = record { at = at; process = p; left = left }

-- at a place, outside a burst
abbrev pub cursor_at : ℕ → Cursor
cursor_at at = cursor_in at (process 0) 0

-- before the header
abbrev pub start : Cursor
start = cursor_at 0

-- ---- the answers, by what was read, and the place of the bytes left

-- a header with the cursor after it, or the refusal's number
abbrev pub header_read : (place : List ℕ → ℕ) → Read Header → HeaderRead
header_read place (got h left) = header.Got h (cursor_at (place left))
header_read place (stops n) = header.Refused n

-- the end, an event with the cursor after it, or the refusal's number; a burst is "read as that many kind 3 events": the first at once, the others
-- from the cursor
abbrev pub event_read : (place : List ℕ → ℕ) → NextItem → EventRead
event_read place end = event.End
event_read place (item (single e) left) = event.Got e (cursor_at (place left))
event_read place (item (burst p count) left) = event.Got (event_of p Step) (cursor_in (place left) p (count - 1))
event_read place (refuses n) = event.Refused n

-- ---- at a place of a file

-- "For a file: 7 for length, header numbers, 7 for sizes"
unfoldable pub header_at : List ℕ → Cursor → HeaderRead
header_at file c = header_read (place_in file) (cond (ltb 65536 (length file)) (stops 7) (read_header (drop c.at file)))

-- in a burst, the steps left of it are read, and no byte
unfoldable pub event_at : List ℕ → Cursor → EventRead
event_at file c =
    cond (ltb 0 c.left) (event_read (λ left. c.at) (item (burst c.process c.left) []))
    (event_read (place_in file) (next_item (drop c.at file)))
