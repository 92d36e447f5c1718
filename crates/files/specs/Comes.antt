-- What a file has still to hand out from a cursor on: its events, and how it ends. Rests on the schedule's reading.
use Rattle.std.specs.Prelude.{List, [], ◌∷◌, ◌++◌, ℕ, zero, suc, drop, replicate}
use Rattle.std.proofs.Math.Option.{Option, none, some}
use Rattle.record.specs.Event.{event_of}
use Rattle.record.specs.declared.Action.TheVariants.{Step}
use Rattle.record.specs.declared.Event.{Event}
use Rattle.schedule.specs.declared.Cursor.{Cursor}
use Rattle.schedule.specs.EventRead as event
use Rattle.schedule.specs.Encoding.{events_of}
use Rattle.schedule.specs.Reading.{read_all}
use Rattle.schedule.specs.Cursors.{event_at}

-- the events to come: the steps left of a burst, then the events of the items after the cursor
unfoldable pub comes : (file : List ℕ) → Cursor → List Event
comes file c = replicate c.left (event_of c.process Step) ++ events_of (read_all (drop c.at file)).items

-- how it will end: 0 at the end of the file, else the refusal's number
unfoldable pub ends : (file : List ℕ) → Cursor → ℕ
ends file c = (read_all (drop c.at file)).ended

-- ---- what the cursor reader hands out, one answer after another

-- the events handed out, and how it ended, none where it has not
pub record HandedOut : Type 0 where
  pub events : List Event
  pub ended : Option ℕ

abbrev pub handed : List Event → Option ℕ → HandedOut
handed events ended = record { events = events; ended = ended }

-- one event before the others
abbrev pub first_then : Event → HandedOut → HandedOut
first_then e x = handed (e ∷ x.events) x.ended

-- in so many turns
unfoldable pub handed_out : (turns : ℕ) → (file : List ℕ) → Cursor → HandedOut
handed_out zero file c = handed [] none
handed_out (suc turns) file c =
    elim (event_at file c) [
      | event.Got e next ↦ first_then e (handed_out turns file next)
      | event.End ↦ handed [] (some 0)
      | event.Refused n ↦ handed [] (some n)
    ]
