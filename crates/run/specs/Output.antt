-- 01, "The run program": the bytes that it writes for any input. Rests on the schedule's reading, the place table's events and Text.
use Rattle.std.specs.Prelude.{cond, List, [], ◌∷◌, ◌++◌, ℕ, ◌+◌, eqb, length}
use Rattle.record.specs.declared.Event.{Event}
use Rattle.record.specs.declared.Outcome.{Outcome}
use Rattle.record.specs.declared.Outcome.TheVariants.{Refused}
use Rattle.table.specs.Events.{State, fresh, runs, outcomes}
use Rattle.table.specs.Chain.{chain_addresses}
use Rattle.schedule.specs.Encoding.{events_of}
use Rattle.schedule.specs.Reading.{bad_header, file, read_file}
use Rattle.text.specs.Text.{line, keys_line}

-- "Otherwise one line per event", numbered on from a number
unfoldable pub lines : ℕ → List Outcome → List ℕ
lines number [] = []
lines number (o ∷ os) = line number o ++ lines (number + 1) os

-- "4 to 6 do" stop the run, with a line of their own
unfoldable pub stop_line : ℕ → (ended : ℕ) → List ℕ
stop_line number ended = cond (eqb ended 0) [] (line number (Refused ended))

-- "The last line, also after 4 to 6 in an event, is `keys`": the lines of events, numbered on from a number, and the last line
unfoldable pub played : (number : ℕ) → State → List Event → (ended : ℕ) → List ℕ
played number σ events ended =
    lines number (outcomes σ events)
    ++ (stop_line (number + length events) ended ++ keys_line (chain_addresses (runs σ events).memory))

-- "The run program reads standard input. A bad header prints only `0 refused N`."
unfoldable pub output : (input : List ℕ) → List ℕ
output input =
    elim (read_file input) [
      | bad_header n ↦ line 0 (Refused n)
      | file h x ↦ played 0 (fresh h.nodes h.processes) (events_of x.items) x.ended
    ]
