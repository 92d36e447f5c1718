-- 01, "The writer": what it leaves of the output, with refusals 7 and 9. Rests on Encoding and on the refusals' numbers.
use Rattle.std.specs.Prelude.{cond, List, ◌++◌, ℕ, ◌+◌, ◌-◌, min, leb, length, take, drop, Result, Ok, Err}
use Rattle.basics.specs.Over.{over}
use Rattle.record.specs.declared.Event.{Event}
use Rattle.record.specs.declared.Refusal.{Refusal}
use Rattle.record.specs.Refusal.{number_of}
use Rattle.table.specs.Events.{sizes_fit}
use Rattle.schedule.specs.declared.Header.{Header}
use Rattle.schedule.specs.Encoding.{header_bytes, event_bytes}

-- what the writer leaves: the output, the place for what comes next, and the refusal's number, 0 for none
pub record Wrote : Type 0 where
  pub output : List ℕ
  pub at : ℕ
  pub refusal : ℕ

abbrev pub wrote : List ℕ → ℕ → ℕ → Wrote
wrote output at refusal = record { output = output; at = at; refusal = refusal }

-- "Where an answer is an enum, a definition sets out this paper's number and values for each of its cases.": of the writer's answer, the next
-- place with no refusal, or the refusal's number at the place as it was
abbrev pub answered : List ℕ → ℕ → Result ℕ Refusal → Wrote
answered output at (Ok next) = wrote output next 0
answered output at (Err refusal) = wrote output at (number_of refusal)

-- "A start past the output leaves none; bytes past 65,536 count as absent."
abbrev pub room : List ℕ → ℕ → ℕ
room output at = min (length output) 65536 - at

-- bytes laid at a place over what stands there
abbrev pub laid : List ℕ → List ℕ → ℕ → List ℕ
laid bytes output at = take at output ++ over bytes (drop at output)

-- "9: fewer bytes left than the header or event needs", "output unchanged"
unfoldable pub put_at : List ℕ → List ℕ → ℕ → Wrote
put_at bytes output at =
    cond (leb (length bytes) (room output at)) (wrote (laid bytes output at) (at + length bytes) 0) (wrote output at 9)

-- "The writer judges 7 (header sizes), then 9"
unfoldable pub written_header : Header → List ℕ → ℕ → Wrote
written_header h output at = cond (sizes_fit h.nodes h.processes) (put_at (header_bytes h) output at) (wrote output at 7)

-- "then events of kinds 0 to 5, and writes each into the rest of the output, then hands on"
unfoldable pub written_event : Event → List ℕ → ℕ → Wrote
written_event e output at = put_at (event_bytes e) output at
