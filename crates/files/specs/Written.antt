-- A whole file written: the header, then the events one after another, up to the first refusal; and what reads back. Rests on the schedule's
-- writing and reading.
use Rattle.std.specs.Prelude.{◌≡◌, ◌≢◌, cond, List, [], ◌∷◌, ◌++◌, map, ℕ, ◌<◌, eqb, length, take, drop, Result, IsErrAnd}
use Rattle.std.proofs.Math.Option.{some}
use Rattle.record.specs.declared.Event.{Event}
use Rattle.record.specs.declared.Refusal.{Refusal}
use Rattle.record.specs.Refusal.{number_of}
use Rattle.schedule.specs.declared.Header.{Header}
use Rattle.schedule.specs.declared.Cursor.{Cursor}
use Rattle.schedule.specs.HeaderRead.{Got}
use Rattle.schedule.specs.Encoding.{Item, single, burst, event_bytes, file_bytes}
use Rattle.schedule.specs.Reading.{reading, file, read_file}
use Rattle.schedule.specs.Cursors.{start, header_at}
use Rattle.schedule.specs.Writing.{Wrote, wrote, room, written_header, written_event}
use Rattle.files.specs.Comes.{handed, handed_out}

-- "writes each into the rest of the output, then hands on"
unfoldable pub written_events : List Event → List ℕ → ℕ → Wrote
written_events [] output at = wrote output at 0
written_events (e ∷ events) output at =
    let w = written_event e output at in
    cond (eqb w.refusal 0) (written_events events w.output w.at) w

-- "The writer takes a header, then events of kinds 0 to 5"
unfoldable pub written_file : Header → List Event → List ℕ → Wrote
written_file h events output =
    let w = written_header h output 0 in
    cond (eqb w.refusal 0) (written_events events w.output w.at) w

-- the bytes up to the place for what comes next
abbrev pub written_bytes : Wrote → List ℕ
written_bytes w = take w.at w.output

-- "output unchanged": a refusal leaves output and place as they were
abbrev pub LeftAsFound : (output : List ℕ) (at : ℕ) → Wrote → Type 0
LeftAsFound output at w = w.refusal ≢ 0 → (w.output ≡ output) × (w.at ≡ at)

-- the writer's answer is the refusal of a number
abbrev pub RefusedWith : ℕ → Result ℕ Refusal → Type 0
RefusedWith n r = IsErrAnd r (λ refusal. number_of refusal ≡ n)

-- events as the items of a file, none of them a burst
abbrev pub singles : List Event → List Item
singles = map single

abbrev pub NoBurst : Item → Type 0
NoBurst (single e) = Unit
NoBurst (burst p count) = ⊥

-- ---- there and back

-- bytes read as an accepted file of this header and exactly these events, and the cursor reader hands out the header, the events one by one, and
-- then the end
pub record ReadsBack (s : List ℕ) (h : Header) (events : List Event) : Type 0 where
  pub accepted : read_file s ≡ file h (reading (singles events) [] 0)
  pub after_header : Cursor
  pub header : header_at s start ≡ Got h after_header
  pub one_by_one : (turns : ℕ) → length events < turns → handed_out turns s after_header ≡ handed events (some 0)

-- the front of an output, laid with a header and events
abbrev pub filled_with : Header → List Event → List ℕ → List ℕ
filled_with h events output = file_bytes h (singles events) ++ drop (length (file_bytes h (singles events))) output

-- writing came to an event for which too few bytes are left: those before it are written, of it and those after it nothing is
pub record StoppedAtEvent (h : Header) (events : List Event) (output : List ℕ) : Type 0 where
  pub done : List Event
  pub refused : Event
  pub rest : List Event
  pub split : events ≡ done ++ (refused ∷ rest)
  pub short : room output (length (file_bytes h (singles done))) < length (event_bytes refused)
  pub leaves : written_file h events output ≡ wrote (filled_with h done output) (length (file_bytes h (singles done))) 9
  pub reads_back : ReadsBack (written_bytes (written_file h events output)) h done
