-- What is written one event after another is the file's encoding, and reads back as it was written. Rests on Accepted.
use mathlib.Core.Path.{◌≡◌, refl, sym, ap, ◌∙◌}
use mathlib.Core.Logic.{◌↔◌}
use mathlib.Core.Bool.{cond}
use mathlib.Core.List.{List, [], ◌∷◌, ◌++◌, append_assoc}
use Prim.Native.Nat.{ℕ, ◌+◌, ◌≤◌, min}
use native.Mathlib.Nat.{add_assoc, add-zero, zero-add}
use native.Mathlib.Omega.{arith}
use borrow.Author.Tests.{le-leb}
use lib.Dec.{eqb}
use lib.ListN.{length, take, drop, length-append, length-take, length-drop, take-append-drop}
use lib.Seq.{take_at, drop_at, drop-drop, length-take-le, take-append_seam}
use Rattle.record.specs.declared.Event.{Event}
use Rattle.table.specs.Events.{sizes_fit}
use Rattle.basics.proofs.Tests.{if, if_le}
use Rattle.schedule.specs.declared.Header.{Header}
use Rattle.schedule.specs.Encoding.{Item, single, burst, header_bytes, event_bytes, item_bytes, items_bytes, file_bytes, events_of}
use Rattle.schedule.specs.Reading.{reading, file, read_file}
use Rattle.schedule.specs.Writing.{Wrote, wrote, room, laid, put_at, written_header, written_event}
use Rattle.files.specs.Fits.{Each, Bytes, HeaderFits, EventFits, ItemFits}
use Rattle.files.specs.Stands.{Encodes}
use Rattle.files.specs.Written.{written_events, written_file, written_bytes, singles, NoBurst}
use Rattle.files.proofs.Accepted.{accepted_file, encoding_read}

-- ---- bytes laid

-- "bytes past 65,536 count as absent"
abbrev pub limit : List ℕ → ℕ
limit output = min (length output) 65536

put_fits : (bytes output : List ℕ) (at : ℕ) → at + length bytes ≤ limit output
    → put_at bytes output at ≡ wrote (laid bytes output at) (at + length bytes) 0
unfolding put_at
put_fits bytes output at l = rw (le-leb (length bytes) (room output at) (omega arith))

pub length_laid : (bytes output : List ℕ) (at : ℕ) → at + length bytes ≤ length output → length (laid bytes output at) ≡ length output
length_laid bytes output at l = simp (length-append, length-take, length-drop) (omega arith)

-- bytes laid after bytes laid
pub laid_after : (b c output : List ℕ) (at : ℕ) → at ≤ length output → laid c (laid b output at) (at + length b) ≡ laid (b ++ c) output at
laid_after b c output at l =
    let head = take at output in
    let rest = drop (length b) (drop at output) in
    let n = at + length b in
    let long : length (head ++ b) ≡ n = omega (arith, length-append head b, length-take-le at output l) in
    rw (← append_assoc head b rest, take_at (head ++ b) rest n long, drop_at (head ++ b) rest n long)
    (simp (append_assoc, length-append, drop-drop, add_assoc))

-- ---- events, then a file

-- events written after something was, if that was not refused
abbrev pub and_then : List Event → Wrote → Wrote
and_then events w = cond (eqb w.refusal 0) (written_events events w.output w.at) w

-- all of these bytes are written
abbrev Lays : List ℕ → List ℕ → ℕ → Wrote → Type 0
Lays bytes output at w = w ≡ wrote (laid bytes output at) (at + length bytes) 0

then_written : (first rest output : List ℕ) (at : ℕ) (events : List Event)
    → ((output : List ℕ) (at : ℕ) → at + length rest ≤ limit output → Lays rest output at (written_events events output at))
    → at + length (first ++ rest) ≤ limit output → Lays (first ++ rest) output at (and_then events (put_at first output at))
then_written first rest output at events written l =
    let long : length (first ++ rest) ≡ length first + length rest = length-append first rest in
    let same : length (laid first output at) ≡ length output = length_laid first output at (omega arith) in
    let place : at + length first + length rest ≡ at + length (first ++ rest) = omega arith in
    ap (and_then events) (put_fits first output at (omega arith))
    ∙ written (laid first output at) (at + length first) (omega arith)
    ∙ (λ j. wrote (laid_after first rest output at (omega arith) j) (place j) 0)

events_written : (events : List Event) (output : List ℕ) (at : ℕ) → at + length (items_bytes (singles events)) ≤ limit output
    → Lays (items_bytes (singles events)) output at (written_events events output at)
unfolding written_events written_event items_bytes item_bytes
events_written [] output at l = sym (λ j. wrote (take-append-drop at output j) (add-zero at j) 0)
events_written (e ∷ events) output at l =
    then_written (event_bytes e) (items_bytes (singles events)) output at events (λ o a. events_written events o a) l

-- a header within the limits and events, with room for all of them, are written as the file's encoding at the front of the output
pub file_written : (h : Header) (events : List Event) (output : List ℕ) → HeaderFits h
    → length (file_bytes h (singles events)) ≤ min (length output) 65536
    → written_file h events output
    ≡ wrote (file_bytes h (singles events) ++ drop (length (file_bytes h (singles events))) output) (length (file_bytes h (singles events))) 0
unfolding written_file written_header file_bytes
file_written h events output fits l =
    rw fits
    (then_written (header_bytes h) (items_bytes (singles events)) output 0 events (events_written events) (omega arith)
    ∙ ap (λ (k : ℕ). wrote (laid (header_bytes h ++ items_bytes (singles events)) output 0) k 0) (zero-add _))

-- ---- what was not refused had room

then_room : (first rest output : List ℕ) (at : ℕ) (events : List Event)
    → ((output : List ℕ) (at : ℕ) → at ≤ limit output → (written_events events output at).refusal ≡ 0 → at + length rest ≤ limit output)
    → at ≤ limit output → (and_then events (put_at first output at)).refusal ≡ 0 → at + length (first ++ rest) ≤ limit output
unfolding put_at
then_room first rest output at events had_room l =
    if_le (λ (w : Wrote). (and_then events w).refusal ≡ 0 → at + length (first ++ rest) ≤ limit output) (length first) (room output at)
    (λ fits done.
    let same : length (laid first output at) ≡ length output = length_laid first output at (omega arith) in
    omega (arith, length-append first rest, had_room (laid first output at) (at + length first) (omega arith) done))
    (λ short done. absurd (omega arith))

events_room : (events : List Event) (output : List ℕ) (at : ℕ) → at ≤ limit output → (written_events events output at).refusal ≡ 0
    → at + length (items_bytes (singles events)) ≤ limit output
unfolding written_events written_event items_bytes item_bytes
events_room [] output at l done = omega arith
events_room (e ∷ events) output at l done =
    then_room (event_bytes e) (items_bytes (singles events)) output at events (λ o a. events_room events o a) l done

file_room : (h : Header) (events : List Event) (output : List ℕ) → (written_file h events output).refusal ≡ 0
    → HeaderFits h × (length (file_bytes h (singles events)) ≤ min (length output) 65536)
unfolding written_file written_header file_bytes
file_room h events output =
    if (λ (w : Wrote). (and_then events w).refusal ≡ 0 → HeaderFits h × (length (header_bytes h ++ items_bytes (singles events)) ≤ limit output))
    (sizes_fit h.nodes h.processes)
    (λ fits done.
    (fits, omega (arith, then_room (header_bytes h) (items_bytes (singles events)) output 0 events (events_room events) (omega arith) done)))
    (λ outside done. absurd (omega arith))

-- a file is written without refusal exactly if its header is within the limits and there is room for all of it
pub written_exactly : (h : Header) (events : List Event) (output : List ℕ)
    → ((written_file h events output).refusal ≡ 0)
    ↔ (HeaderFits h × (length (file_bytes h (singles events)) ≤ min (length output) 65536))
written_exactly h events output =
    (file_room h events output, λ x. ap (λ (w : Wrote). w.refusal) (file_written h events output x.0 x.1))

-- ---- there and back

pub singles_fit : (events : List Event) → Each EventFits events → Each ItemFits (singles events)
singles_fit [] fit = tt
singles_fit (e ∷ events) fit = (fit.0, singles_fit events fit.1)

-- events as items are handed out as they are
pub events_of_singles : (events : List Event) → events_of (singles events) ≡ events
unfolding events_of
events_of_singles [] = refl
events_of_singles (e ∷ events) = ap (λ (r : List Event). e ∷ r) (events_of_singles events)

-- items without a burst are their events
pub singles_of_events : (items : List Item) → Each NoBurst items → singles (events_of items) ≡ items
unfolding events_of
singles_of_events [] none = refl
singles_of_events (single e ∷ items) none = ap (λ (r : List Item). single e ∷ r) (singles_of_events items none.1)
singles_of_events (burst p count ∷ items) none = absurd none.0

-- a header and events written without refusal and read back are that header and these events, with no refusal
pub written_reads_back : (h : Header) (events : List Event) (output : List ℕ) → Each EventFits events
    → (written_file h events output).refusal ≡ 0
    → (read_file (written_bytes (written_file h events output)) ≡ file h (reading (singles events) [] 0))
    × (events_of (singles events) ≡ events)
written_reads_back h events output fit done =
    let bytes = file_bytes h (singles events) in
    let could : HeaderFits h × (length bytes ≤ min (length output) 65536) = (written_exactly h events output).0 done in
    let is : written_bytes (written_file h events output) ≡ bytes =
    ap written_bytes (file_written h events output could.0 could.1) ∙ take-append_seam bytes (drop (length bytes) output) in (
      ap read_file is
          ∙ encoding_read bytes h (singles events)
          (record { short = omega (arith, could.1); header_fits = could.0; items_fit = singles_fit events fit; bytes = refl }),
      events_of_singles events,
    )

-- an accepted file without bursts is written back byte for byte, over the front of any output that is as long
pub written_back : (s : List ℕ) (h : Header) (items : List Item) (output : List ℕ) → Bytes s
    → read_file s ≡ file h (reading items [] 0) → Each NoBurst items → length s ≤ length output
    → written_file h (events_of items) output ≡ wrote (s ++ drop (length s) output) (length s) 0
written_back s h items output bytes e none l =
    let t : Encodes s h items = (accepted_file s h items bytes).0 e in
    let is : file_bytes h (singles (events_of items)) ≡ s = ap (file_bytes h) (singles_of_events items none) ∙ sym t.bytes in
    file_written h (events_of items) output t.header_fits (omega (arith, ap length is, t.short))
    ∙ ap (λ (r : List ℕ). wrote (r ++ drop (length r) output) (length r) 0) is
