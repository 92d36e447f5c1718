-- The writer's refusals: a refused write leaves the output as it was; 7 and 9 are given exactly where 01 gives them; what was written before a
-- refused event reads back. Rests on Written and Comes.
use mathlib.Core.Path.{◌≡◌, refl, sym, ap, ◌∙◌}
use mathlib.Core.Logic.{◌≢◌, ◌⊎◌, inl, inr, ◌↔◌}
use mathlib.Core.Bool.{false, false≢true}
use mathlib.Core.List.{List, [], ◌∷◌, ◌++◌}
use Prim.Native.Nat.{ℕ, ◌+◌, ◌≤◌, ◌<◌}
use native.Mathlib.Nat.{add-zero, zero-add}
use native.Mathlib.Omega.{arith}
use lib.ListN.{length, drop, length-append, take-append-drop}
use lib.Seq.{take-append_seam}
use Rattle.std.specs.Prelude.{Result, Ok, Err}
use Rattle.record.specs.declared.Event.{Event}
use Rattle.record.specs.declared.Refusal.{Refusal}
use Rattle.record.specs.Refusal.{number_of}
use Rattle.table.specs.Events.{sizes_fit}
use Rattle.basics.proofs.Tests.{if, if_eq, if_le}
use Rattle.schedule.specs.declared.Header.{Header}
use Rattle.schedule.specs.Encoding.{header_bytes, event_bytes, item_bytes, items_bytes, file_bytes}
use Rattle.schedule.specs.Reading.{reading, file, read_file}
use Rattle.schedule.specs.Cursors.{start}
use Rattle.schedule.specs.Writing.{Wrote, wrote, answered, room, laid, put_at, written_header, written_event}
use Rattle.schedule.proofs.Unique.{Later, header_later, event_later}
use Rattle.files.specs.Fits.{Each, HeaderFits, EventFits}
use Rattle.files.specs.Stands.{Encodes}
use Rattle.files.specs.Written.{written_events, written_file, written_bytes, singles, LeftAsFound, RefusedWith, ReadsBack, filled_with, StoppedAtEvent}
use Rattle.files.proofs.Accepted.{encoding_read}
use Rattle.files.proofs.Comes.{file_handed_out}
use Rattle.files.proofs.Written.{limit, and_then, length_laid, laid_after, singles_fit, events_of_singles, written_reads_back}

-- ---- a header or an event, by what is written or refused

put_cases : (P : Wrote → Type 0) (bytes output : List ℕ) (at : ℕ)
    → (length bytes ≤ room output at → P (wrote (laid bytes output at) (at + length bytes) 0))
    → (room output at < length bytes → P (wrote output at 9)) → P (put_at bytes output at)
unfolding put_at
put_cases P bytes output at = if_le P (length bytes) (room output at)

event_cases : (P : Wrote → Type 0) (e : Event) (output : List ℕ) (at : ℕ)
    → (length (event_bytes e) ≤ room output at → P (wrote (laid (event_bytes e) output at) (at + length (event_bytes e)) 0))
    → (room output at < length (event_bytes e) → P (wrote output at 9)) → P (written_event e output at)
unfolding written_event
event_cases P e = put_cases P (event_bytes e)

header_cases : (P : Wrote → Type 0) (h : Header) (output : List ℕ) (at : ℕ)
    → (HeaderFits h → length (header_bytes h) ≤ room output at
    → P (wrote (laid (header_bytes h) output at) (at + length (header_bytes h)) 0))
    → (sizes_fit h.nodes h.processes ≡ false → P (wrote output at 7))
    → (HeaderFits h → room output at < length (header_bytes h) → P (wrote output at 9)) → P (written_header h output at)
unfolding written_header
header_cases P h output at written outside short =
    if P (sizes_fit h.nodes h.processes) (λ fits. put_cases P (header_bytes h) output at (written fits) (short fits)) outside

-- ---- "output unchanged"

pub refused_header_left_as_found : (h : Header) (output : List ℕ) (at : ℕ) → LeftAsFound output at (written_header h output at)
refused_header_left_as_found h output at =
    header_cases (LeftAsFound output at) h output at
    (λ fits l nonzero. absurd (nonzero refl)) (λ outside nonzero. (refl, refl)) (λ fits short nonzero. (refl, refl))

pub refused_event_left_as_found : (e : Event) (output : List ℕ) (at : ℕ) → LeftAsFound output at (written_event e output at)
refused_event_left_as_found e output at =
    event_cases (LeftAsFound output at) e output at (λ l nonzero. absurd (nonzero refl)) (λ short nonzero. (refl, refl))

-- ---- 7 and 9, "given exactly when"

-- "7 (header sizes)"
pub writing_header_7_exactly : (h : Header) (output : List ℕ) (at : ℕ)
    → ((written_header h output at).refusal ≡ 7) ↔ (sizes_fit h.nodes h.processes ≡ false)
writing_header_7_exactly h output at =
    header_cases (λ w. (w.refusal ≡ 7) ↔ (sizes_fit h.nodes h.processes ≡ false)) h output at
    (λ fits l. ((λ e. absurd (omega arith)), λ outside. absurd (false≢true (sym outside ∙ fits))))
    (λ outside. ((λ e. outside), λ e. refl))
    (λ fits short. ((λ e. absurd (omega arith)), λ outside. absurd (false≢true (sym outside ∙ fits))))

-- "then 9: fewer bytes left than the header or event needs"
pub writing_header_9_exactly : (h : Header) (output : List ℕ) (at : ℕ)
    → ((written_header h output at).refusal ≡ 9) ↔ (HeaderFits h × (room output at < length (header_bytes h)))
writing_header_9_exactly h output at =
    header_cases (λ w. (w.refusal ≡ 9) ↔ (HeaderFits h × (room output at < length (header_bytes h)))) h output at
    (λ fits l. ((λ e. absurd (omega arith)), λ x. absurd (omega (arith, x.1))))
    (λ outside. ((λ e. absurd (omega arith)), λ x. absurd (false≢true (sym outside ∙ x.0))))
    (λ fits short. ((λ e. (fits, short)), λ x. refl))

pub writing_event_9_exactly : (e : Event) (output : List ℕ) (at : ℕ)
    → ((written_event e output at).refusal ≡ 9) ↔ (room output at < length (event_bytes e))
writing_event_9_exactly e output at =
    event_cases (λ w. (w.refusal ≡ 9) ↔ (room output at < length (event_bytes e))) e output at
    (λ l. ((λ is. absurd (omega arith)), λ short. absurd (omega arith)))
    (λ short. ((λ is. short), λ x. refl))

-- and no other number
pub writing_header_7_or_9 : (h : Header) (output : List ℕ) (at : ℕ) → (written_header h output at).refusal ≢ 0
    → ((written_header h output at).refusal ≡ 7) ⊎ ((written_header h output at).refusal ≡ 9)
writing_header_7_or_9 h output at =
    header_cases (λ w. w.refusal ≢ 0 → (w.refusal ≡ 7) ⊎ (w.refusal ≡ 9)) h output at
    (λ fits l nonzero. absurd (nonzero refl)) (λ outside nonzero. inl refl) (λ fits short nonzero. inr refl)

pub writing_event_9_only : (e : Event) (output : List ℕ) (at : ℕ) → (written_event e output at).refusal ≢ 0
    → (written_event e output at).refusal ≡ 9
writing_event_9_only e output at =
    event_cases (λ w. w.refusal ≢ 0 → w.refusal ≡ 9) e output at (λ l nonzero. absurd (nonzero refl)) (λ short nonzero. refl)

-- ---- the code's answers: its promise is `answered left at r ≡ w`, where `left` is the output as it is left

-- an answer is a refusal with a number exactly if that is the refusal's number
refusal_answered : (w : Wrote) (left : List ℕ) (at : ℕ) (r : Result ℕ Refusal) (n : ℕ) → Later at w → answered left at r ≡ w
    → RefusedWith n r ↔ ((n ≢ 0) × (w.refusal ≡ n))
refusal_answered w left at (Ok next) n later is =
    let none : 0 ≡ w.refusal = λ j. (is j).refusal in
    ((λ e. absurd e), λ x. absurd (x.0 (sym x.1 ∙ sym none)))
refusal_answered w left at (Err refusal) n later is =
    let number : number_of refusal ≡ w.refusal = λ j. (is j).refusal in
    let here : at ≡ w.at = λ j. (is j).at in (
      (λ same. ((λ zero. absurd (omega (arith, later (sym number ∙ same ∙ zero)))), sym number ∙ same)),
      λ x. number ∙ x.1,
    )

answer_left : (w : Wrote) (output left : List ℕ) (at : ℕ) (r : Result ℕ Refusal) (n : ℕ) → Later at w → LeftAsFound output at w
    → answered left at r ≡ w → RefusedWith n r → left ≡ output
answer_left w output left at r n later as-found is refused =
    let number = (refusal_answered w left at r n later is).0 refused in
    left_is ∙ (as-found (λ e. number.0 (sym number.1 ∙ e))).0
  where
    output_of : (x : Result ℕ Refusal) → (answered left at x).output ≡ left
    output_of (Ok next) = refl
    output_of (Err refusal) = refl

    left_is : left ≡ w.output
    left_is = sym (output_of r) ∙ (λ j. (is j).output)

module _ (output left : List ℕ) (at : ℕ) (r : Result ℕ Refusal) (n : ℕ) where
  pub header_answer_refused : (h : Header) → answered left at r ≡ written_header h output at
      → RefusedWith n r ↔ ((n ≢ 0) × ((written_header h output at).refusal ≡ n))
  header_answer_refused h = refusal_answered (written_header h output at) left at r n (header_later h output at)

  pub event_answer_refused : (e : Event) → answered left at r ≡ written_event e output at
      → RefusedWith n r ↔ ((n ≢ 0) × ((written_event e output at).refusal ≡ n))
  event_answer_refused e = refusal_answered (written_event e output at) left at r n (event_later e output at)

  -- a header or an event that the code refused has left the output as it was
  pub header_answer_leaves : (h : Header) → answered left at r ≡ written_header h output at → RefusedWith n r → left ≡ output
  header_answer_leaves h =
      answer_left (written_header h output at) output left at r n (header_later h output at) (refused_header_left_as_found h output at)

  pub event_answer_leaves : (e : Event) → answered left at r ≡ written_event e output at → RefusedWith n r → left ≡ output
  event_answer_leaves e =
      answer_left (written_event e output at) output left at r n (event_later e output at) (refused_event_left_as_found e output at)

-- ---- what was written reads back, also where an event is refused

-- with a refused header nothing is written, and no event is judged
pub refused_header_writes_nothing : (h : Header) (events : List Event) (output : List ℕ) → (written_header h output 0).refusal ≢ 0
    → written_file h events output ≡ wrote output 0 (written_header h output 0).refusal
unfolding written_file
refused_header_writes_nothing h events output refused =
    let number = (written_header h output 0).refusal in
    let found = refused_header_left_as_found h output 0 refused in
    if_eq (λ (w : Wrote). w ≡ wrote output 0 number) number 0 (λ e. absurd (refused e)) (λ e j. wrote (found.0 j) (found.1 j) number)

-- after `first`, some of the events are written from a place on, and the next one is refused
record StopsAfter (first : List ℕ) (events : List Event) (output : List ℕ) (at : ℕ) (w : Wrote) : Type 0 where
  done : List Event
  refused : Event
  rest : List Event
  split : events ≡ done ++ (refused ∷ rest)
  had_room : at + length (first ++ items_bytes (singles done)) ≤ limit output
  short : room output (at + length (first ++ items_bytes (singles done))) < length (event_bytes refused)
  leaves : w ≡ wrote (laid (first ++ items_bytes (singles done)) output at) (at + length (first ++ items_bytes (singles done))) 9

-- seen from before `first`
stops_after : (first : List ℕ) (events : List Event) (output : List ℕ) (at : ℕ) (w : Wrote) → at + length first ≤ limit output
    → StopsAfter [] events (laid first output at) (at + length first) w → StopsAfter first events output at w
stops_after first events output at w l t =
    let bytes = items_bytes (singles t.done) in
    let long : length (first ++ bytes) ≡ length first + length bytes = length-append first bytes in
    let same : length (laid first output at) ≡ length output = length_laid first output at (omega arith) in
    let place : at + length first + length bytes ≡ at + length (first ++ bytes) = omega arith in
    record {
      done = t.done;
      refused = t.refused;
      rest = t.rest;
      split = t.split;
      had_room = omega (arith, t.had_room);
      short = omega (arith, t.short);
      leaves = t.leaves ∙ (λ j. wrote (laid_after first bytes output at (omega arith) j) (place j) 9);
    }

-- `first` was an event
stops_one_later : (e : Event) (events : List Event) (output : List ℕ) (at : ℕ) (w : Wrote) → StopsAfter (event_bytes e) events output at w
    → StopsAfter [] (e ∷ events) output at w
unfolding items_bytes item_bytes
stops_one_later e events output at w t =
    record {
      done = e ∷ t.done;
      refused = t.refused;
      rest = t.rest;
      split = ap (λ (r : List Event). e ∷ r) t.split;
      had_room = t.had_room;
      short = t.short;
      leaves = t.leaves;
    }

stops_here : (e : Event) (events : List Event) (output : List ℕ) (at : ℕ) → at ≤ limit output → room output at < length (event_bytes e)
    → StopsAfter [] (e ∷ events) output at (wrote output at 9)
unfolding items_bytes
stops_here e events output at l short =
    record {
      done = [];
      refused = e;
      rest = events;
      split = refl;
      had_room = omega arith;
      short = omega arith;
      leaves = sym (λ j. wrote (take-append-drop at output j) (add-zero at j) 9);
    }

-- bytes with room for them, then events of which one is refused
first_then_stops : (first : List ℕ) (events : List Event) (output : List ℕ) (at : ℕ)
    → ((o : List ℕ) (a : ℕ) → a ≤ limit o → (written_events events o a).refusal ≢ 0 → StopsAfter [] events o a (written_events events o a))
    → at ≤ limit output → length first ≤ room output at
    → (written_events events (laid first output at) (at + length first)).refusal ≢ 0
    → StopsAfter first events output at (written_events events (laid first output at) (at + length first))
first_then_stops first events output at stop l fits refused =
    let same : length (laid first output at) ≡ length output = length_laid first output at (omega arith) in
    stops_after first events output at (written_events events (laid first output at) (at + length first)) (omega arith)
    (stop (laid first output at) (at + length first) (omega arith) refused)

events_stop : (events : List Event) (output : List ℕ) (at : ℕ) → at ≤ limit output → (written_events events output at).refusal ≢ 0
    → StopsAfter [] events output at (written_events events output at)
unfolding written_events
events_stop [] output at l = λ refused. absurd (refused refl)
events_stop (e ∷ events) output at l =
    event_cases (λ w. (and_then events w).refusal ≢ 0 → StopsAfter [] (e ∷ events) output at (and_then events w)) e output at
    (λ fits refused.
    stops_one_later e events output at _ (first_then_stops (event_bytes e) events output at (λ o a. events_stop events o a) l fits refused))
    (λ short refused. stops_here e events output at l short)

-- a header that was not refused, then events of which one is
file_stops : (h : Header) (events : List Event) (output : List ℕ) → (written_header h output 0).refusal ≡ 0
    → (written_file h events output).refusal ≢ 0 → HeaderFits h × StopsAfter (header_bytes h) events output 0 (written_file h events output)
unfolding written_file
file_stops h events output =
    header_cases
    (λ w. w.refusal ≡ 0 → (and_then events w).refusal ≢ 0 → HeaderFits h × StopsAfter (header_bytes h) events output 0 (and_then events w))
    h output 0
    (λ fits l written refused. (fits, first_then_stops (header_bytes h) events output 0 (events_stop events) (omega arith) l refused))
    (λ outside written. absurd (omega arith))
    (λ fits short written. absurd (omega arith))

front_fits : (done rest : List Event) → Each EventFits (done ++ rest) → Each EventFits done
front_fits [] rest fit = tt
front_fits (e ∷ done) rest fit = (fit.0, front_fits done rest fit.1)

-- what is accepted is handed out by the cursor reader
accepted_reads_back : (s : List ℕ) (h : Header) (events : List Event) → read_file s ≡ file h (reading (singles events) [] 0) → ReadsBack s h events
accepted_reads_back s h events whole =
    let out = file_handed_out s h (reading (singles events) [] 0) start refl whole in
    record { accepted = whole; after_header = out.0; header = out.1; one_by_one = rw events_of_singles at out.2 }

stopped_at_event : (h : Header) (events : List Event) (output : List ℕ) → HeaderFits h → Each EventFits events
    → StopsAfter (header_bytes h) events output 0 (written_file h events output) → StoppedAtEvent h events output
unfolding file_bytes
stopped_at_event h events output fits fit t =
    let bytes = header_bytes h ++ items_bytes (singles t.done) in
    let from_0 : 0 + length bytes ≡ length bytes = zero-add (length bytes) in
    let leaves : written_file h events output ≡ wrote (filled_with h t.done output) (length bytes) 9 =
    t.leaves ∙ ap (λ (k : ℕ). wrote (laid bytes output 0) k 9) from_0 in
    let done-fit = front_fits t.done (t.refused ∷ t.rest) (rw t.split at fit) in
    let encodes : Encodes bytes h (singles t.done) =
    record { short = omega (arith, t.had_room); header_fits = fits; items_fit = singles_fit t.done done-fit; bytes = refl } in
    record {
      done = t.done;
      refused = t.refused;
      rest = t.rest;
      split = t.split;
      short = omega (arith, t.short);
      leaves = leaves;
      reads_back =
          rw (ap written_bytes leaves ∙ take-append_seam bytes (drop (length bytes) output))
          (accepted_reads_back bytes h t.done (encoding_read bytes h (singles t.done) encodes));
    }

-- a header and events written up to an event that is refused: what was written reads back, whole and by the cursor reader
pub refused_event_stops : (h : Header) (events : List Event) (output : List ℕ) → Each EventFits events
    → (written_header h output 0).refusal ≡ 0 → (written_file h events output).refusal ≢ 0 → StoppedAtEvent h events output
refused_event_stops h events output fit written refused =
    let t = file_stops h events output written refused in stopped_at_event h events output t.0 fit t.1

-- and so does a file that was written without refusal
pub written_file_reads_back : (h : Header) (events : List Event) (output : List ℕ) → Each EventFits events
    → (written_file h events output).refusal ≡ 0 → ReadsBack (written_bytes (written_file h events output)) h events
written_file_reads_back h events output fit done = accepted_reads_back _ h events (written_reads_back h events output fit done).0
