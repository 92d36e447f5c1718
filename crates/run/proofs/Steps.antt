-- What comes next in a run, by what its reader, its list and its walk gave. Rests on Pieces, on the table's law of an event in a row (Meets) and on
-- what the walk was told (the chain's Walks).
use Prim.Native.Nat.{ℕ, suc, ◌-◌, ◌≤◌}
use mathlib.Core.List.{List, [], ◌∷◌}
use mathlib.Core.Bool.{true, false, false≢true}
use mathlib.Core.Path.{◌≡◌, refl, ap, sym, ◌∙◌}
use native.Mathlib.Omega.{arith}
use borrow.Author.Tests.{ltb-true, ltb-false}
use lib.ListN.{length, length-append}
use Rattle.std.specs.Prelude.{Option, Some, None, Result, Ok, Err}
use Rattle.record.specs.declared.Refusal.{Refusal}
use Rattle.record.specs.Refusal.{number_of}
use Rattle.record.specs.declared.Node.{Node}
use Rattle.record.specs.declared.Address.{Address}
use Rattle.record.specs.declared.Event.{Event}
use Rattle.record.specs.declared.Record.{Record}
use Rattle.record.specs.declared.Outcome.{Outcome}
use Rattle.record.specs.declared.Outcome.TheVariants as outcome
use Rattle.table.specs.Words.{Memory}
use Rattle.table.specs.Events.{state_of, leaves_in, event}
use Rattle.words.specs.LentMemory.{sized}
use Rattle.words.specs.declared.Sizes.{Sizes}
use Rattle.schedule.specs.declared.Cursor.{Cursor}
use Rattle.schedule.specs.EventRead.{EventRead, event_told}
use Rattle.schedule.specs.EventRead as read
use Rattle.schedule.specs.declared.Header.{Header}
use Rattle.schedule.specs.HeaderRead.{header_told}
use Rattle.schedule.specs.HeaderRead as header
use Rattle.schedule.specs.Cursors.{start, header_at, event_at}
use Rattle.fresh.specs.Fresh.{Made, tables_left, fresh_sizes, fresh_tables}
use Rattle.chain.specs.Walking.{memory_with, ahead_from}
use Rattle.chain.specs.declared.Chain.{Chain}
use Rattle.chain.specs.declared.Ahead.{Ahead}
use Rattle.chain.specs.declared.Ahead.TheVariants as ahead
use Rattle.chain.proofs.Walks.{Stops, told_next, told_stops}
use Rattle.text.specs.Text.{line, keys_word, decimal, space, newline}
use Rattle.text.specs.Put.{put, put_into}
use Rattle.text.proofs.Lengths.{line_some}
use Rattle.run.specs.declared.Phase.{Phase}
use Rattle.run.specs.declared.Phase.TheVariants.{Refusing, Acting, Walking, Over}
use Rattle.run.specs.declared.Run.{Run}
use Rattle.run.specs.Filling.{piece, nothing, stop, fill_from}
use Rattle.run.specs.Pieces.{World, world, run_of, memory_of, table_of, in_phase, next_number, went_on, to_walk}
use Rattle.run.specs.Pieces.{event_next, put_ahead, address_next, next_piece, fills, refusing, start_of, begins}
use Rattle.run.specs.PrivatePromises.{Ready, HasPiece, stops_at, PutsNext, stopped_text, last_text}
use Rattle.run.proofs.Fills.{FillsTo, full, at_end}

-- ---- the pieces

pub acting_piece : (file : List ℕ) (w : World) → w.run.phase ≡ Acting → next_piece file w ≡ event_next file w
unfolding next_piece
acting_piece file w e = rw e

pub got_piece : (file : List ℕ) (w : World) (e : Event) (next : Cursor) → event_at file w.run.cursor ≡ read.Got e next
    → event_next file w ≡ piece (line w.run.number (event (table_of w) e).outcome) (went_on w next (event (table_of w) e).after)
unfolding event_next
got_piece file w e next h = rw (h, event_next)

-- the world after an event, as the code leaves it, and its line
pub acted_piece : (file : List ℕ) (m : Memory) (run : Run) (e : Event) (next : Cursor) (m' : Memory) (sizes : Sizes) (row : List Record)
    (o : Outcome) (number : ℕ) → run.phase ≡ Acting → event_at file run.cursor ≡ read.Got e next
    → leaves_in (state_of (sized sizes m') row) o ≡ event (table_of (world m run)) e → number ≡ next_number run.number
    → next_piece file (world m run) ≡ piece (line run.number o) (world m' (run_of run.phase next sizes number row))
acted_piece file m run e next m' sizes row o number acting got is following =
    acting_piece file (world m run) acting ∙ got_piece file (world m run) e next got ∙ rw (following, ← is)

-- what follows the last event
pub end_next : (file : List ℕ) (w : World) → event_at file w.run.cursor ≡ read.End → event_next file w ≡ piece keys_word (to_walk w)
unfolding event_next
end_next file w h = rw (h, event_next)

pub refused_next : (file : List ℕ) (w : World) (n : ℕ) → event_at file w.run.cursor ≡ read.Refused n
    → event_next file w ≡ piece (stopped_text w.run.number n) (to_walk w)
unfolding event_next stopped_text
refused_next file w n h = rw (h, event_next)

abbrev pub Answer : Type 0
Answer = Result (Option (Event × Cursor)) Refusal

abbrev pub NotGot : Answer → Type 0
NotGot r = (x : Event × Cursor) → r ≡ Ok (Some x) → ⊥

pub last_next : (file : List ℕ) (w : World) (r : Answer) → event_at file w.run.cursor ≡ event_told r → NotGot r
    → event_next file w ≡ piece (last_text w.run.number (event_told r)) (to_walk w)
unfolding last_text
last_next file w (Ok (Some x)) is h = absurd (h x refl)
last_next file w (Ok None) is h = end_next file w is
last_next file w (Err refusal) is h = refused_next file w (number_of refusal) is

pub last_piece : (file : List ℕ) (w : World) (r : Answer) → w.run.phase ≡ Acting → event_told r ≡ event_at file w.run.cursor → NotGot r
    → next_piece file w ≡ piece (last_text w.run.number (event_told r)) (to_walk w)
last_piece file w r acting is h = acting_piece file w acting ∙ last_next file w r (sym is) h

pub last_some : (number : ℕ) (r : Answer) → NotGot r → 1 ≤ length (last_text number (event_told r))
unfolding last_text stopped_text
last_some number (Ok (Some x)) h = absurd (h x refl)
last_some number (Ok None) h = omega arith
last_some number (Err refusal) h = simp length-append (omega arith)

-- the refusal of a header
pub refusal_piece : (file : List ℕ) (w : World) (n : ℕ) → w.run.phase ≡ Refusing n
    → next_piece file w ≡ piece (line 0 (outcome.Refused n)) (in_phase Over w)
unfolding next_piece
refusal_piece file w n e = rw e

pub over_nothing : (file : List ℕ) (w : World) → w.run.phase ≡ Over → next_piece file w ≡ nothing
unfolding next_piece
over_nothing file w e = rw e

-- ---- the walk

pub walking_piece : (file : List ℕ) (w : World) (n : Node) → w.run.phase ≡ Walking n → next_piece file w ≡ address_next w n
unfolding next_piece
walking_piece file w n e = rw e

-- by the promise of `onward`
module _ (w : World) (file : List ℕ) (n : Node) (walking : w.run.phase ≡ Walking n) (x : Ahead) (told : x ≡ ahead_from (memory_of w) n) where
  pub onto_piece : (next : Node) (a : Address) → x ≡ ahead.Next next a
      → next_piece file w ≡ piece (space ∷ decimal a.0) (in_phase (Walking next) w)
  unfolding address_next
  onto_piece next a e =
      let met = told_next (memory_of w) n x told next a e in
      walking_piece file w n walking ∙ rw met.1 (ap (put_ahead w) met.0)

  pub end_piece : Stops x → next_piece file w ≡ piece (newline ∷ []) (in_phase Over w)
  unfolding address_next
  end_piece stops =
      walking_piece file w n walking
      ∙ told_stops (memory_of w) n x told (λ y. put_ahead w y ≡ piece (newline ∷ []) (in_phase Over w)) stops refl refl refl

-- ---- how a run begins

-- what the reader answers at the start
pub header_is : (file : List ℕ) (at : Cursor) (read known : Result (Header × Cursor) Refusal) → at ≡ start → header_told read ≡ header_at file at
    → read ≡ known → header_at file start ≡ header_told known
header_is file at read known from told is = rw (← from, ← told, is)

-- by the header, and the tables made fresh
module _ (file : List ℕ) (m : Memory) where
  pub begin_got : (m' : Memory) (h : Header) (next : Cursor) (made : Made) → header_at file start ≡ header.Got h next
      → tables_left m' made ≡ fresh_tables (sized (fresh_sizes h.nodes h.processes) m) → world m' (start_of next made) ≡ begins file m
  unfolding begins
  begin_got m' h next made got fresh = rw (got, begins, ← fresh)

  pub begin_refused : (number : ℕ) → header_at file start ≡ header.Refused number → world m (refusing number) ≡ begins file m
  unfolding begins
  begin_refused number refused = rw (refused, begins)

-- ---- where filling stands

-- at the start
pub from_start : (file : List ℕ) (w : World) (block : List ℕ) → FillsTo (next_piece file) w block 0 (fills file w block)
unfolding fills
from_start file w block = record { turns = suc (length block); enough = omega arith; same = refl }

-- without room for a piece, or with none left, filling stops
pub stops_here : (file : List ℕ) (w : World) (block : List ℕ) (at turns : ℕ) → stops_at (length block - at) w.run.phase ≡ true
    → stop w block at ≡ fill_from (next_piece file) turns w block at
stops_here file w block at turns told = by w.run.phase refl told
  where
    by : (phase : Phase) → w.run.phase ≡ phase → stops_at (length block - at) phase ≡ true
        → stop w block at ≡ fill_from (next_piece file) turns w block at
    by (Refusing n) e t = full (next_piece file) w block at turns (ltb-true _ _ t)
    by Acting e t = full (next_piece file) w block at turns (ltb-true _ _ t)
    by (Walking n) e t = full (next_piece file) w block at turns (ltb-true _ _ t)
    by Over e t = at_end (next_piece file) w block at turns (over_nothing file w e)

-- otherwise there is room, and a piece comes, where no event is left for it
pub still_comes : (room : ℕ) (phase : Phase) → stops_at room phase ≡ false → Ready phase room → (64 ≤ room) × HasPiece phase
still_comes room (Refusing n) told ready = (ltb-false _ _ told, tt)
still_comes room Acting told ready = absurd (let h : 64 ≤ room = ltb-false _ _ told in omega arith)
still_comes room (Walking n) told ready = (ltb-false _ _ told, tt)
still_comes room Over told ready = absurd (false≢true (sym told))

-- ---- the pieces that no event puts

module _ (part left : List ℕ) (count : ℕ) where
  pub refusal_put : (chain : Chain) (phase : Phase) (number : ℕ) → phase ≡ Refusing number
      → put left count ≡ put_into (line 0 (outcome.Refused number)) part → PutsNext chain phase part left count Over
  refusal_put chain phase number is placed file m cursor n row = record {
    bytes = line 0 (outcome.Refused number);
    comes = refusal_piece file _ number is;
    some = line_some 0 (outcome.Refused number);
    placed = placed;
    ready = λ room. tt;
  }

  module _ (chain : Chain) (n : Node) (x : Ahead) (told : (m : Memory) → x ≡ ahead_from (memory_with chain m) n) where
    pub address_put : (next : Node) (a : Address) → x ≡ ahead.Next next a → put left count ≡ put_into (space ∷ decimal a.0) part
        → PutsNext chain (Walking n) part left count (Walking next)
    address_put next a is placed file m cursor number row = record {
      bytes = space ∷ decimal a.0;
      comes = onto_piece _ file n refl x (told m) next a is;
      some = omega arith;
      placed = placed;
      ready = λ room. tt;
    }

    pub newline_put : Stops x → put left count ≡ put_into (newline ∷ []) part → PutsNext chain (Walking n) part left count Over
    newline_put stops placed file m cursor number row = record {
      bytes = newline ∷ [];
      comes = end_piece _ file n refl x (told m) stops;
      some = omega arith;
      placed = placed;
      ready = λ room. tt;
    }
