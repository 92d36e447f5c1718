-- The pieces of a run's output: what comes next, wherever the run stands, and how a run begins. Rests on the schedule's cursors, the place
-- table's events, the walk along the chain and the text.
use Rattle.std.specs.Prelude.{cond, Ok, Err, List, [], ◌∷◌, ◌++◌, ℕ, suc, ◌+◌, ltb, length, replicate}
use Rattle.record.specs.Record.{fresh_record, head_node}
use Rattle.record.specs.declared.Node.{Node}
use Rattle.record.specs.declared.Record.{Record}
use Rattle.record.specs.declared.Outcome.TheVariants as outcome
use Rattle.record.specs.Refusal.{number_of}
use Rattle.table.specs.Words.{Memory, address_at}
use Rattle.table.specs.Chain.{Ahead, onto, tail_ahead, not_in_use, not_above, ahead}
use Rattle.table.specs.Events.{State, state_of, event}
use Rattle.words.specs.LentMemory.{sized, sizes_of}
use Rattle.words.specs.declared.Sizes.{Sizes}
use Rattle.fresh.specs.Fresh.{Made, fresh_sizes, fresh_tables}
use Rattle.schedule.specs.declared.Cursor.{Cursor}
use Rattle.schedule.specs.EventRead as read
use Rattle.schedule.specs.HeaderRead as header
use Rattle.schedule.specs.Cursors.{start, header_at, event_at}
use Rattle.text.specs.Text.{line, decimal, keys_word, space, newline}
use Rattle.run.specs.declared.Phase.{Phase}
use Rattle.run.specs.declared.Phase.TheVariants.{Refusing, Acting, Walking, Over}
use Rattle.run.specs.declared.Run.{Run}
use Rattle.run.specs.Filling.{NextPiece, piece, nothing, Stop, fill_from}

-- everything that a run reads and changes: a memory, and the run by value
pub record World : Type 0 where
  pub memory : Memory
  pub run : Run

-- a run that stands in a memory: the sizes are those that the run states
abbrev pub world : Memory → Run → World
world m run = record { memory = sized run.sizes m; run = run }

abbrev pub run_of : Phase → Cursor → Sizes → ℕ → List Record → Run
run_of phase cursor sizes number row = record { phase = phase; cursor = cursor; sizes = sizes; number = number; row = row }

-- its memory, and its state in the place table
abbrev pub memory_of : World → Memory
memory_of w = sized w.run.sizes w.memory

abbrev pub table_of : World → State
table_of w = state_of (memory_of w) w.run.row

-- the same but for its phase
abbrev pub phase≔ : Phase → Run → Run
phase≔ phase run = run_of phase run.cursor run.sizes run.number run.row

abbrev pub in_phase : Phase → World → World
in_phase phase w = world w.memory (phase≔ phase w.run)

-- "its number from 0"; a file has fewer events than there are 32-bit numbers
unfoldable pub next_number : ℕ → ℕ
next_number n = cond (ltb n 4294967295) (n + 1) n

-- an event acted on: the table's state after it, and the cursor after it
abbrev pub went_on : World → Cursor → State → World
went_on w next σ = world σ.memory (run_of w.run.phase next (sizes_of σ.memory) (next_number w.run.number) σ.row)

-- the walk for the last line begins at head
abbrev pub to_walk : World → World
to_walk w = in_phase (Walking head_node) w

-- "An event is acted on only where it was read; otherwise the run stops there."
unfoldable pub event_next : (file : List ℕ) → World → NextPiece World
event_next file w =
    elim (event_at file w.run.cursor) [
      | read.Got e next ↦
          let x = event (table_of w) e in
          piece (line w.run.number x.outcome) (went_on w next x.after)
      | read.End ↦ piece keys_word (to_walk w)
      | read.Refused n ↦ piece (line w.run.number (outcome.Refused n) ++ keys_word) (to_walk w)
    ]

-- "the address of every node on the chain between head and tail, rising, decimal, each after a space"
abbrev pub put_ahead : World → Ahead → NextPiece World
put_ahead w (onto n) = piece (space ∷ decimal (address_at (memory_of w) n)) (in_phase (Walking n) w)
put_ahead w tail_ahead = piece (newline ∷ []) (in_phase Over w)
put_ahead w not_in_use = piece (newline ∷ []) (in_phase Over w)
put_ahead w not_above = piece (newline ∷ []) (in_phase Over w)

-- by what lies ahead of a node
unfoldable pub address_next : World → Node → NextPiece World
address_next w n = put_ahead w (ahead (memory_of w) n)

-- "A bad header prints only `0 refused N`."
unfoldable pub next_piece : (file : List ℕ) → World → NextPiece World
next_piece file w =
    elim w.run.phase [
      | Refusing n ↦ piece (line 0 (outcome.Refused n)) (in_phase Over w)
      | Acting ↦ event_next file w
      | Walking n ↦ address_next w n
      | Over ↦ nothing
    ]

-- what filling a block leaves; no piece is empty, so that its length and one are turns enough
unfoldable pub fills : (file : List ℕ) → World → (block : List ℕ) → Stop World
fills file w block = fill_from (next_piece file) (suc (length block)) w block 0

-- ---- how a run begins

-- "A fresh record is all zeros."
abbrev pub fresh_row : List Record
fresh_row = replicate 64 fresh_record

-- before a header is accepted no sizes are stated
abbrev pub unstated : Sizes
unstated = record { nodes = 0; processes = 0; count = 0 }

-- a run that has only to say why its header was refused
abbrev pub refusing : ℕ → Run
refusing number = run_of (Refusing number) start unstated 0 fresh_row

-- "a lent table too short" is refused as a header is
unfoldable pub start_of : Cursor → Made → Run
start_of next (Ok sizes) = run_of Acting next sizes 0 fresh_row
start_of next (Err refusal) = refusing (number_of refusal)

-- "An accepted header makes the tables fresh; a refused one changes nothing."
unfoldable pub begins : (file : List ℕ) → Memory → World
begins file m =
    elim (header_at file start) [
      | header.Got h next ↦
          let x = fresh_tables (sized (fresh_sizes h.nodes h.processes) m) in
          world x.memory (start_of next x.answer)
      | header.Refused number ↦ world m (refusing number)
    ]
