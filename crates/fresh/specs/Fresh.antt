-- Lent tables and a lent row of records made fresh, or refused. Rests on the place table's fresh state.
use Rattle.std.specs.Prelude.{Bool, cond, ◌&&◌, ℕ, leb, length, Result, Ok, Err}
use Rattle.std.proofs.Math.Option.{Option, none, some}
use Rattle.basics.specs.Over.{over}
use Rattle.table.specs.Words.{Memory, memory, count≔, fresh_memory}
use Rattle.table.specs.Events.{tables_fit, State, state_of, fresh}
use Rattle.words.specs.LentMemory.{sizes_of}
use Rattle.words.specs.declared.Sizes.{Sizes}
use Rattle.record.specs.declared.Refusal.{Refusal}
use Rattle.record.specs.declared.Refusal.TheVariants.{BadSizes}

-- the sizes of what was made fresh, or why nothing was
abbrev pub Made : Type 0
Made = Result Sizes Refusal

-- "Where an answer is an enum, a definition sets out this paper's number and values for each of its cases.": the sizes of what was made fresh; where
-- nothing was, 7: "sizes outside the limits, a lent table too short"
abbrev pub made_of : Option Sizes → Made
made_of none = Err BadSizes
made_of (some sizes) = Ok sizes

-- ---- the tables alone

-- the sizes that are asked for, with the count of a fresh list
abbrev pub fresh_sizes : (nodes processes : ℕ) → Sizes
fresh_sizes nodes processes = record { nodes = nodes; processes = processes; count = (fresh_memory nodes processes).count }

-- the lent tables afterwards, and the answer
pub record TablesLeft : Type 0 where
  pub memory : Memory
  pub answer : Made

abbrev pub tables_left : Memory → Made → TablesLeft
tables_left memory answer = record { memory = memory; answer = answer }

-- the words of a new memory over the lent ones
abbrev pub laid_over : (new lent : Memory) → Memory
laid_over new lent =
    memory
    (over new.addresses lent.addresses) (over new.links lent.links) (over new.deleters lent.deleters)
    new.count new.nodes new.processes

-- the fresh memory of the sizes that a memory states
abbrev pub fresh_of : Memory → Memory
fresh_of m = fresh_memory m.nodes m.processes

-- it fits the lent tables: sizes inside the limits, no lent table too short
abbrev pub fresh_fits : Memory → Bool
fresh_fits m = tables_fit (count≔ (fresh_of m).count m)

-- "An accepted header makes the tables fresh; a refused one changes nothing."
unfoldable pub fresh_tables : Memory → TablesLeft
fresh_tables m =
    cond (fresh_fits m) (tables_left (laid_over (fresh_of m) m) (made_of (some (sizes_of (fresh_of m))))) (tables_left m (made_of none))

-- ---- the tables and the row

pub record ListLeft : Type 0 where
  pub state : State
  pub answer : Made

abbrev pub list_left : State → Made → ListLeft
list_left state answer = record { state = state; answer = answer }

-- the same of the row too; a row shorter than the process count is a lent table too short
unfoldable pub fresh_list : State → ListLeft
fresh_list σ =
    let m = σ.memory in
    cond (leb m.processes (length σ.row) && fresh_fits m)
    (list_left (state_of (fresh_tables m).memory (over (fresh m.nodes m.processes).row σ.row)) (fresh_tables m).answer)
    (list_left σ (made_of none))
