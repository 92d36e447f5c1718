-- An event in a lent row, from what the act on one record leaves: on the record of its process, and on any record where the process is past the
-- process count. Rests on the table's laws of an event in a row (Meets).
use mathlib.Core.Path.{◌≡◌, sym, ap, ◌∙◌}
use mathlib.Core.List.{List}
use Prim.Native.Nat.{◌≤◌}
use lib.ListN.{length, set}
use Rattle.record.specs.declared.Record.{Record}
use Rattle.record.specs.declared.Event.{Event}
use Rattle.table.specs.Words.{Memory}
use Rattle.table.specs.Events.{Left, act, State, state_of, record_in, leaves_in, stored, event}
use Rattle.table.proofs.Laws.Meets.{event_in_row, event_left_by_nobody}
use Rattle.words.specs.LentMemory.{sized}
use Rattle.list.specs.Acting.{left}
use Rattle.list.specs.declared.Acted.{Acted}

module _ (m : Memory) (row : List Record) (e : Event) (m' : Memory) (t : Acted) (long : m.processes ≤ length row) where
  abbrev σ : State
  σ = state_of m row

  -- what was left is what the act on this record leaves
  abbrev LeftOf : Record → Type 0
  LeftOf r = left m' t ≡ act m e.process r e.action

  -- the row afterwards, and what is said
  abbrev LeavesRow : List Record → Type 0
  LeavesRow row' = leaves_in (state_of (sized t.sizes m') row') t.outcome ≡ event σ e

  pub in_row : LeftOf (record_in σ e.process) → LeavesRow (set row e.process.0 t.advanced)
  unfolding stored
  in_row so = ap (stored σ e.process) so ∙ sym (event_in_row σ e long)

  pub past_count : m.processes ≤ e.process.0 → (r : Record) → LeftOf r → LeavesRow row
  past_count past r so =
      ap (λ (d : Left). leaves_in (state_of d.memory row) d.outcome) so ∙ sym (event_left_by_nobody σ e long past r)
