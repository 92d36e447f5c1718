-- The record of an event's process, in a row of 64: what `slot` answers is the place of the right record. Rests on LentWords, and on the table's law of
-- an event in a row (Meets).
use Prim.Native.Nat.{ℕ, ◌<◌, ◌≤◌}
use mathlib.Core.Path.{◌≡◌, ap, ◌∙◌}
use native.Mathlib.Omega.{arith}
use borrow.Author.Tests.{lt-ltb}
use lib.ListN.{length}
use Rattle.record.specs.Record.{process}
use Rattle.record.specs.declared.Process.{Process}
use Rattle.record.specs.declared.Event.{Event}
use Rattle.table.specs.Events.{State, act, event, stored, record_in, Leaves}
use Rattle.table.proofs.Laws.Fitting.{limits}
use Rattle.table.proofs.Laws.Meets.{event_by_slot}
use Rattle.words.specs.LentWords.{slot_of}

-- a process that is there has its own record, where the sizes fit
pub own_slot : (processes : ℕ) (p : Process) → processes ≤ 64 → p.0 < processes → process (slot_of processes p.0) ≡ p
unfolding slot_of
own_slot processes p few there = rw (lt-ltb p.0 processes there, lt-ltb p.0 64 (omega arith))

module _ (σ : State) (row : length σ.row ≡ 64) (e : Event) where
  -- what an event leaves, worked on the record at a place
  abbrev worked_at : ℕ → Leaves
  worked_at at = stored σ (process at) (act σ.memory e.process (record_in σ (process at)) e.action)

  pub event_at_lem : (at : ℕ) → at ≡ slot_of σ.memory.processes e.process.0 → event σ e ≡ worked_at at
  event_at_lem at is =
      event_by_slot σ e (process at) (omega arith)
      (λ fit there. ap process is ∙ own_slot σ.memory.processes e.process (limits σ.memory fit).few_processes there)
