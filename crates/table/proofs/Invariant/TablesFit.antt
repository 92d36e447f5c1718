-- In a run from a quiet state the tables always fit, and no event is refused with 7. Rests on the laws of events and OpenOperations.
use Rattle.table.proofs.Common.{◌≡◌, sym, ◌∙◌, ◌≢◌, true, true≢false, ℕ, ◌≤◌, arith, length, Process, Record, Event, Action, Refused, Memory}
use Rattle.table.proofs.Common.{row, Left, State, does, tables_fit, record_in, stored, event, out}
use Rattle.table.proofs.Laws.Fitting.{sizes_of_lem, fit_of}
use Rattle.table.proofs.Laws.Meets.{does_meets, act_judged, event_in_row}
use Rattle.table.proofs.Laws.Events.{accepted_not_refused, turn_no_refusal}
use Rattle.table.proofs.Invariant.EventCases.{alone}
use Rattle.table.proofs.Invariant.Played.{Played, state_at, memory_at, outcome_at, run_sizes_stay}
use Rattle.table.proofs.Invariant.OpenOperations.{orderly}

-- ---- outcomes

pub refused_same : (j k : ℕ) → Refused j ≡ Refused k → j ≡ k
refused_same j k q = cc

abbrev Not7 : Left → Type 0
Not7 d = d.outcome ≡ Refused 7 → ⊥

-- an action of a process that is there and has the status it needs
does_not_7 : (m : Memory) (p : Process) (R : Record) (x : Action) → Not7 (does m p R x)
does_not_7 m p R x = does_meets Not7 m p R x
    (λ q. absurd (omega (arith, refused_same 3 7 q))) (λ a is spare. accepted_not_refused)
    (λ q. absurd (omega (arith, refused_same 8 7 q))) (λ is fits. turn_no_refusal m p R 7)
    (λ s alone. accepted_not_refused)

-- an event with tables that fit
pub event_not_7 : (σ : State) (e : Event) → σ.memory.processes ≤ length σ.row → tables_fit σ.memory ≡ true → (event σ e).outcome ≢ Refused 7
unfolding stored
event_not_7 σ e row fit = rw (event_in_row σ e row)
    (act_judged Not7 σ.memory e.process (record_in σ e.process) e.action
    (λ unfit. absurd (true≢false (sym fit ∙ unfit)))
    (λ f beyond q. absurd (omega (arith, refused_same 1 7 q)))
    (λ f there other q. absurd (omega (arith, refused_same 2 7 q)))
    (λ f there ready. does_not_7 σ.memory e.process (record_in σ e.process) e.action))

-- ---- a run

module _ (ρ : Played) where
  pub tables_fit_lem : (t : ℕ) → tables_fit (memory_at ρ t) ≡ true
  tables_fit_lem t = let s = (run_sizes_stay ρ t).memory in
      fit_of (memory_at ρ t) (rw (s.nodes, s.processes) (sizes_of_lem ρ.start.memory ρ.quiet.tables)) (orderly ρ t).room

  pub row_long : (t : ℕ) → (memory_at ρ t).processes ≤ length (state_at ρ t).row
  row_long t = let s = run_sizes_stay ρ t in omega (arith, ρ.quiet.row, s.memory.processes, s.row)

  pub never_refused_7 : (t : ℕ) → outcome_at ρ t ≢ Refused 7
  unfolding out
  never_refused_7 t = event_not_7 (state_at ρ t) (ρ.events t) (row_long t) (tables_fit_lem t)
