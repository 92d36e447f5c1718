-- In a reached state the tables fit, no event is refused with 7, and none with 8. Rests on TablesFit, StepsFit and States.
use Rattle.table.proofs.Common.{◌≡◌, subst, ◌≢◌, true, ◌≤◌, ◌<◌, length, running_status, Process, Event, Refused, turn_in, State, tables_fit}
use Rattle.table.proofs.Common.{record_in, event}
use Rattle.table.specs.Reached.{Reached}
use Rattle.table.proofs.Invariant.TablesFit.{event_not_7, tables_fit_lem, row_long}
use Rattle.table.proofs.Invariant.StepsFit.{step_fits, event_not_8}
use Rattle.table.proofs.Reached.States.{played_to}

module _ {σ : State} (r : Reached σ) where
  pub reached_tables_fit : tables_fit σ.memory ≡ true
  reached_tables_fit = subst (λ s. tables_fit s.memory ≡ true) r.is (tables_fit_lem (played_to r) r.time)

  pub reached_row_long : σ.memory.processes ≤ length σ.row
  reached_row_long = subst (λ s. s.memory.processes ≤ length s.row) r.is (row_long (played_to r) r.time)

  -- a step of a running process: its numbers are in range, and the nodes that it uses are in use
  pub running_step_fits : (p : Process) → p.0 < σ.memory.processes → (record_in σ p).kept.status ≡ running_status
      → (turn_in σ.memory p (record_in σ p)).fits ≡ true
  running_step_fits p = subst
      (λ s. p.0 < s.memory.processes → (record_in s p).kept.status ≡ running_status → (turn_in s.memory p (record_in s p)).fits ≡ true)
      r.is (step_fits (played_to r) r.time p.0)

  pub reached_never_refused_7 : (e : Event) → (event σ e).outcome ≢ Refused 7
  reached_never_refused_7 e = event_not_7 σ e reached_row_long reached_tables_fit

  pub reached_never_refused_8 : (e : Event) → (event σ e).outcome ≢ Refused 8
  reached_never_refused_8 e = event_not_8 σ e (running_step_fits e.process)
