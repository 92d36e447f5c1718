-- In a run from a quiet state no step is refused with 8: the numbers of a running process are in their ranges, and the nodes that its row uses are in
-- use. Rests on AnswersFit, RowsUse and OpenOperations.
use Rattle.table.proofs.Common.{◌≡◌, refl, ◌≢◌, Bool, true, ◌&&◌, ℕ, zero, suc, ◌≤◌, ◌<◌, arith, dec_le, ltb-true, eqb-true, process, idle_status}
use Rattle.table.proofs.Common.{running_status, Process, Record, Event, Action, Step, Refused, Memory, off, place_of, turn_in}
use Rattle.table.proofs.Common.{Left, State, does, record_in, stored, event, out}
use Rattle.table.specs.Events.{step}
use Rattle.table.proofs.Laws.Meets.{does_alone, by_action, insert_meets, act_judged, event_meets}
use Rattle.table.proofs.Laws.Events.{accepted_not_refused, turn_no_refusal}
use Rattle.table.proofs.Laws.Ranges.{AnswersFitIn, in_range_lem, past_the_places}
use Rattle.table.proofs.Invariant.Known.{InsertAt, DeleteAt, FindAt, KnownOf, inserting, deleting, finding}
use Rattle.table.proofs.Invariant.RowsUse.{insert_uses, delete_uses, find_uses}
use Rattle.table.proofs.Invariant.Played.{Played, state_at, memory_at, record_then, outcome_at, run_sizes_stay}
use Rattle.table.proofs.Invariant.RunInvariant.{Working, working, invariant}
use Rattle.table.proofs.Invariant.OpenOperations.{course}
use Rattle.table.proofs.Invariant.AnswersFit.{busy_answers_fit}
use Rattle.table.proofs.Invariant.TablesFit.{refused_same}

-- ---- where something is known there is a place, and a find's is past the search

among_places : (Known : ℕ → Type 0) → ((n : ℕ) → 20 ≤ n → Known n → ⊥) → (n : ℕ) → Known n → n ≤ 19
among_places Known none n x = elim (dec_le n 19) [ yes h ↦ h | no h ↦ absurd (none n (omega arith) x) ]

module _ {M : ℕ → Memory} {r t : ℕ} {R : Record} where
  insert_somewhere : (n : ℕ) → InsertAt M r t R (place_of n) → n ≤ 19
  insert_somewhere = among_places (λ n. InsertAt M r t R (place_of n)) (λ n h x. nowhere (rw (past_the_places n h) at x))
    where
      nowhere : InsertAt M r t R off → ⊥
      nowhere x = elim x [ ]

  delete_somewhere : (p n : ℕ) → DeleteAt M r t p R (place_of n) → n ≤ 19
  delete_somewhere p = among_places (λ n. DeleteAt M r t p R (place_of n)) (λ n h x. nowhere (rw (past_the_places n h) at x))
    where
      nowhere : DeleteAt M r t p R off → ⊥
      nowhere x = elim x [ ]

  find_somewhere : (n : ℕ) → FindAt M r t R (place_of n) → n ≤ 19
  find_somewhere = among_places (λ n. FindAt M r t R (place_of n)) (λ n h x. nowhere (rw (past_the_places n h) at x))
    where
      nowhere : FindAt M r t R off → ⊥
      nowhere x = elim x [ ]

find_past_search : {M : ℕ → Memory} {r t : ℕ} {R : Record} (n : ℕ) → FindAt M r t R (place_of n) → 3 ≤ n
unfolding place_of
find_past_search zero x = elim x [ ]
find_past_search (suc zero) x = elim x [ ]
find_past_search (suc (suc zero)) x = elim x [ ]
find_past_search (suc (suc (suc n))) x = omega arith

both : (a b : Bool) → a ≡ true → b ≡ true → (a && b) ≡ true
both a b p q = rw (p, q) refl

-- ---- an event whose step fits

abbrev Not8 : Left → Type 0
Not8 d = d.outcome ≡ Refused 8 → ⊥

does_not_8 : (m : Memory) (p : Process) (R : Record) (x : Action) → (x ≡ Step → (turn_in m p R).fits ≡ true) → Not8 (does m p R x)
unfolding does step
does_not_8 m p R x fits = by_action R x
    (λ a is. rw is (insert_meets Not8 m p R a (λ none q. absurd (omega (arith, refused_same 3 8 q))) (λ spare. accepted_not_refused)))
    (λ is. rw (is, fits is) (turn_no_refusal m p R 8))
    (λ s z. rw (does_alone z m p) accepted_not_refused)

pub event_not_8 : (σ : State) (e : Event)
    → (e.process.0 < σ.memory.processes → (record_in σ e.process).kept.status ≡ running_status
    → (turn_in σ.memory e.process (record_in σ e.process)).fits ≡ true)
    → (event σ e).outcome ≢ Refused 8
unfolding stored
event_not_8 σ e fits =
    let m = σ.memory in
    let R = record_in σ e.process in
    event_meets σ e (λ l. l.outcome ≡ Refused 8 → ⊥)
    (λ long. act_judged Not8 m e.process R e.action
    (λ unfit q. absurd (omega (arith, refused_same 7 8 q)))
    (λ fit beyond q. absurd (omega (arith, refused_same 1 8 q)))
    (λ fit there other q. absurd (omega (arith, refused_same 2 8 q)))
    (λ fit there ready. does_not_8 m e.process R e.action
    (λ is. fits (ltb-true e.process.0 m.processes there) (rw is at (eqb-true R.kept.status _ ready)))))
    (λ q. absurd (omega (arith, refused_same 7 8 q)))

-- ---- a run

module _ (ρ : Played) (t : ℕ) where
  abbrev m : Memory
  m = memory_at ρ t

  -- a step of a running process fits its record and its nodes
  pub step_fits : (p : ℕ) → p < (memory_at ρ t).processes → (record_then ρ t p).kept.status ≡ running_status
      → (turn_in (memory_at ρ t) (process p) (record_then ρ t p)).fits ≡ true
  unfolding turn_in
  step_fits p l running = by_kind w.busy.known
    where
      R : Record
      R = record_then ρ t p

      not_idle : R.kept.status ≢ idle_status
      not_idle z = absurd (omega arith)

      w : Working ρ t p
      w = working ρ t (invariant ρ t) p l not_idle

      answers : AnswersFitIn R
      answers = busy_answers_fit ρ t p (omega (arith, (run_sizes_stay ρ t).memory.processes)) not_idle

      place : ℕ
      place = R.lost.place

      by_kind : {x : Action} → KnownOf (memory_at ρ) w.op t p R x → (turn_in m (process p) R).fits ≡ true
      by_kind (inserting o) = let x = o.place running in both _ _
          (in_range_lem R (insert_somewhere place x) (omega (arith, o.kept.kind_is)) (λ q. absurd (omega (arith, o.kept.kind_is))) answers)
          (insert_uses (course ρ t) p R o.kept (place_of place) x)
      by_kind (deleting o) = let x = o.place running in both _ _
          (in_range_lem R (delete_somewhere p place x) (omega (arith, o.kept.kind_is)) (λ q. absurd (omega (arith, o.kept.kind_is))) answers)
          (delete_uses (course ρ t) p R o.kept (place_of place) x)
      by_kind (finding o) = let x = o.place running in both _ _
          (in_range_lem R (find_somewhere place x) (omega (arith, o.kept.kind_is)) (λ q. find_past_search place x) answers)
          (find_uses (course ρ t) p R (place_of place) x)

  pub never_refused_8 : outcome_at ρ t ≢ Refused 8
  unfolding out
  never_refused_8 = event_not_8 (state_at ρ t) (ρ.events t) (step_fits (ρ.events t).process.0)
