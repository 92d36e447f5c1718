-- What an event does, by cases; refused events change nothing. Rests on Meets and KnownWrites.
use Rattle.table.proofs.Common.{◌≡◌, refl, ◌≢◌, true, false, ℕ, ◌<◌, arith, length, set, get_or-set_same, get_or-set_other, ltb-true, eqb-true}
use Rattle.table.proofs.Common.{process, idle_status, running_status, insert_kind, fresh_record, requested, Address, Record, Event, Insert, Step, Refused}
use Rattle.table.proofs.Common.{Accepted, Memory, next_node, none_left, written, given_out, Place, place_of, turn_in, in_range, leaving}
use Rattle.table.proofs.Common.{status_needed, State, state_of, Leaves, leaves_in, does, record_in, stored, event}
use Rattle.basics.proofs.Tests.{and_left}
use Rattle.table.proofs.Laws.Meets.{Alone, does_meets, act_judged, refused_stored, event_meets}
use Rattle.table.proofs.Invariant.KnownWrites.{goes_at, writes_at, says_at}

-- ---- records by process number

abbrev pub record_at : State → (p : ℕ) → Record
record_at σ p = record_in σ (process p)

-- the state with p's record and the memory replaced
abbrev pub state_with : State → (p : ℕ) → Memory → Record → State
state_with σ p m R = state_of m (set σ.row p R)

pub record_same : (σ : State) (p : ℕ) (m : Memory) (R : Record) → p < length σ.row → record_at (state_with σ p m R) p ≡ R
unfolding record_in
record_same σ p m R h = get_or-set_same σ.row p R fresh_record h

pub record_else : (σ : State) (p : ℕ) (m : Memory) (R : Record) (q : ℕ) → q ≢ p → record_at (state_with σ p m R) q ≡ record_at σ q
unfolding record_in
record_else σ p m R q h = get_or-set_other σ.row p q R fresh_record h

-- ---- the cases

-- p is there, and has the status that its event needs
pub record Able (σ : State) (p status : ℕ) : Type 0 where
  pub there : p < σ.memory.processes
  pub in_row : p < length σ.row
  pub has : (record_at σ p).kept.status ≡ status

module _ (σ : State) (e : Event) where
  abbrev m : Memory
  m = σ.memory

  abbrev p : ℕ
  p = e.process.0

  abbrev R : Record
  R = record_in σ e.process

  pub data Happens : Leaves → Type 0 where
    refuses : (k : ℕ) → Happens (leaves_in σ (Refused k))
    inserts : (a : Address) → e.action ≡ Insert a → Able σ p idle_status → none_left m ≡ false
        → Happens (leaves_in (state_with σ p (given_out a m) (requested 0 insert_kind a (next_node m) R)) Accepted)
    steps : e.action ≡ Step → Able σ p running_status → in_range R ≡ true → (l : Place) → place_of R.lost.place ≡ l
        → Happens (leaves_in (state_with σ p (written (writes_at l m p R) m) (goes_at l m p R)) (says_at l m p R))
    alone : (Q : Record) → Able σ p (status_needed e.action) → Alone R e.action Q → Happens (leaves_in (state_with σ p m Q) Accepted)

  refuses_stored : (k : ℕ) → Happens (stored σ e.process (leaving m R (Refused k)))
  refuses_stored k = rw (refused_stored σ e.process k) (refuses k)

  -- an event of a process that is there and has the status it needs
  does_happens : Able σ p (status_needed e.action) → Happens (stored σ e.process (does m e.process R e.action))
  unfolding stored turn_in
  does_happens b = does_meets (λ d. Happens (stored σ e.process d)) m e.process R e.action
      (refuses_stored 3) (λ a is spare. inserts a is (rw is at b) spare)
      (refuses_stored 8) (λ is f. steps is (rw is at b) (and_left (in_range R) _ f) (place_of R.lost.place) refl)
      (λ Q z. alone Q b z)

  pub happens : Happens (event σ e)
  happens = event_meets σ e Happens
      (λ long. act_judged (λ d. Happens (stored σ e.process d)) m e.process R e.action
      (λ unfit. refuses_stored 7) (λ fit beyond. refuses_stored 1) (λ fit there other. refuses_stored 2)
      (λ fit there ready.
      let h = ltb-true p m.processes there in
      does_happens (record { there = h; in_row = omega arith; has = eqb-true R.kept.status (status_needed e.action) ready })))
      (refuses 7)
