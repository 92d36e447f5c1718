-- Events played from a quiet state, and what is asked of them; the states, operations and answers by time. Rests on EventCases and Sizes.
use Rattle.table.proofs.Common.{◌≡◌, refl, sym, ◌∙◌, ◌≢◌, Bool, true, false, cond, Option, none, some, ℕ, zero, suc, ◌≤◌, ◌<◌, arith, le_ind}
use Rattle.table.proofs.Common.{lt-ltb, le-ltb, eq-eqb, ne_eqb, kind_of, address_of, Record, Event, Action, Outcome, Accepted, Memory, State}
use Rattle.table.proofs.Common.{Answer, Quiet, answer_at, first_of, AddressesFit, at, out, answer}
use Rattle.table.proofs.Laws.Fitting.{same_sizes, sizes_onward}
use Rattle.table.proofs.Laws.Sizes.{SizesStay, sizes_stay}
use Rattle.table.proofs.Invariant.EventCases.{record_at}

pub record Played : Type 0 where
  pub start : State
  pub events : ℕ → Event
  pub quiet : Quiet start
  pub fit : AddressesFit events

-- ---- by time

abbrev pub state_at : Played → ℕ → State
state_at ρ t = at ρ.start ρ.events t

abbrev pub memory_at : Played → ℕ → Memory
memory_at ρ t = (state_at ρ t).memory

-- p's record at moment t
abbrev pub record_then : Played → (t p : ℕ) → Record
record_then ρ t p = record_at (state_at ρ t) p

abbrev pub outcome_at : Played → ℕ → Outcome
outcome_at ρ t = out ρ.start ρ.events t

abbrev pub process_at : Played → ℕ → ℕ
process_at ρ t = (ρ.events t).process.0

abbrev pub kind_at : Played → ℕ → ℕ
kind_at ρ t = kind_of (ρ.events t).action

-- the address of a request; 0 where it is none
abbrev pub address_asked : Action → ℕ
address_asked x = elim (address_of x) [ none ↦ 0 | some a ↦ a.0 ]

abbrev pub asked_at : Played → ℕ → ℕ
asked_at ρ t = address_asked (ρ.events t).action

-- sizes and the lengths of the tables never change
pub run_sizes_stay : (ρ : Played) (t : ℕ) → SizesStay ρ.start (state_at ρ t)
unfolding at
run_sizes_stay ρ zero = record { memory = same_sizes ρ.start.memory; row = refl }
run_sizes_stay ρ (suc t) = let x = run_sizes_stay ρ t in let y = sizes_stay (state_at ρ t) (ρ.events t) in
    record { memory = sizes_onward x.memory y.memory; row = y.row ∙ x.row }

-- ---- operations: requests that are accepted

pub record IsOperation (ρ : Played) (r : ℕ) : Type 0 where
  pub request : kind_at ρ r ≤ 2
  pub accepted : outcome_at ρ r ≡ Accepted

-- the answer that the first T events give to the operation of event r
abbrev pub answer_to : Played → (T r : ℕ) → Option Answer
answer_to ρ T r = answer ρ.start ρ.events T r

-- what event t hands out
abbrev pub hands : Played → ℕ → Option Answer
hands ρ t = answer_at t (outcome_at ρ t)

-- ---- answers through an event

-- none comes before its request
pub no_answer_yet : (σ₀ : State) (e : ℕ → Event) (t r : ℕ) → t ≤ suc r → answer σ₀ e t r ≡ none
unfolding answer
no_answer_yet σ₀ e zero r h = refl
no_answer_yet σ₀ e (suc t) r h = rw (no_answer_yet σ₀ e t r (omega arith), le-ltb r t (omega arith))

first_none : (o : Option Answer) → first_of o none ≡ o
first_none none = refl
first_none (some a) = refl

cond_same : (b : Bool) (o : Option Answer) → cond b o o ≡ o
cond_same true o = refl
cond_same false o = refl

module _ (ρ : Played) where
  pub answer_stays : (t r : ℕ) (a : Answer) → answer_to ρ t r ≡ some a → answer_to ρ (suc t) r ≡ some a
  unfolding answer
  answer_stays t r a h = rw h

  pub answer_later_lem : (s t r : ℕ) (a : Answer) → s ≤ t → answer_to ρ s r ≡ some a → answer_to ρ t r ≡ some a
  answer_later_lem s t r a h q = le_ind (λ x. answer_to ρ x r ≡ some a) q (λ x l z. answer_stays x r a z) t h

  -- another process's event
  pub answer_else : (t r : ℕ) → process_at ρ r ≢ process_at ρ t → answer_to ρ (suc t) r ≡ answer_to ρ t r
  unfolding answer
  answer_else t r h = rw (ne_eqb (process_at ρ t) (process_at ρ r) (λ q. h (sym q))) (simp (cond_same, first_none))

  -- an event that hands out nothing
  pub answer_quiet : (t r : ℕ) → hands ρ t ≡ none → answer_to ρ (suc t) r ≡ answer_to ρ t r
  unfolding answer
  answer_quiet t r h = rw h (simp (cond_same, first_none))

  pub answer_now : (t r : ℕ) → r < t → process_at ρ r ≡ process_at ρ t → answer_to ρ t r ≡ none → answer_to ρ (suc t) r ≡ hands ρ t
  unfolding answer
  answer_now t r l q h = rw (h, lt-ltb r t l, eq-eqb (process_at ρ t) (process_at ρ r) (sym q))

  pub answer_early : (t r : ℕ) → t ≤ suc r → answer_to ρ t r ≡ none
  answer_early = no_answer_yet ρ.start ρ.events
