-- 01, "How far the promises reach": the machines that demand 3 alone would admit are shut out. A machine that leaves, of any state and event,
-- what the promises say is none of them, by an example of 01 or a law. Rests on Examples and on the table's laws of events.
use mathlib.Core.Path.{◌≡◌, refl, sym, ap, ◌∙◌}
use mathlib.Core.List.{[], ◌∷◌}
use Prim.Native.Nat.{ℕ}
use native.Mathlib.Omega.{arith}
use Rattle.record.specs.Record.{process, address, false_answer, true_answer}
use Rattle.record.specs.Event.{event_of}
use Rattle.record.specs.declared.Process.{Process}
use Rattle.record.specs.declared.Action.TheVariants.{Step}
use Rattle.record.specs.declared.Event.{Event}
use Rattle.record.specs.declared.Outcome.{Outcome}
use Rattle.record.specs.declared.Outcome.TheVariants.{Refused, Accepted, Answered}
use Rattle.table.specs.Words.{lengths, address_at, link_at, deleter_at, in_use, rank, written, given_out, fresh_memory}
use Rattle.table.specs.Places.{place_of, search_ends, row}
use Rattle.table.specs.Steps.{word_met, in_range, turn_in}
use Rattle.table.specs.Events.{State, Leaves, fresh, runs, event, stored, record_in, act, refusal_in, tables_fit, sizes_fit, does, step}
use Rattle.table.specs.Chain.{ahead, walk, chain, chain_addresses}
use Rattle.table.proofs.Laws.Events.{count_after, only_inserts_move_the_count}
use Rattle.examples.specs.Examples.{insert_by, delete_by, steps_by}

-- what a machine leaves of a state for an event, and that it keeps the promise
abbrev pub Machine : Type 0
Machine = State → Event → Leaves

abbrev pub KeepsPromise : Machine → Type 0
KeepsPromise f = (σ : State) (e : Event) → f σ e ≡ event σ e

abbrev pub empty : State
empty = fresh 8 2

-- example 5 just before its last step, and example 6
abbrev inserting : State
inserting = runs empty (insert_by 0 485 ∷ steps_by 0 5)

abbrev deleting : State
deleting = runs empty (delete_by 0 485 ∷ steps_by 0 3)

-- an insert before its first step
abbrev pub asked : State
asked = runs empty (insert_by 0 485 ∷ [])

abbrev pub one_step : Event
one_step = event_of (process 0) Step

-- what the place table says there, by computation
record Computed : Type 0 where
  accepts : (event empty (insert_by 0 485)).outcome ≡ Accepted
  inserts : (event inserting one_step).outcome ≡ Answered true_answer
  misses : (event deleting one_step).outcome ≡ Answered false_answer
  stood : (record_in asked (process 0)).lost.place ≡ 0
  moves : (record_in (event asked one_step).after (process 0)).lost.place ≡ 1
  claims_none : chain_addresses (event asked one_step).after.memory ≡ []

computed : Computed
unfolding fresh fresh_memory runs event stored record_in act refusal_in tables_fit sizes_fit does step turn_in in_range word_met row search_ends
    place_of written given_out rank in_use lengths address_at link_at deleter_at ahead walk chain chain_addresses
computed = record { accepts = refl; inserts = refl; misses = refl; stood = refl; moves = refl; claims_none = refl }

module _ (f : Machine) (keeps : KeepsPromise f) where
  comes_to : (σ : State) (e : Event) (o : Outcome) → (event σ e).outcome ≡ o → (f σ e).outcome ≡ o
  comes_to σ e o h = rw (keeps σ e) h

  -- "the constant refuser"
  pub no_constant_refuser : (refusal : State → Event → ℕ) → ((σ : State) (e : Event) → (f σ e).outcome ≡ Refused (refusal σ e)) → ⊥
  no_constant_refuser refusal refuses =
      never (refusal empty (insert_by 0 485)) (sym (comes_to empty (insert_by 0 485) Accepted computed.accepts) ∙ refuses empty (insert_by 0 485))
    where
      never : (n : ℕ) → Accepted ≡ Refused n → ⊥
      never n e = let z : ◌≡◌ {A = ℕ} 0 1 = cc in omega arith

  -- "the machine with one fixed answer"
  pub no_fixed_answer : (v : ℕ) → ((σ : State) (e : Event) (w : ℕ) → (f σ e).outcome ≡ Answered w → w ≡ v) → ⊥
  no_fixed_answer v fixed =
      omega (
        arith,
        fixed inserting one_step true_answer (comes_to inserting one_step (Answered true_answer) computed.inserts),
        fixed deleting one_step false_answer (comes_to deleting one_step (Answered false_answer) computed.misses),
      )

  -- "the step that changes nothing"
  pub no_idle_step : ((σ : State) (p : Process) → (f σ (event_of p Step)).after ≡ σ) → ⊥
  no_idle_step idles =
      let after = sym (ap (λ (x : Leaves). x.after) (keeps asked one_step)) ∙ idles asked (process 0) in
      let same = ap (λ (σ : State). (record_in σ (process 0)).lost.place) after in
      omega (arith, computed.stood, computed.moves)

  -- "the one that performs a whole operation at its first step and idles through the rest": a first step of an insert that claims the address
  pub no_insert_at_once : chain_addresses (f asked one_step).after.memory ≡ address 485 ∷ [] → ⊥
  no_insert_at_once claims =
      let none = rw keeps at claims in
      let z : ◌≡◌ {A = ℕ} 0 1 = cc computed.claims_none in omega arith

  -- "a given-out count made up on the spot"
  pub no_made_up_count : (σ : State) (e : Event) → (f σ e).after.memory.count ≡ count_after e.action (f σ e).outcome σ.memory.count
  no_made_up_count σ e = rw (keeps σ e) (only_inserts_move_the_count σ e)
