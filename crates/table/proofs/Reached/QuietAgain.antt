-- A reached state in which every process is idle is quiet: every operation before it is answered and stays as it is, what follows is a run of its own
-- from a quiet state, and an order of each makes one of the whole. Rests on OpenOperations, Reads, LaterRun and the orders' Joined.
use mathlib.Core.Path.{◌≡◌, refl, sym, ◌∙◌, ap, subst}
use mathlib.Core.Logic.{inl, inr}
use mathlib.Core.Option.{some, some-ne-none}
use Prim.Native.Nat.{ℕ, ◌+◌, ◌-◌, ◌≤◌, ◌<◌}
use native.Mathlib.Omega.{arith}
use native.Mathlib.Decide.{dec_lt}
use borrow.Author.Tests.{lt-ltb, le-ltb}
use Rattle.record.specs.Record.{node}
use Rattle.record.specs.declared.Event.{Event}
use Rattle.table.specs.Words.{Memory}
use Rattle.table.specs.Chain.{Held}
use Rattle.table.specs.Events.{State, Leaves, event}
use Rattle.table.specs.History.{Answer, Operation, Set, History, Order}
use Rattle.table.specs.Demand3.{AllIdle, Quiet, at, operation, history, AddressesFit, IsHeld}
use Rattle.table.specs.Joined.{followed_by}
use Rattle.table.specs.Reached.{Reached, events_from}
use Rattle.basics.proofs.Tests.{none_or_some}
use Rattle.table.proofs.Laws.Numbered.{on_number, plain_unmarked, unmarked_plain}
use Rattle.table.proofs.Laws.Events.{accepted_not_refused}
use Rattle.table.proofs.Invariant.Effects.{Orderly}
use Rattle.table.proofs.Invariant.Moments.{plain_unsigned}
use Rattle.table.proofs.Invariant.EventCases.{Happens, refuses, inserts, steps, alone, happens}
use Rattle.table.proofs.Invariant.Played.{Played, state_at, memory_at, process_at, run_sizes_stay, IsOperation, answer_to, answer_later_lem}
use Rattle.table.proofs.Invariant.RunInvariant.{outcome_is}
use Rattle.table.proofs.Invariant.OpenOperations.{busy_of, status_of, answered}
use Rattle.table.proofs.History.Reads.{operation_for, operation_asked, operation_is}
use Rattle.table.proofs.Order.Joined.{orders_join}
use Rattle.table.proofs.Reached.States.{reached_orderly}
use Rattle.table.proofs.Reached.Refusals.{reached_tables_fit, reached_row_long}
use Rattle.table.proofs.Reached.LaterRun.{at_from, operation_from}

-- ---- a quiet state

pub quiet_again : {σ : State} → Reached σ → AllIdle σ → Quiet σ
quiet_again {σ} r idle = record {
  tables = reached_tables_fit r;
  row = reached_row_long r;
  idle = idle;
  rises = λ n o t. i.rise n.0 (on_number m o) (λ q. t (ap node q));
  used = λ n o. i.used n.0 (on_number m o);
  small = λ n o. i.small n.0 (on_number m o);
  head = plain_unmarked m 0 i.head;
  tail = i.tail;
  unsigned = λ n o plain. plain_unsigned i n.0 (on_number m o) (unmarked_plain m n.0 plain);
}
  where
    m : Memory
    m = σ.memory

    i : Orderly σ.memory
    i = reached_orderly r

-- ---- the operations before it

-- an operation's process is there
operation_there : (ρ : Played) (r : ℕ) → IsOperation ρ r → process_at ρ r < ρ.start.memory.processes
operation_there ρ r is = by_case (event (state_at ρ r) (ρ.events r)) refl (happens (state_at ρ r) (ρ.events r))
  where
    there : process_at ρ r < (memory_at ρ r).processes → process_at ρ r < ρ.start.memory.processes
    there l = omega (arith, l, (run_sizes_stay ρ r).memory.processes)

    by_case : (d : Leaves) → event (state_at ρ r) (ρ.events r) ≡ d → Happens (state_at ρ r) (ρ.events r) d
        → process_at ρ r < ρ.start.memory.processes
    by_case d left (refuses n) = absurd (accepted_not_refused (sym is.accepted ∙ outcome_is ρ r left))
    by_case d left (inserts a x b spare) = there b.there
    by_case d left (steps x b ok l pl) = there b.there
    by_case d left (alone Q b x) = there b.there

module _ (σ₀ : State) (e : ℕ → Event) (quiet : Quiet σ₀) (fit : AddressesFit e) (k : ℕ) (idle : AllIdle (at σ₀ e k)) where
  abbrev ρ : Played
  ρ = record { start = σ₀; events = e; quiet = quiet; fit = fit }

  pub quiet_then : Quiet (at σ₀ e k)
  quiet_then = quiet_again (record { start = σ₀; events = e; quiet = quiet; fit = fit; time = k; is = refl }) idle

  -- an operation before it is answered by then
  answered_by_then : (r : ℕ) → IsOperation ρ r → r < k → (a : Answer) × (answer_to ρ k r ≡ some a)
  answered_by_then r is l = elim (none_or_some (answer_to ρ k r)) [
    | inr a ↦ a
    | inl q ↦ absurd (status_of ρ k (process_at ρ r) r (busy_of ρ k r is l q) (idle (e r).process there))
  ]
    where
      there : process_at ρ r < (memory_at ρ k).processes
      there = omega (arith, operation_there ρ r is, (run_sizes_stay ρ k).memory.processes)

  pub all_answered : (r : ℕ) (o : Operation) → r < k → operation σ₀ e k r ≡ some o → (v : Answer) × (o.answer ≡ some v) × (v.time < k)
  all_answered r o l q =
      let x = operation_is ρ k r o q in
      let a = answered_by_then r x.0 l in
      (a.0, ap (λ o. o.answer) x.1 ∙ a.1, (answered ρ k r a.0 x.0 a.1).1)

  -- and stays as it is
  pub settled : (T r : ℕ) → r < k → operation σ₀ e (k + T) r ≡ operation σ₀ e k r
  settled T r l = elim (none_or_some (operation σ₀ e k r)) [
    | inr o ↦ let is = (operation_is ρ k r o.0 o.1).0 in
        let a = answered_by_then r is l in
        operation_asked ρ (k + T) r is ∙ ap (λ v. some (operation_for (e r) v)) (answer_later_lem ρ k (k + T) r a.0 (omega arith) a.1 ∙ sym a.1)
        ∙ sym (operation_asked ρ k r is)
    | inl q ↦ elim (none_or_some (operation σ₀ e (k + T) r)) [
      | inl q' ↦ q' ∙ sym q
      | inr o ↦ absurd (some-ne-none _ (sym (operation_asked ρ k r (operation_is ρ (k + T) r o.0 o.1).0) ∙ q))
    ]
  ]

  -- ---- the whole history is the first, followed by that of the run from then on

  module _ (start start' : Set) (T : ℕ) where
    abbrev first : History
    first = history σ₀ e start k

    abbrev second : History
    second = history (at σ₀ e k) (events_from k e) start' T

    asked_joined : (r : ℕ) → operation σ₀ e (k + T) r ≡ (followed_by first second).asked r
    asked_joined r = elim (dec_lt r k) [ yes l ↦ settled T r l ∙ rw (lt-ltb r k l) refl | no l ↦ later (omega arith) ]
      where
        later : k ≤ r → operation σ₀ e (k + T) r ≡ (followed_by first second).asked r
        later l = let q : r ≡ k + (r - k) = omega arith in
            ap (operation σ₀ e (k + T)) q ∙ operation_from σ₀ e k T (r - k) ∙ rw (le-ltb r k l) refl

    pub history_joined : history σ₀ e start (k + T) ≡ followed_by (history σ₀ e start k) (history (at σ₀ e k) (events_from k e) start' T)
    history_joined = λ i. record {
      asked = λ r. asked_joined r i;
      events = k + T;
      start = start;
      finish = λ a. Held (at_from σ₀ e k T i).memory a;
    }

    -- two orders, the second from the set in which the first ends, make one
    pub run_orders_join : IsHeld (at σ₀ e k).memory start' → Order (history σ₀ e start k)
        → Order (history (at σ₀ e k) (events_from k e) start' T) → Order (history σ₀ e start (k + T))
    run_orders_join held o o' = subst Order (sym history_joined) (orders_join first second held o o')
