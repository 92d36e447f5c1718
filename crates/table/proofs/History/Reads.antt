-- The history of a run, read: its operations are those that Played names, and every answer that changes nothing has a witness.
-- Rests on OpenOperations and the order's Needs.
use mathlib.Core.Option.{some-ne-none, some-injective, Option, none, some}
use mathlib.Core.Path.{◌≡◌, refl, sym, ◌∙◌, ap}
use mathlib.Core.Logic.{◌≢◌, ◌⊎◌, inl, inr}
use Prim.Native.Nat.{ℕ, zero, suc, ◌≤◌, ◌<◌}
use native.Mathlib.Omega.{arith}
use native.Mathlib.Decide.{ℕ_discrete}
use Rattle.record.specs.Record.{address, insert_kind, delete_kind, find_kind, false_answer, true_answer, fail_answer}
use Rattle.record.specs.Event.{kind_of, event_of}
use Rattle.record.specs.declared.Process.{Process}
use Rattle.record.specs.declared.Address.{Address}
use Rattle.record.specs.declared.Record.{Record}
use Rattle.record.specs.declared.Event.{Event}
use Rattle.record.specs.declared.Action.{Action}
use Rattle.record.specs.declared.Action.TheVariants.{Insert, Delete, Find, Step, Stop, Restart}
use Rattle.record.specs.declared.Outcome.{Outcome}
use Rattle.record.specs.declared.Outcome.TheVariants.{Refused, Accepted, Answered}
use Rattle.table.specs.Words.{Memory}
use Rattle.table.specs.Chain.{Held}
use Rattle.table.specs.History.{Kind, insert, delete, find, Answer, Operation, Set}
use Rattle.table.specs.Demand3.{request_of, if_accepted, operation, history}
use Rattle.table.proofs.Laws.Numbered.{HeldIn}
use Rattle.table.proofs.Invariant.Known.{Since, HeldSince, GoneSince, FindSays, insert_known, delete_known, find_known, insert_says}
use Rattle.table.proofs.Invariant.Known.{delete_says, find_says}
use Rattle.table.proofs.Invariant.Played.{Played, memory_at, record_then, outcome_at, process_at, kind_at, address_asked, asked_at, IsOperation}
use Rattle.table.proofs.Invariant.Played.{answer_to}
use Rattle.table.proofs.Invariant.OpenOperations.{AnsweredAt, answered, value_true}
use Rattle.table.proofs.Order.Needs.{AnswerTells, Witness}

-- ---- operations

-- what an event asks for, by its kind's number; a find of 0 where it is no request
abbrev kind_numbered : ℕ → Kind
kind_numbered zero = insert
kind_numbered (suc zero) = delete
kind_numbered (suc (suc k)) = find

abbrev pub kind_asked : Action → Kind
kind_asked x = kind_numbered (kind_of x)

abbrev pub operation_for : Event → Option Answer → Operation
operation_for e v = record { process = e.process; kind = kind_asked e.action; address = address (address_asked e.action); answer = v }

-- an action is a request, or asks for nothing
request_or_none : (p : Process) (x : Action) (v : Option Answer)
    → ((kind_of x ≤ 2) × (request_of p x v ≡ some (operation_for (event_of p x) v))) ⊎ ((2 < kind_of x) × (request_of p x v ≡ none))
request_or_none p (Insert a) v = inl (omega arith, refl)
request_or_none p (Delete a) v = inl (omega arith, refl)
request_or_none p (Find a) v = inl (omega arith, refl)
request_or_none p Step v = inr (omega arith, refl)
request_or_none p Stop v = inr (omega arith, refl)
request_or_none p Restart v = inr (omega arith, refl)

request_asked : (e : Event) (v : Option Answer) → kind_of e.action ≤ 2 → request_of e.process e.action v ≡ some (operation_for e v)
request_asked e v l = elim (request_or_none e.process e.action v) [ inl z ↦ z.1 | inr z ↦ absurd (omega (arith, z.0)) ]

request_is : (e : Event) (v : Option Answer) (o : Operation) → request_of e.process e.action v ≡ some o → kind_of e.action ≤ 2
request_is e v o q = elim (request_or_none e.process e.action v) [ inl z ↦ z.0 | inr z ↦ absurd (some-ne-none o (sym q ∙ z.1)) ]

accepted_is : (x : Outcome) (q : Option Operation) (o : Operation) → if_accepted x q ≡ some o → (x ≡ Accepted) × (q ≡ some o)
accepted_is (Refused n) q o h = absurd (some-ne-none o (sym h))
accepted_is Accepted q o h = (refl, h)
accepted_is (Answered n) q o h = absurd (some-ne-none o (sym h))

pub kind_deletes : (x : Action) → kind_asked x ≡ delete → kind_of x ≡ delete_kind
kind_deletes x = numbered (kind_of x)
  where
    numbered : (k : ℕ) → kind_numbered k ≡ delete → k ≡ delete_kind
    numbered zero q = cc
    numbered (suc zero) q = refl
    numbered (suc (suc k)) q = cc

pub asks_insert : (x : Action) → kind_of x ≡ insert_kind → kind_asked x ≡ insert
asks_insert x q = ap kind_numbered q

pub asks_delete : (x : Action) → kind_of x ≡ delete_kind → kind_asked x ≡ delete
asks_delete x q = ap kind_numbered q

pub asks_find : (x : Action) → kind_of x ≡ find_kind → kind_asked x ≡ find
asks_find x q = ap kind_numbered q

module _ (ρ : Played) where
  abbrev M : ℕ → Memory
  M = memory_at ρ

  pub operation_asked : (T r : ℕ) → IsOperation ρ r → operation ρ.start ρ.events T r ≡ some (operation_for (ρ.events r) (answer_to ρ T r))
  operation_asked T r is = ap (λ x. if_accepted x (request_of (ρ.events r).process (ρ.events r).action (answer_to ρ T r))) is.accepted
      ∙ request_asked (ρ.events r) (answer_to ρ T r) is.request

  pub operation_is : (T r : ℕ) (o : Operation) → operation ρ.start ρ.events T r ≡ some o
      → IsOperation ρ r × (o ≡ operation_for (ρ.events r) (answer_to ρ T r))
  operation_is T r o q = (is, some-injective o (operation_for (ρ.events r) (answer_to ρ T r)) (sym q ∙ operation_asked T r is))
    where
      z : (outcome_at ρ r ≡ Accepted) × (request_of (ρ.events r).process (ρ.events r).action (answer_to ρ T r) ≡ some o)
      z = accepted_is (outcome_at ρ r) (request_of (ρ.events r).process (ρ.events r).action (answer_to ρ T r)) o q

      is : IsOperation ρ r
      is = record { request = request_is (ρ.events r) (answer_to ρ T r) o z.1; accepted = z.0 }

  -- ---- answers that change nothing

  abbrev pub held_at : ℕ → Address → Type 0
  held_at t a = Held (memory_at ρ t) a

  module _ (start : Set) (T r : ℕ) (a : Answer) (is : IsOperation ρ r) (h : answer_to ρ T r ≡ some a) where
    x : AnsweredAt ρ r a × (a.time < T)
    x = answered ρ T r a is h

    abbrev p : ℕ
    p = process_at ρ r

    -- it has a witness
    abbrev pub Told : Type 0
    Told = Witness (history ρ.start ρ.events start T) held_at r (operation_for (ρ.events r) (answer_to ρ T r)) a

    abbrev R : Record
    R = record_then ρ a.time (process_at ρ r)

    telling : (k : Kind) → kind_asked (ρ.events r).action ≡ k → (w : ℕ) → Since r a.time w
        → AnswerTells k a.value (HeldIn (M w) (asked_at ρ r)) → Told
    telling k q w s t = record {
      moment = w;
      begun = s.after;
      ended = s.upto;
      there = omega (arith, s.upto, x.1);
      tells = rw q t;
    }

    insert_told : kind_at ρ r ≡ insert_kind → a.value ≡ false_answer → Told
    insert_told k v = telling insert (asks_insert (ρ.events r).action k) z.0 z.1 (v, z.2)
      where
        z : HeldSince M r a.time (asked_at ρ r)
        z = rw x.0.busy.named at
            ((insert_says x.0.place x.0.status (insert_known k x.0.busy.known)).if_false (sym x.0.value ∙ v)).1

    delete_told : kind_at ρ r ≡ delete_kind → a.value ≡ false_answer → Told
    delete_told k v = telling delete (asks_delete (ρ.events r).action k) z.0 z.1 (v, z.2)
      where
        z : GoneSince M r a.time (asked_at ρ r)
        z = rw x.0.busy.named at
            ((delete_says x.0.place x.0.status (delete_known k x.0.busy.known)).if_false (sym x.0.value ∙ v)).1

    find_told : kind_at ρ r ≡ find_kind → a.value ≢ fail_answer → Dec (a.value ≡ false_answer) → Told
    find_told k n = by
      where
        says : FindSays M r a.time (asked_at ρ r) R.lost.pending
        says = rw x.0.busy.named at (find_says x.0.place x.0.status (find_known k x.0.busy.known))

        by : Dec (a.value ≡ false_answer) → Told
        by (yes v) = let z = says.if_false (sym x.0.value ∙ v) in telling find (asks_find (ρ.events r).action k) z.0 z.1 (inr (v, z.2))
        by (no v) = let t = value_true ρ r a x.0 v n in let z = says.if_true (sym x.0.value ∙ t) in
            telling find (asks_find (ρ.events r).action k) z.0 z.1 (inl (t, z.2))

    -- an operation answered true or false: an insert or a delete answered true, or it has a witness
    pub true_or_told : a.value ≢ fail_answer → ((a.value ≡ true_answer) × ((kind_at ρ r ≡ insert_kind) ⊎ (kind_at ρ r ≡ delete_kind))) ⊎ Told
    true_or_told n = cases (ℕ_discrete (kind_at ρ r) insert_kind) (ℕ_discrete (kind_at ρ r) delete_kind) (ℕ_discrete a.value false_answer)
      where
        cases : Dec (kind_at ρ r ≡ insert_kind) → Dec (kind_at ρ r ≡ delete_kind) → Dec (a.value ≡ false_answer)
            → ((a.value ≡ true_answer) × ((kind_at ρ r ≡ insert_kind) ⊎ (kind_at ρ r ≡ delete_kind))) ⊎ Told
        cases (yes k) d (yes v) = inr (insert_told k v)
        cases (yes k) d (no v) = inl (value_true ρ r a x.0 v n, inl k)
        cases (no i) (yes k) (yes v) = inr (delete_told k v)
        cases (no i) (yes k) (no v) = inl (value_true ρ r a x.0 v n, inr k)
        cases (no i) (no k) d = inr (find_told (omega (arith, is.request, i, k)) n d)
