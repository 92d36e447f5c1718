-- What every outcome of an event meets, if each of its branches does: one law for each definition that branches. Rests on Events and, for
-- the limits of sizes, on Fitting.
use mathlib.Core.Path.{◌≡◌, refl, sym, ap, ◌∙◌}
use mathlib.Core.Bool.{Bool, true, false, cond, false≢true}
use Prim.Native.Nat.{ℕ, ◌≤◌, ◌<◌}
use lib.Dec.{ltb, eqb}
use lib.ListN.{length}
use lib.Seq.{set-get_or}
use native.Mathlib.Omega.{arith}
use borrow.Author.Tests.{le-leb, lt-leb, le-ltb, ltb-true}
use Rattle.record.specs.Record.{fresh_record, requested, went_down, restarted, no_node, insert_kind, delete_kind, find_kind}
use Rattle.record.specs.declared.Process.{Process}
use Rattle.record.specs.declared.Address.{Address}
use Rattle.record.specs.declared.Record.{Record}
use Rattle.record.specs.declared.Action.{Action}
use Rattle.record.specs.declared.Action.TheVariants.{Insert, Delete, Find, Step, Stop, Restart}
use Rattle.record.specs.declared.Event.{Event}
use Rattle.record.specs.declared.Outcome.TheVariants.{Refused, Accepted}
use Rattle.table.specs.Words.{Memory, given_out, next_node, none_left, written}
use Rattle.table.specs.Steps.{turn_in}
use Rattle.table.specs.Events.{Left, leaving, refused, step, does, status_needed, tables_fit, act, State, record_in, Leaves, leaves_in}
use Rattle.table.specs.Events.{state_of, stored, event, refusal_in}
use Rattle.basics.proofs.Tests.{if, if_le, by-test}
use Rattle.table.proofs.Laws.Fitting.{limits}

-- an action on the record alone: the memory stays, and it is accepted
pub data Alone (r : Record) : Action → Record → Type 0 where
  deletes : {a : Address} → Alone r (Delete a) (requested 0 delete_kind a no_node r)
  finds : {a : Address} → Alone r (Find a) (requested 11 find_kind a no_node r)
  stops : Alone r Stop (went_down r)
  restarts : Alone r Restart (restarted r)

pub does_alone : {r s : Record} {x : Action} → Alone r x s → (m : Memory) (p : Process) → does m p r x ≡ leaving m s Accepted
unfolding does
does_alone deletes m p = refl
does_alone finds m p = refl
does_alone stops m p = refl
does_alone restarts m p = refl

-- every action is an insert, a step, or on the record alone
pub by_action : {X : Type 0} (r : Record) (x : Action) → ((a : Address) → x ≡ Insert a → X) → (x ≡ Step → X) → ((s : Record) → Alone r x s → X) → X
by_action r (Insert a) insert step alone = insert a refl
by_action r (Delete a) insert step alone = alone _ deletes
by_action r (Find a) insert step alone = alone _ finds
by_action r Step insert step alone = step refl
by_action r Stop insert step alone = alone _ stops
by_action r Restart insert step alone = alone _ restarts

module _ (P : Left → Type 0) (m : Memory) (p : Process) (r : Record) where
  pub step_meets : ((turn_in m p r).fits ≡ true → P (leaving (written (turn_in m p r).writes m) (turn_in m p r).after (turn_in m p r).says))
      → P (refused m r 8) → P (step m p r)
  unfolding step
  step_meets done refusal = if P (turn_in m p r).fits done (λ unfit. refusal)

  pub insert_meets : (a : Address) → (none_left m ≡ true → P (refused m r 3))
      → (none_left m ≡ false → P (leaving (given_out a m) (requested 0 insert_kind a (next_node m) r) Accepted)) → P (does m p r (Insert a))
  unfolding does
  insert_meets a refusal done = if P (none_left m) refusal done

  pub does_meets : (x : Action) → P (refused m r 3)
      → ((a : Address) → x ≡ Insert a → none_left m ≡ false → P (leaving (given_out a m) (requested 0 insert_kind a (next_node m) r) Accepted))
      → P (refused m r 8)
      → (x ≡ Step → (turn_in m p r).fits ≡ true → P (leaving (written (turn_in m p r).writes m) (turn_in m p r).after (turn_in m p r).says))
      → ((s : Record) → Alone r x s → P (leaving m s Accepted)) → P (does m p r x)
  unfolding does
  does_meets x none insert unfit step alone = by_action r x
      (λ a is. rw is (insert_meets a (λ e. none) (insert a is)))
      (λ is. rw is (step_meets (step is) unfit))
      (λ s z. rw (does_alone z m p) (alone s z))

  -- 7, 1, 2 in this order, or what is done; each with what was found before it
  judged_meets : (fit there ready : Bool) (d : Left) → (fit ≡ false → P (refused m r 7)) → (fit ≡ true → there ≡ false → P (refused m r 1))
      → (fit ≡ true → there ≡ true → ready ≡ false → P (refused m r 2)) → (fit ≡ true → there ≡ true → ready ≡ true → P d)
      → P (cond (eqb (refusal_in fit there ready) 0) d (refused m r (refusal_in fit there ready)))
  unfolding refusal_in
  judged_meets true true true d unfit beyond other done = done refl refl refl
  judged_meets true true false d unfit beyond other done = other refl refl refl
  judged_meets true false ready d unfit beyond other done = beyond refl refl
  judged_meets false there ready d unfit beyond other done = unfit refl

  module _ (x : Action) where
    abbrev fit : Bool
    fit = tables_fit m

    abbrev there : Bool
    there = ltb p.0 m.processes

    abbrev ready : Bool
    ready = eqb r.kept.status (status_needed x)

    pub act_judged : (fit ≡ false → P (refused m r 7)) → (fit ≡ true → there ≡ false → P (refused m r 1))
        → (fit ≡ true → there ≡ true → ready ≡ false → P (refused m r 2))
        → (fit ≡ true → there ≡ true → ready ≡ true → P (does m p r x)) → P (act m p r x)
    unfolding act
    act_judged = judged_meets fit there ready (does m p r x)

    pub act_meets : ((n : ℕ) → P (leaving m r (Refused n))) → (fit ≡ true → there ≡ true → P (does m p r x)) → P (act m p r x)
    act_meets refusal done = act_judged (λ f. refusal 7) (λ f t. refusal 1) (λ f t s. refusal 2) (λ f t s. done f t)

-- a refusal leaves every record as it was
pub refused_stored : (σ : State) (p : Process) (n : ℕ) → stored σ p (leaving σ.memory (record_in σ p) (Refused n)) ≡ leaves_in σ (Refused n)
unfolding stored record_in
refused_stored σ p n = rw (set-get_or σ.row p.0 fresh_record)

-- refused for its tables or its process: with whatever record
abbrev pub Never : Memory → Process → Type 0
Never m p = tables_fit m ≡ true → ltb p.0 m.processes ≡ true → ⊥

pub refused_anywhere : (m : Memory) (p : Process) (r : Record) (x : Action) → Never m p
    → act m p r x ≡ leaving m r (cond (tables_fit m) (Refused 1) (Refused 7))
refused_anywhere m p r x never =
    act_judged (λ d. d ≡ leaving m r (cond (tables_fit m) (Refused 1) (Refused 7))) m p r x
    (λ unfit. rw unfit refl) (λ fit beyond. rw fit refl) (λ fit there other. absurd (never fit there)) (λ fit there ready. absurd (never fit there))

-- so refused, worked on any record of a row: it is stored back as it was
refused_in_row : (σ : State) (p q : Process) (x : Action) → Never σ.memory p
    → stored σ q (act σ.memory p (record_in σ q) x) ≡ leaves_in σ (cond (tables_fit σ.memory) (Refused 1) (Refused 7))
refused_in_row σ p q x never =
    ap (stored σ q) (refused_anywhere σ.memory p (record_in σ q) x never)
    ∙ by-test (tables_fit σ.memory) (λ fit. rw fit (refused_stored σ q 1)) (λ unfit. rw unfit (refused_stored σ q 7))

-- ---- an event in a row of records

module _ (σ : State) (e : Event) where
  abbrev done : Leaves
  done = stored σ e.process (act σ.memory e.process (record_in σ e.process) e.action)

  pub event_meets : (P : Leaves → Type 0) → (σ.memory.processes ≤ length σ.row → P done) → P (leaves_in σ (Refused 7)) → P (event σ e)
  unfolding event
  event_meets P long short = if_le P σ.memory.processes (length σ.row) long (λ few. short)

  -- in a row that is long enough
  pub event_in_row : σ.memory.processes ≤ length σ.row → event σ e ≡ done
  unfolding event
  event_in_row long = rw (le-leb σ.memory.processes (length σ.row) long)

  pub event_in_short_row : length σ.row < σ.memory.processes → event σ e ≡ leaves_in σ (Refused 7)
  unfolding event
  event_in_short_row short = rw (lt-leb σ.memory.processes (length σ.row) short)

  -- of a process that is not there, whatever record it is worked on: nothing is stored
  module _ (long : σ.memory.processes ≤ length σ.row) (beyond : σ.memory.processes ≤ e.process.0) (r : Record) where
    never : Never σ.memory e.process
    never fit there = false≢true (sym (le-ltb e.process.0 σ.memory.processes beyond) ∙ there)

    pub event_of_nobody : event σ e ≡ leaves_in σ (act σ.memory e.process r e.action).outcome
    event_of_nobody =
        event_in_row long
        ∙ refused_in_row σ e.process e.process e.action never
        ∙ ap (λ (d : Left). leaves_in σ d.outcome) (sym (refused_anywhere σ.memory e.process r e.action never))

    -- the same, with the memory that is left of the one worked on
    pub event_left_by_nobody : let d = act σ.memory e.process r e.action in event σ e ≡ leaves_in (state_of d.memory σ.row) d.outcome
    event_left_by_nobody =
        let d = act σ.memory e.process r e.action in
        event_of_nobody
        ∙ ap (λ (m : Memory). leaves_in (state_of m σ.row) d.outcome)
        (sym (ap (λ (d : Left). d.memory) (refused_anywhere σ.memory e.process r e.action never)))

  -- worked on the record of a slot in a row of 64, where a process that is there has its own: 64 is the limit for sizes that fit
  module _ (slot : Process) (long : 64 ≤ length σ.row)
      (own : tables_fit σ.memory ≡ true → e.process.0 < σ.memory.processes → slot ≡ e.process) where
    abbrev at_slot : Process → Leaves
    at_slot q = stored σ q (act σ.memory e.process (record_in σ q) e.action)

    same_slot : Never σ.memory e.process → at_slot e.process ≡ at_slot slot
    same_slot never = refused_in_row σ e.process e.process e.action never ∙ sym (refused_in_row σ e.process slot e.action never)

    slot_where_fit : tables_fit σ.memory ≡ true → event σ e ≡ at_slot slot
    slot_where_fit fit =
        event_in_row (omega (arith, (limits σ.memory fit).few_processes))
        ∙ by-test (ltb e.process.0 σ.memory.processes)
        (λ there. ap at_slot (sym (own fit (ltb-true e.process.0 σ.memory.processes there))))
        (λ past. same_slot (λ _ there. false≢true (sym past ∙ there)))

    slot_where_unfit : tables_fit σ.memory ≡ false → event σ e ≡ at_slot slot
    slot_where_unfit unfit =
        let never : Never σ.memory e.process = λ fit there. false≢true (sym unfit ∙ fit) in
        event_meets (λ l. l ≡ at_slot slot) (λ _. same_slot never) (sym (rw unfit at (refused_in_row σ e.process slot e.action never)))

    pub event_by_slot : event σ e ≡ at_slot slot
    event_by_slot = by-test (tables_fit σ.memory) slot_where_fit slot_where_unfit
