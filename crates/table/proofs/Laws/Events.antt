-- Laws of events: what a refusal leaves, whose record changes, what becomes of the count and of addresses. Rests on Meets and Numbered.
use mathlib.Core.Path.{◌≡◌, refl, ◌∙◌, ap}
use mathlib.Core.Logic.{◌≢◌}
use mathlib.Core.Bool.{true, false, cond, ◌&&◌, and-false}
use Prim.Native.Nat.{ℕ, ◌+◌}
use native.Mathlib.Omega.{arith}
use lib.Dec.{eqb}
use lib.Seq.{get_or-set_other}
use Rattle.record.specs.Record.{fresh_record, insert_kind}
use Rattle.record.specs.Event.{kind_of, is_accepted}
use Rattle.record.specs.declared.Node.{Node}
use Rattle.record.specs.declared.Process.{Process}
use Rattle.record.specs.declared.Record.{Record}
use Rattle.record.specs.declared.Action.{Action}
use Rattle.record.specs.declared.Event.{Event}
use Rattle.record.specs.declared.Outcome.{Outcome}
use Rattle.record.specs.declared.Outcome.TheVariants.{Refused, Accepted, Answered}
use Rattle.table.specs.Words.{Memory, address_at, in_use}
use Rattle.table.specs.Places.{Row, read_link, write_link, swap_link, read_deleter, swap_deleter, write_node, own_record, hand_out, row, place_of}
use Rattle.table.specs.Steps.{access_of, turn_in}
use Rattle.table.specs.Events.{Left, leaving, does, act, State, record_in, Leaves, stored, event}
use Rattle.table.proofs.Laws.Fitting.{count_written, count_given}
use Rattle.table.proofs.Laws.Meets.{Alone, deletes, finds, stops, restarts, does_meets, act_meets, refused_stored, event_meets}
use Rattle.table.proofs.Laws.Numbered.{address_written, used_not_next, given_address_else}

-- ---- "nothing changed"

pub accepted_not_refused : {n : ℕ} → Accepted ≡ Refused n → ⊥
accepted_not_refused e = let z : ◌≡◌ {A = ℕ} 0 1 = cc in omega arith

answered_not_refused : {n v : ℕ} → Answered v ≡ Refused n → ⊥
answered_not_refused e = let z : ◌≡◌ {A = ℕ} 0 1 = cc in omega arith

-- an access refuses nothing by itself
says_no_refusal : (p : Process) (r : Record) (x : Row) (n : ℕ) → (access_of p r x).says ≡ Refused n → ⊥
says_no_refusal p r (read_link f follows) n e = accepted_not_refused e
says_no_refusal p r (write_link f new after) n e = accepted_not_refused e
says_no_refusal p r (swap_link f old new done lost) n e = accepted_not_refused e
says_no_refusal p r (read_deleter f follows) n e = accepted_not_refused e
says_no_refusal p r (swap_deleter f after) n e = accepted_not_refused e
says_no_refusal p r (write_node f after) n e = accepted_not_refused e
says_no_refusal p r (own_record after) n e = accepted_not_refused e
says_no_refusal p r (hand_out answer after) n e = answered_not_refused e

pub turn_no_refusal : (m : Memory) (p : Process) (r : Record) (n : ℕ) → (turn_in m p r).says ≡ Refused n → ⊥
unfolding turn_in
turn_no_refusal m p r = says_no_refusal p r (row m.addresses (place_of r.lost.place) r)

-- where an event was refused, the memory and the record are as they were
abbrev Unchanged : Memory → Record → Left → Type 0
Unchanged m r d = (n : ℕ) → d.outcome ≡ Refused n → d ≡ leaving m r (Refused n)

refused_is : (m : Memory) (r : Record) (n : ℕ) → Unchanged m r (leaving m r (Refused n))
refused_is m r n k e = ap (λ o. leaving m r o) e

does_refused : (m : Memory) (p : Process) (r : Record) (x : Action) → Unchanged m r (does m p r x)
does_refused m p r x = does_meets (Unchanged m r) m p r x
    (refused_is m r 3) (λ a is spare n e. absurd (accepted_not_refused e))
    (refused_is m r 8) (λ is fits n e. absurd (turn_no_refusal m p r n e))
    (λ s alone n e. absurd (accepted_not_refused e))

pub refused_act_changes_nothing : (m : Memory) (p : Process) (r : Record) (x : Action) (n : ℕ)
    → (act m p r x).outcome ≡ Refused n → act m p r x ≡ leaving m r (Refused n)
refused_act_changes_nothing m p r x = act_meets (Unchanged m r) m p r x (refused_is m r) (λ fit there. does_refused m p r x)

pub refused_changes_nothing : (σ : State) (e : Event) (n : ℕ) → (event σ e).outcome ≡ Refused n → (event σ e).after ≡ σ
unfolding stored
refused_changes_nothing σ e =
    event_meets σ e (λ l. (n : ℕ) → l.outcome ≡ Refused n → l.after ≡ σ)
    (λ long n h.
    ap (λ d. (stored σ e.process d).after)
    (refused_act_changes_nothing σ.memory e.process (record_in σ e.process) e.action n h)
    ∙ ap (λ (l : Leaves). l.after) (refused_stored σ e.process n))
    (λ n h. refl)

-- ---- "other records are untouched"

pub others_untouched : (σ : State) (e : Event) (q : Process) → q.0 ≢ e.process.0 → record_in (event σ e).after q ≡ record_in σ q
unfolding stored record_in
others_untouched σ e q other =
    event_meets σ e (λ l. record_in l.after q ≡ record_in σ q)
    (λ long. get_or-set_other σ.row e.process.0 q.0 _ fresh_record other)
    refl

-- ---- "Nodes are given out in rising number; a count says how many": only an insert moves it, by one

-- the count after an action of that outcome
unfoldable pub count_after : Action → Outcome → ℕ → ℕ
count_after x o count = cond (eqb (kind_of x) insert_kind && is_accepted o) (count + 1) count

abbrev Counts : Memory → Action → Left → Type 0
Counts m x d = d.memory.count ≡ count_after x d.outcome m.count

refused_counts : (m : Memory) (r : Record) (x : Action) (n : ℕ) → Counts m x (leaving m r (Refused n))
unfolding count_after
refused_counts m r x n = rw (and-false (eqb (kind_of x) insert_kind))

-- an action on the record alone is no insert
alone_no_insert : {r s : Record} {x : Action} → Alone r x s → eqb (kind_of x) insert_kind ≡ false
alone_no_insert deletes = refl
alone_no_insert finds = refl
alone_no_insert stops = refl
alone_no_insert restarts = refl

does_counts : (m : Memory) (p : Process) (r : Record) (x : Action) → Counts m x (does m p r x)
unfolding count_after
does_counts m p r x = does_meets (Counts m x) m p r x
    (refused_counts m r x 3) (λ a is spare. rw is (count_given a m))
    (refused_counts m r x 8) (λ is fits. rw is (count_written (turn_in m p r).writes m))
    (λ s alone. rw (alone_no_insert alone))

pub only_inserts_move_the_count : (σ : State) (e : Event)
    → (event σ e).after.memory.count ≡ count_after e.action (event σ e).outcome σ.memory.count
unfolding stored
only_inserts_move_the_count σ e =
    let m = σ.memory in
    let r = record_in σ e.process in
    event_meets σ e (λ l. l.after.memory.count ≡ count_after e.action l.outcome m.count)
    (λ long. act_meets (Counts m e.action) m e.process r e.action (refused_counts m r e.action)
    (λ fit there. does_counts m e.process r e.action))
    (refused_counts m r e.action 7)

-- ---- "address words, fixed while a node is in use"

abbrev Fixed : Memory → Node → Left → Type 0
Fixed m n d = address_at d.memory n ≡ address_at m n

does_fixed : (m : Memory) (p : Process) (r : Record) (x : Action) (n : Node) → in_use m n ≡ true → Fixed m n (does m p r x)
does_fixed m p r x n u = does_meets (Fixed m n) m p r x
    refl (λ a is spare. given_address_else a m n.0 (used_not_next m n.0 u))
    refl (λ is fits. address_written (turn_in m p r).writes m n.0)
    (λ s alone. refl)

pub address_fixed_while_in_use : (σ : State) (e : Event) (n : Node) → in_use σ.memory n ≡ true
    → address_at (event σ e).after.memory n ≡ address_at σ.memory n
unfolding stored
address_fixed_while_in_use σ e n used =
    let m = σ.memory in
    let r = record_in σ e.process in
    event_meets σ e (λ l. address_at l.after.memory n ≡ address_at m n)
    (λ long. act_meets (Fixed m n) m e.process r e.action (λ k. refl) (λ fit there. does_fixed m e.process r e.action n used))
    refl
