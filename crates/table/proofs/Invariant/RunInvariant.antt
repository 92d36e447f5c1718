-- What holds at every moment of a run: the list is orderly, and of every process it is known what its open operation rests on.
-- Rests on EventCases, Played and the steps of inserts, deletes and finds.
use mathlib.Core.Option.{some-ne-none}
use Rattle.table.proofs.Common.{◌≡◌, refl, sym, ◌∙◌, ap, ◌≢◌, ◌⊎◌, inl, inr, true, false, none, some, ℕ, zero, suc, ◌+◌, ◌/◌, ◌≤◌, ◌<◌, arith}
use Rattle.table.proofs.Common.{ℕ_discrete, length, node, process, idle_status, running_status, down_status, insert_kind, requested, went_down, restarted, kind_of}
use Rattle.table.proofs.Common.{address_of, Address, Record, Event, Action, Insert, Step, Outcome, Refused, Accepted, Memory, above_all, Write}
use Rattle.table.proofs.Common.{nothing, next_node, none_left, written, given_out, Place, place_of, in_range, status_needed, State, Leaves, leaves_in}
use Rattle.table.proofs.Common.{event, Answer, answer_at, at, out}
use Rattle.basics.proofs.Tests.{none_or_some}
use Rattle.table.proofs.Laws.Fitting.{room_of}
use Rattle.table.specs.Chain.{follows}
use Rattle.table.proofs.Laws.InUse.{tail_in_use, next_inner, given_used, given_keeps_used}
use Rattle.table.proofs.Laws.Meets.{Alone, deletes, finds, stops, restarts}
use Rattle.table.proofs.Laws.Reaching.{origin}
use Rattle.table.proofs.Laws.Numbered.{link_in, deleter_in, rank_in, Used, own_in, asked_in, plain_to, unmarked_plain, plain_unmarked, on_node}
use Rattle.table.proofs.Laws.Numbered.{rank_head, next_in, used_not_next, given_link, given_deleter, given_link_else, given_deleter_else}
use Rattle.table.proofs.Laws.Events.{accepted_not_refused}
use Rattle.table.proofs.Invariant.Effects.{Orderly, Keeps, Does, rests, does_keeps, does_else, given_rank, given_back, given_keeps}
use Rattle.table.proofs.Invariant.Moments.{Course, course_onward, used_now, GivenAt, given_once, marked_or_not}
use Rattle.table.proofs.Invariant.Known.{New, insert_0, insert_13, delete_0, delete_13, find_11, find_13, InsertKnown, KnownOf, inserting}
use Rattle.table.proofs.Invariant.Known.{deleting, finding, insert_node, delete_node, insert_says_nothing, delete_says_nothing}
use Rattle.table.proofs.Invariant.KnownWrites.{goes_at, writes_at, says_at, insert_does, delete_does, find_does}
use Rattle.table.proofs.Invariant.KnownStays.{never⁺, new⁺, other_deleter, new_stays⁺, insert_known⁺, delete_known⁺, find_known⁺}
use Rattle.table.proofs.Invariant.InsertSteps.{insert_goes}
use Rattle.table.proofs.Invariant.DeleteSteps.{delete_goes}
use Rattle.table.proofs.Invariant.FindSteps.{find_goes}
use Rattle.table.proofs.Invariant.EventCases.{record_at, state_with, record_same, record_else, Able, Happens, refuses, inserts, steps, alone}
use Rattle.table.proofs.Invariant.EventCases.{happens}
use Rattle.table.proofs.Invariant.GoingOn.{goes_on}
use Rattle.table.proofs.Invariant.Played.{Played, state_at, memory_at, record_then, outcome_at, process_at, kind_at, address_asked, asked_at}
use Rattle.table.proofs.Invariant.Played.{run_sizes_stay, IsOperation, answer_to, hands, answer_stays, answer_else, answer_quiet}
use Rattle.table.proofs.Invariant.Played.{answer_now, answer_early}

module _ (ρ : Played) where
  abbrev e : ℕ → Event
  e = ρ.events

  abbrev S : ℕ → State
  S = state_at ρ

  abbrev M : ℕ → Memory
  M = memory_at ρ

  abbrev R : (t p : ℕ) → Record
  R = record_then ρ

  -- the process of event t
  abbrev P : ℕ → ℕ
  P = process_at ρ

  -- p works on the operation that event r requested, and on no other
  pub record Busy (t p r : ℕ) : Type 0 where
    pub before : r < t
    pub is : IsOperation ρ r
    pub by : process_at ρ r ≡ p
    pub opened : answer_to ρ t r ≡ none
    pub only : (r' : ℕ) → IsOperation ρ r' → r' < t → process_at ρ r' ≡ p → answer_to ρ t r' ≡ none → r' ≡ r
    pub named : asked_in (R t p) ≡ asked_at ρ r
    pub known : KnownOf M r t p (R t p) (e r).action

  pub record Resting (t p : ℕ) : Type 0 where
    pub status : p < ρ.start.memory.processes → (R t p).kept.status ≡ idle_status
    pub done : (r : ℕ) → IsOperation ρ r → r < t → process_at ρ r ≡ p → answer_to ρ t r ≢ none

  pub record Working (t p : ℕ) : Type 0 where
    pub status : (R t p).kept.status ≢ idle_status
    pub op : ℕ
    pub busy : Busy t p op

  pub record Invariant (t : ℕ) : Type 0 where
    pub course : Course M t
    pub process : (p : ℕ) → Resting t p ⊎ Working t p

  -- ---- another process's event, seen from q: what it leaves of q's new node and of q's deleters

  pub record Harmless (t q : ℕ) : Type 0 where
    pub node : (r n : ℕ) → Busy t q r → GivenAt M r t n → New M t n → New M (suc t) n × (link_in (M (suc t)) n ≡ link_in (M t) n)
    pub deleters : (x : ℕ) → deleter_in (M t) x ≢ q + 1 → deleter_in (M (suc t)) x ≢ q + 1

  known⁺ : (t p r : ℕ) (Q : Record) {x : Action} → Course M (suc t) → Harmless t p → Busy t p r → KnownOf M r t p Q x → KnownOf M r (suc t) p Q x
  known⁺ t p r Q H m b (inserting o) = inserting (insert_known⁺ H r Q (λ f. (node f).0) (λ f. (node f).1) o)
    where
      node : New M t (own_in Q) → New M (suc t) (own_in Q) × (link_in (M (suc t)) (own_in Q) ≡ link_in (M t) (own_in Q))
      node = m.node r (own_in Q) b o.kept.node
  known⁺ t p r Q H m b (deleting o) = deleting (delete_known⁺ H r p Q (m.deleters (own_in Q)) o)
  known⁺ t p r Q H m b (finding o) = finding (find_known⁺ M t r Q o)

  module _ (t q : ℕ) (old : (r : ℕ) → IsOperation ρ r → r < suc t → process_at ρ r ≡ q → r < t)
      (same : (r : ℕ) → process_at ρ r ≡ q → answer_to ρ (suc t) r ≡ answer_to ρ t r) where
    -- q goes on with its operation
    continues : (w : Working t q) → (R (suc t) q).kept.status ≢ idle_status → asked_in (R (suc t) q) ≡ asked_in (R t q)
        → KnownOf M w.op (suc t) q (R (suc t) q) (e w.op).action → Working (suc t) q
    continues w status address known = record {
      status = status;
      op = w.op;
      busy = record {
        before = omega (arith, w.busy.before);
        is = w.busy.is;
        by = w.busy.by;
        opened = same w.op w.busy.by ∙ w.busy.opened;
        only = λ r i l pr h. w.busy.only r i (old r i l pr) pr (sym (same r pr) ∙ h);
        named = address ∙ w.busy.named;
        known = known;
      };
    }

    -- q's record is untouched
    carries : R (suc t) q ≡ R t q → Course M (suc t) → Harmless t q → Resting t q ⊎ Working t q → Resting (suc t) q ⊎ Working (suc t) q
    carries eq H m (inl x) = inl (record {
      status = λ l. ap (λ Q. Q.kept.status) eq ∙ x.status l;
      done = λ r i l pr h. x.done r i (old r i l pr) pr (sym (same r pr) ∙ h);
    })
    carries eq H m (inr w) = inr (continues w (λ z. w.status (sym (ap (λ Q. Q.kept.status) eq) ∙ z)) (ap (λ Q. asked_in Q) eq)
        (rw eq (known⁺ t q w.op (R t q) H m w.busy w.busy.known)))

  -- the event of another process
  other : (t q : ℕ) → q ≢ P t → R (suc t) q ≡ R t q → Course M (suc t) → Harmless t q → Resting t q ⊎ Working t q
      → Resting (suc t) q ⊎ Working (suc t) q
  other t q ne = carries t q
      (λ r i l pr. elim (ℕ_discrete r t) [ yes z ↦ absurd (ne (sym pr ∙ ap (λ x. process_at ρ x) z)) | no z ↦ omega arith ])
      (λ r pr. answer_else ρ t r (λ z. ne (sym pr ∙ z)))

  -- an operation is requested
  begins : (t : ℕ) → IsOperation ρ t → hands ρ t ≡ none → Resting t (P t) → (R (suc t) (P t)).kept.status ≢ idle_status
      → asked_in (R (suc t) (P t)) ≡ asked_at ρ t → KnownOf M t (suc t) (P t) (R (suc t) (P t)) (e t).action → Working (suc t) (P t)
  begins t is-operation hn x status address known = record {
    status = status;
    op = t;
    busy = record {
      before = omega arith;
      is = is-operation;
      by = refl;
      opened = answer_early ρ (suc t) t (omega arith);
      only = λ r i l pr' h. elim (ℕ_discrete r t) [
        | yes z ↦ z
        | no z ↦ absurd (x.done r i (omega arith) pr' (sym (answer_quiet ρ t r hn) ∙ h))
      ];
      named = address;
      known = known;
    };
  }

  -- an operation is answered
  finishes : (t : ℕ) (a : Answer) → (IsOperation ρ t → ⊥) → hands ρ t ≡ some a → (R (suc t) (P t)).kept.status ≡ idle_status → Resting (suc t) (P t)
  finishes t a no' hs status = record {
    status = λ l. status;
    done = λ r i l pr h. elim (ℕ_discrete r t) [
      | yes z ↦ no' (rw z at i)
      | no z ↦ elim (none_or_some (answer_to ρ t r)) [
        | inl o ↦ some-ne-none a (sym hs ∙ sym (answer_now ρ t r (omega arith) pr o) ∙ h)
        | inr o ↦ some-ne-none o.0 (sym (answer_stays ρ t r o.0 o.1) ∙ h)
      ]
    ];
  }

  -- ---- what an event leaves

  module _ (t : ℕ) {d : Leaves} (left : event (S t) (e t) ≡ d) where
    pub outcome_is : outcome_at ρ t ≡ d.outcome
    unfolding out
    outcome_is = ap (λ z. z.outcome) left

    pub next_is : S (suc t) ≡ d.after
    unfolding at
    next_is = ap (λ z. z.after) left

    pub handed_is : hands ρ t ≡ answer_at t d.outcome
    handed_is = ap (answer_at t) outcome_is

    pub memory_is : M (suc t) ≡ d.after.memory
    memory_is = ap (λ z. z.memory) next_is

  -- it leaves the memory m and the record Q for its process
  abbrev pub Becomes : (t : ℕ) → Memory → Record → Outcome → Type 0
  Becomes t m Q o = event (S t) (e t) ≡ leaves_in (state_with (S t) (P t) m Q) o

  module _ (t : ℕ) {m : Memory} (Q : Record) {o : Outcome} (left : Becomes t m Q o) where
    pub record_is : P t < length (S t).row → R (suc t) (P t) ≡ Q
    record_is l = ap (λ z. record_at z (P t)) (next_is t left) ∙ record_same (S t) (P t) m Q l

    -- and every other record as it was
    pub records_else : (q : ℕ) → q ≢ P t → R (suc t) q ≡ R t q
    records_else q ne = ap (λ z. record_at z q) (next_is t left) ∙ record_else (S t) (P t) m Q q ne

  -- ---- one event

  module _ (t : ℕ) (I : Invariant t) where
    grows : (m : Memory) → M (suc t) ≡ m → Orderly m × Keeps (M t) m → Course M (suc t)
    grows m eq x = course_onward I.course (rw eq x.0) (rw eq x.1)

    pub orderly_at : Orderly (M t)
    orderly_at = I.course.orderly t (omega arith)

    pub working : (p : ℕ) → p < (M t).processes → (R t p).kept.status ≢ idle_status → Working t p
    working p l h = elim (I.process p) [ inl x ↦ absurd (h (x.status (omega (arith, (run_sizes_stay ρ t).memory.processes)))) | inr w ↦ w ]

    resting : (p : ℕ) → (R t p).kept.status ≡ idle_status → Resting t p
    resting p h = elim (I.process p) [ inl x ↦ x | inr w ↦ absurd (w.status h) ]

    -- two open inserts have two nodes
    pub nodes_differ : (p q r r' x y : ℕ) → p ≢ q → Busy t p r → Busy t q r' → GivenAt M r t x → GivenAt M r' t y → x ≢ y
    nodes_differ p q r r' x y ne b b' g g' z = ne (sym b.by ∙ ap (λ s. process_at ρ s) same ∙ b'.by)
      where
        same : r ≡ r'
        same = given_once I.course (omega (arith, b.before)) (omega (arith, b'.before)) g (rw (sym z) at g')

    harmless_does : (p q n k : ℕ) (f : Write) (d : Does (M t) p n k f) → M (suc t) ≡ written f (M t) → Course M (suc t) → q ≢ p
        → ((r x : ℕ) → Busy t q r → GivenAt M r t x → x ≢ n) → Harmless t q
    harmless_does p q n k f d eq H ne ds = record {
      node = λ r x b g new. (
        new⁺ H d eq x (λ z. ds r x b g) (λ z. ds r x b g) new,
        ap (λ m. link_in m x) eq ∙ does_else orderly_at d x (λ o. new.never (t, omega arith, o)) (λ z. ds r x b g),
      );
      deleters = λ x h. other_deleter H d eq q x ne h;
    }

    harmless_same : (q : ℕ) → M (suc t) ≡ M t → Course M (suc t) → Harmless t q
    harmless_same q eq H = record {
      node = λ r x b g new. (new_stays⁺ H eq new, ap (λ m. link_in m x) eq);
      deleters = λ x h z. h (ap (λ m. deleter_in m x) (sym eq) ∙ z);
    }

    harmless_given : (q : ℕ) (a : Address) → none_left (M t) ≡ false → M (suc t) ≡ given_out a (M t) → Harmless t q
    harmless_given q a spare eq = record {
      node = λ r x b g new. (
        record {
          never = never⁺ M new.never (λ o. new.never (t, omega arith, given_back orderly_at a spare (rw eq at o)));
          plain = omega (arith, link_eq x g.used, new.plain);
          leads = rw (ap (λ y. y / 2) (link_eq x g.used), eq) (given_keeps_used a (M t) (follows (M t) (node x)) new.leads);
          unsigned = ap (λ m. deleter_in m x) eq ∙ given_deleter_else a (M t) x (used_not_next (M t) x g.used) ∙ new.unsigned;
        },
        link_eq x g.used,
      );
      deleters = λ x h z. elim (ℕ_discrete x (next_in (M t))) [
        | yes y ↦ absurd (omega (
          arith,
          ap (λ m. deleter_in m x) eq,
          ap (deleter_in (given_out a (M t))) y,
          given_deleter a (M t) orderly_at.room spare,
        ))
        | no y ↦ h (sym (given_deleter_else a (M t) x y) ∙ ap (λ m. deleter_in m x) (sym eq) ∙ z)
      ];
    }
      where
        link_eq : (x : ℕ) → Used (M t) x → link_in (M (suc t)) x ≡ link_in (M t) x
        link_eq x u = ap (λ m. link_in m x) eq ∙ given_link_else a (M t) x (used_not_next (M t) x u)

    -- no new operation: those before t + 1 are before t
    no_new : (IsOperation ρ t → ⊥) → (r : ℕ) → IsOperation ρ r → r < suc t → r < t
    no_new h r is-operation l = elim (ℕ_discrete r t) [ yes z ↦ absurd (h (rw z at is-operation)) | no z ↦ omega arith ]

    same_course : M (suc t) ≡ M t → Course M (suc t)
    unfolding written
    same_course eq = let d : Does (M t) 0 0 0 nothing = rests in grows (M t) eq (does_keeps orderly_at d)

    refused_no_operation : (k : ℕ) → event (S t) (e t) ≡ leaves_in (S t) (Refused k) → IsOperation ρ t → ⊥
    refused_no_operation k left is-operation = accepted_not_refused (sym is-operation.accepted ∙ outcome_is t left)

    after_refused : (k : ℕ) → event (S t) (e t) ≡ leaves_in (S t) (Refused k) → Invariant (suc t)
    after_refused k left = record {
      course = H;
      process = λ q. carries t q (λ r is-operation l pr. no_new (refused_no_operation k left) r is-operation l)
          (λ r pr. answer_quiet ρ t r (handed_is t left))
          (ap (λ z. record_at z q) (next_is t left)) H (harmless_same q (memory_is t left) H) (I.process q);
    }
      where
        H : Course M (suc t)
        H = same_course (memory_is t left)

    -- an event of a process, from what it leaves of it and does to the others
    after_event : {m : Memory} (Q : Record) {o : Outcome} → Becomes t m Q o → Course M (suc t)
        → ((q : ℕ) → q ≢ P t → Harmless t q) → Resting (suc t) (P t) ⊎ Working (suc t) (P t) → Invariant (suc t)
    after_event Q left H ml me = record {
      course = H;
      process = λ q. elim (ℕ_discrete q (P t)) [
        | yes z ↦ rw z me
        | no z ↦ other t q z (records_else t Q left q z) H (ml q z) (I.process q)
      ];
    }

    -- ---- requests

    -- a request: the record is Q, and of it the facts of a beginning are known
    after_request : {m : Memory} (Q : Record) → Able (S t) (P t) idle_status → Becomes t m Q Accepted
        → kind_at ρ t ≤ 2 → Q.kept.status ≢ idle_status → asked_in Q ≡ asked_at ρ t → Course M (suc t) → ((q : ℕ) → q ≢ P t → Harmless t q)
        → KnownOf M t (suc t) (P t) Q (e t).action → Invariant (suc t)
    after_request Q b left kind status address H ml known = after_event Q left H ml
        (inr (begins t (record { request = kind; accepted = outcome_is t left }) (handed_is t left) (resting (P t) b.has)
        (λ z. status (sym (ap (λ x. x.kept.status) is) ∙ z)) (ap (λ x. x.kept.address.0) is ∙ address)
        (rw is known)))
      where
        is : R (suc t) (P t) ≡ Q
        is = record_is t Q left b.in_row

    small : (a : Address) → address_of (e t).action ≡ some a → a.0 + 1 < above_all
    small a q = omega (arith, ρ.fit t a q)

    after_insert : (a : Address) → (e t).action ≡ Insert a → Able (S t) (P t) idle_status → none_left (M t) ≡ false
        → Becomes t (given_out a (M t)) (requested 0 insert_kind a (next_node (M t)) (R t (P t))) Accepted → Invariant (suc t)
    unfolding place_of
    after_insert a action_is b spare left = after_request (requested 0 insert_kind a (next_node (M t)) (R t (P t))) b left
        (omega (arith, ap kind_of action_is)) (λ z. absurd (omega arith)) (sym (ap address_asked action_is)) H
        (λ q z. harmless_given q a spare memory_eq) (rw action_is (inserting known))
      where
        n : ℕ
        n = next_in (M t)

        memory_eq : M (suc t) ≡ given_out a (M t)
        memory_eq = memory_is t left

        H : Course M (suc t)
        H = grows (given_out a (M t)) memory_eq (given_keeps orderly_at a spare)

        link_eq : link_in (M (suc t)) n ≡ plain_to 1
        link_eq = ap (λ m. link_in m n) memory_eq ∙ given_link a (M t) orderly_at.room spare

        new : New M (suc t) n
        new = record {
          never = never⁺ M (λ u. used_not_next (M t) n (used_now I.course u.0 u.1 u.2) refl)
              (λ o. used_not_next (M t) n (orderly_at.used n (given_back orderly_at a spare (rw memory_eq at o))) refl);
          plain = omega (arith, link_eq);
          leads = rw (ap (λ y. y / 2) link_eq) (tail_in_use (H.orderly (suc t) (omega arith)).room);
          unsigned = ap (λ m. deleter_in m n) memory_eq ∙ given_deleter a (M t) orderly_at.room spare;
        }

        in_use : Used (M (suc t)) n
        in_use = rw memory_eq (given_used a (M t))

        known : InsertKnown M t (suc t) (requested 0 insert_kind a (next_node (M t)) (R t (P t)))
        known = record {
          kept = record {
            kind_is = refl;
            node = record { inner = next_inner orderly_at.room; given = refl; taken = in_use; used = in_use };
            named = ap (λ m. rank_in m n) memory_eq ∙ given_rank orderly_at a spare;
            small = small a (ap address_of action_is);
            own = inr new;
            said = insert_says_nothing;
            no_fail = λ v. absurd (omega arith);
          };
          place = λ v. insert_0 (λ z. new) refl;
        }

    -- ---- an action on the record alone: the memory stays

    module _ (Q : Record) (left : Becomes t (M t) Q Accepted) where
      memory_eq : M (suc t) ≡ M t
      memory_eq = memory_is t left

      H-same : Course M (suc t)
      H-same = same_course memory_eq

      harmless : (q : ℕ) → Harmless t q
      harmless q = harmless_same q memory_eq H-same

      after_plain_request : Able (S t) (P t) idle_status → kind_at ρ t ≤ 2 → Q.kept.status ≢ idle_status → asked_in Q ≡ asked_at ρ t
          → KnownOf M t (suc t) (P t) Q (e t).action → Invariant (suc t)
      after_plain_request b kind status address known = after_request Q b left kind status address H-same (λ q z. harmless q) known

      -- the process goes on with its operation
      after_turn : (needed : ℕ) → 3 ≤ kind_at ρ t → Able (S t) (P t) needed → needed ≢ idle_status → Q.kept.status ≢ idle_status
          → asked_in Q ≡ asked_in (R t (P t))
          → ((x : Action) (r : ℕ) → KnownOf M r (suc t) (P t) (R t (P t)) x → KnownOf M r (suc t) (P t) Q x) → Invariant (suc t)
      after_turn needed kind b busy status address known = after_event Q left H-same (λ q z. harmless q)
          (inr (continues t (P t) (λ r is-operation l pr. no_new (λ i. absurd (omega (arith, i.request))) r is-operation l)
          (λ r pr. answer_quiet ρ t r (handed_is t left)) w
          (λ z. status (sym (ap (λ x. x.kept.status) is) ∙ z)) (ap (λ x. x.kept.address.0) is ∙ address)
          (rw is (known (e w.op).action w.op (known⁺ t (P t) w.op (R t (P t)) H-same (harmless (P t)) w.busy w.busy.known)))))
        where
          w : Working t (P t)
          w = working (P t) b.there (λ z. busy (sym b.has ∙ z))

          is : R (suc t) (P t) ≡ Q
          is = record_is t Q left b.in_row

    known_down : {x : Action} (r p : ℕ) (Q : Record) → KnownOf M r (suc t) p Q x → KnownOf M r (suc t) p (went_down Q) x
    known_down r p Q (inserting o) = inserting (record { kept = o.kept; place = λ v. absurd (omega arith) })
    known_down r p Q (deleting o) = deleting (record { kept = o.kept; place = λ v. absurd (omega arith) })
    known_down r p Q (finding o) = finding (record { kept = o.kept; place = λ v. absurd (omega arith) })

    known_restarted : {x : Action} (r p : ℕ) (Q : Record) → KnownOf M r (suc t) p Q x → KnownOf M r (suc t) p (restarted Q) x
    unfolding place_of
    known_restarted r p Q (inserting o) = inserting (record { kept = o.kept; place = λ v. insert_13 refl })
    known_restarted r p Q (deleting o) = deleting (record { kept = o.kept; place = λ v. delete_13 })
    known_restarted r p Q (finding o) = finding (record { kept = o.kept; place = λ v. find_13 })

    after_alone : (x : Action) (Q : Record) → (e t).action ≡ x → Able (S t) (P t) (status_needed x) → Becomes t (M t) Q Accepted
        → Alone (R t (P t)) x Q → Invariant (suc t)
    unfolding place_of
    after_alone x Q action_is b left (deletes {a = a}) = after_plain_request Q left b
        (omega (arith, ap kind_of action_is)) (λ z. absurd (omega arith)) (sym (ap address_asked action_is))
        (rw action_is (deleting (record {
          kept = record {
            kind_is = refl;
            small = small a (ap address_of action_is);
            saw = inl refl;
            said = delete_says_nothing;
            no_fail = λ v. absurd (omega arith);
          };
          place = λ v. delete_0 (record { node = refl; first = refl; blank = refl });
        })))
    after_alone x Q action_is b left (finds {a = a}) = after_plain_request Q left b
        (omega (arith, ap kind_of action_is)) (λ z. absurd (omega arith)) (sym (ap address_asked action_is))
        (rw action_is (finding (record {
          kept = record { kind_is = refl; small = small a (ap address_of action_is); blank = refl };
          place = λ v. find_11 (suc t) (record { since = record { after = omega arith; upto = omega arith }; on = origin refl })
              (omega (arith, rank_head (M (suc t))));
        })))
    after_alone x Q action_is b left stops = after_turn Q left running_status (omega (arith, ap kind_of action_is)) b (λ z. absurd (omega arith))
        (λ z. absurd (omega arith)) refl (λ v r. known_down r (P t) (R t (P t)))
    after_alone x Q action_is b left restarts = after_turn Q left down_status (omega (arith, ap kind_of action_is)) b (λ z. absurd (omega arith))
        (λ z. absurd (omega arith)) refl (λ v r. known_restarted r (P t) (R t (P t)))

    -- ---- a step

    -- what a step of p at place l writes
    pub step_does : (p r : ℕ) {x : Action} {l : Place} → place_of (R t p).lost.place ≡ l → (R t p).kept.status ≡ running_status
        → KnownOf M r t p (R t p) x
        → Does (M t) p (insert_node x (own_in (R t p))) (delete_node x (own_in (R t p))) (writes_at l (M t) p (R t p))
    step_does p r pl status (inserting o) = insert_does I.course p o.kept (rw pl at (o.place status))
    step_does p r pl status (deleting o) = delete_does I.course p o.kept (rw pl at (o.place status))
    step_does p r pl status (finding o) = find_does p (rw pl at (o.place status))

    known_goes : (p r : ℕ) {x : Action} (l : Place) → place_of (R t p).lost.place ≡ l → (R t p).kept.status ≡ running_status → in_range (R t p) ≡ true
        → r < t → Course M (suc t) → M (suc t) ≡ written (writes_at l (M t) p (R t p)) (M t) → KnownOf M r t p (R t p) x
        → KnownOf M r (suc t) p (goes_at l (M t) p (R t p)) x
    known_goes p r l pl status ok lt H eq (inserting o) = inserting (insert_goes H r p lt (R t p) o.kept l pl ok (rw pl at (o.place status)) eq)
    known_goes p r l pl status ok lt H eq (deleting o) = deleting (delete_goes H r p lt (R t p) o.kept l pl ok (rw pl at (o.place status)) eq)
    known_goes p r l pl status ok lt H eq (finding o) = finding (find_goes H r p lt (R t p) o.kept l (rw pl at (o.place status)))

    -- another open insert's node is not this one's
    step_differs : (p q : ℕ) → q ≢ p → (w : Working t p) {x : Action} → KnownOf M w.op t p (R t p) x
        → (r n : ℕ) → Busy t q r → GivenAt M r t n → n ≢ insert_node x (own_in (R t p))
    step_differs p q z w (inserting o) r n b g = nodes_differ q p r w.op n (own_in (R t p)) z b w.busy g o.kept.node
    step_differs p q z w (deleting o) r n b g = λ y. absurd (omega (arith, g.inner))
    step_differs p q z w (finding o) r n b g = λ y. absurd (omega (arith, g.inner))

    after_step : (e t).action ≡ Step → Able (S t) (P t) running_status → in_range (R t (P t)) ≡ true → (l : Place) → place_of (R t (P t)).lost.place ≡ l
        → Becomes t (written (writes_at l (M t) (P t) (R t (P t))) (M t)) (goes_at l (M t) (P t) (R t (P t))) (says_at l (M t) (P t) (R t (P t)))
        → Invariant (suc t)
    after_step action_is b ok l pl left = after_event _ left H
        (λ q z. harmless_does (P t) q _ _ _ d memory_eq H z (step_differs (P t) q z w w.busy.known))
        (elim (goes_on l (M t) (P t) (R t (P t))) [
          | inl z ↦ inl (finishes t (record { time = t; value = (R t (P t)).lost.pending }) no_operation
              (handed_is t left ∙ ap (answer_at t) z.says) (ap (λ x. x.kept.status) is ∙ z.status))
          | inr z ↦ inr (continues t (P t) (λ r is-operation l' pr. no_new no_operation r is-operation l')
              (λ r pr. answer_quiet ρ t r (handed_is t left ∙ ap (answer_at t) z.says)) w
              (λ y. absurd (omega (arith, ap (λ x. x.kept.status) is, z.status, b.has))) (ap (λ x. x.kept.address.0) is ∙ z.address)
              (rw is (known_goes (P t) w.op l pl b.has ok w.busy.before H memory_eq w.busy.known)))
        ])
      where
        w : Working t (P t)
        w = working (P t) b.there (λ z. absurd (omega (arith, b.has)))

        d : Does (M t) (P t) (insert_node (e w.op).action (own_in (R t (P t)))) (delete_node (e w.op).action (own_in (R t (P t))))
            (writes_at l (M t) (P t) (R t (P t)))
        d = step_does (P t) w.op pl b.has w.busy.known

        memory_eq : M (suc t) ≡ written (writes_at l (M t) (P t) (R t (P t))) (M t)
        memory_eq = memory_is t left

        is : R (suc t) (P t) ≡ goes_at l (M t) (P t) (R t (P t))
        is = record_is t _ left b.in_row

        H : Course M (suc t)
        H = grows (written (writes_at l (M t) (P t) (R t (P t))) (M t)) memory_eq (does_keeps orderly_at d)

        no_operation : IsOperation ρ t → ⊥
        no_operation i = omega (arith, i.request, ap kind_of action_is)

    invariant_after : Invariant (suc t)
    invariant_after = by_case (event (S t) (e t)) refl (happens (S t) (e t))
      where
        by_case : (d : Leaves) → event (S t) (e t) ≡ d → Happens (S t) (e t) d → Invariant (suc t)
        by_case d left (refuses k) = after_refused k left
        by_case d left (inserts a is b spare) = after_insert a is b spare left
        by_case d left (steps is b ok l pl) = after_step is b ok l pl left
        by_case d left (alone Q b z) = after_alone (e t).action Q refl b left z

  -- ---- from the start

  abbrev m₀ : Memory
  m₀ = ρ.start.memory

  start_orderly : Orderly m₀
  start_orderly = record {
    room = room_of m₀ ρ.quiet.tables;
    head = unmarked_plain m₀ 0 ρ.quiet.head;
    tail = ρ.quiet.tail;
    rise = λ n o h. ρ.quiet.rises (node n) (on_node m₀ (node n) o) (λ q. h (ap (λ n. n.0) q));
    used = λ n o. ρ.quiet.used (node n) (on_node m₀ (node n) o);
    small = λ n o. ρ.quiet.small (node n) (on_node m₀ (node n) o);
    signed = λ n o d. elim (marked_or_not m₀ n) [
      | yes z ↦ z
      | no z ↦ absurd (d (ρ.quiet.unsigned (node n) (on_node m₀ (node n) o) (plain_unmarked m₀ n (omega arith))))
    ];
  }

  start_invariant : Invariant 0
  unfolding at
  start_invariant = record {
    course = record {
      orderly = λ t h. let z : t ≡ 0 = omega arith in rw z start_orderly;
      keeps = λ t h. absurd (omega arith);
    };
    process = λ p. inl (record { status = λ l. ρ.quiet.idle (process p) l; done = λ r is-operation l. absurd (omega arith) });
  }

  pub invariant : (t : ℕ) → Invariant t
  invariant zero = start_invariant
  invariant (suc t) = invariant_after t (invariant t)
