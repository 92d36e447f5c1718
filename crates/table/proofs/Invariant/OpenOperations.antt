-- What an event does to an open operation, and how operations are answered. Rests on RunInvariant.
use mathlib.Core.Option.{some-ne-none, some-injective}
use Rattle.table.proofs.Common.{◌≡◌, refl, sym, ◌∙◌, ap, subst, ◌≢◌, ◌⊎◌, inl, inr, true, none, some, ℕ, zero, suc, ◌≤◌, ◌<◌, arith}
use Rattle.table.proofs.Common.{ℕ_discrete, dec_le, dec_lt, idle_status, running_status, down_status, false_answer, true_answer, fail_answer, went_down, restarted, Record, Action, Outcome}
use Rattle.table.proofs.Common.{Accepted, Memory, written, Place, p5, p19, place_of, in_range, status_needed, State, Leaves, event, Answer}
use Rattle.table.proofs.Common.{answer_at}
use Rattle.basics.proofs.Tests.{none_or_some}
use Rattle.table.proofs.Laws.Meets.{Alone, deletes, finds, stops, restarts}
use Rattle.table.proofs.Laws.Numbered.{own_in}
use Rattle.table.proofs.Laws.Ranges.{pending_in_range, pending_19}
use Rattle.table.proofs.Invariant.Effects.{Orderly}
use Rattle.table.proofs.Invariant.Moments.{Course}
use Rattle.table.proofs.Invariant.KnownWrites.{goes_at, writes_at, says_at}
use Rattle.table.proofs.Invariant.EventCases.{record_at, Able, Happens, refuses, inserts, steps, alone, happens}
use Rattle.table.proofs.Invariant.GoingOn.{goes_on}
use Rattle.table.proofs.Invariant.Played.{Played, state_at, memory_at, record_then, process_at, IsOperation, answer_to, hands, answer_stays}
use Rattle.table.proofs.Invariant.Played.{answer_later_lem, answer_else, answer_quiet, answer_now, answer_early}
use Rattle.table.proofs.Invariant.RunInvariant.{Busy, Invariant, next_is, handed_is, memory_is, Becomes, record_is, records_else, orderly_at}
use Rattle.table.proofs.Invariant.RunInvariant.{invariant}

module _ (ρ : Played) where
  abbrev M : ℕ → Memory
  M = memory_at ρ

  abbrev S : ℕ → State
  S = state_at ρ

  abbrev R : (t p : ℕ) → Record
  R = record_then ρ

  -- the process of event t
  abbrev P : ℕ → ℕ
  P = process_at ρ

  pub course : (t : ℕ) → Course M t
  course t = (invariant ρ t).course

  pub orderly : (t : ℕ) → Orderly (M t)
  orderly t = orderly_at ρ t (invariant ρ t)

  -- an open operation is what its process works on
  pub busy_of : (t r : ℕ) → IsOperation ρ r → r < t → answer_to ρ t r ≡ none → Busy ρ t (process_at ρ r) r
  busy_of t r is-operation l h = elim ((invariant ρ t).process (process_at ρ r)) [
    | inl x ↦ absurd (x.done r is-operation l refl h)
    | inr w ↦ subst (λ z. Busy ρ t (process_at ρ r) z) (sym (w.busy.only r is-operation l refl h)) w.busy
  ]

  pub status_of : (t p r : ℕ) → Busy ρ t p r → (R t p).kept.status ≢ idle_status
  status_of t p r b = elim ((invariant ρ t).process p) [ inl x ↦ absurd (x.done r b.is b.before b.by b.opened) | inr w ↦ w.status ]

  still_busy : (t p r : ℕ) → Busy ρ t p r → answer_to ρ (suc t) r ≡ none → Busy ρ (suc t) p r
  still_busy t p r b h = rw b.by at (busy_of (suc t) r b.is (omega (arith, b.before)) h)

  -- ---- what event t does to an open operation r of p

  -- p makes a step at place l, which is not the last
  pub record Moves (t p r : ℕ) (l : Place) : Type 0 where
    pub place : place_of (R t p).lost.place ≡ l
    pub status : (R t p).kept.status ≡ running_status
    pub in_range_lem : in_range (R t p) ≡ true
    pub by : process_at ρ t ≡ p
    pub becomes : R (suc t) p ≡ goes_at l (M t) p (R t p)
    pub memory : M (suc t) ≡ written (writes_at l (M t) p (R t p)) (M t)
    pub node : l ≢ p5 → own_in (R (suc t) p) ≡ own_in (R t p)
    pub busy : Busy ρ (suc t) p r

  -- p makes its last step, at place 19
  pub record Ends (t p r : ℕ) : Type 0 where
    pub place : place_of (R t p).lost.place ≡ p19
    pub status : (R t p).kept.status ≡ running_status
    pub in_range_lem : in_range (R t p) ≡ true
    pub memory : M (suc t) ≡ M t
    pub says : answer_to ρ (suc t) r ≡ some (record { time = t; value = (R t p).lost.pending })

  pub data Turns (t p r : ℕ) : Type 0 where
    untouched : R (suc t) p ≡ R t p → (process_at ρ t ≢ p) ⊎ (M (suc t) ≡ M t) → Busy ρ (suc t) p r → Turns t p r
    stopped : R (suc t) p ≡ went_down (R t p) → Busy ρ (suc t) p r → Turns t p r
    started : R (suc t) p ≡ restarted (R t p) → Busy ρ (suc t) p r → Turns t p r
    moves : (l : Place) → Moves t p r l → Turns t p r
    ends : Ends t p r → Turns t p r

  module _ (t p r : ℕ) (b : Busy ρ t p r) where
    abbrev I : Invariant ρ t
    I = invariant ρ t

    -- an event that is no answer
    still_open : hands ρ t ≡ none → Busy ρ (suc t) p r
    still_open h = still_busy t p r b (answer_quiet ρ t r h ∙ b.opened)

    -- another process's event
    elsewhere : {m : Memory} (Q : Record) {o : Outcome} → Becomes ρ t m Q o → p ≢ P t → Turns t p r
    elsewhere Q left ne = untouched (records_else ρ t Q left p ne) (inl (λ z. ne (sym z)))
        (still_busy t p r b (answer_else ρ t r (λ z. ne (sym b.by ∙ z)) ∙ b.opened))

    after_step : Able (S t) (P t) running_status → in_range (R t (P t)) ≡ true → (l : Place) → place_of (R t (P t)).lost.place ≡ l
        → Becomes ρ t (written (writes_at l (M t) (P t) (R t (P t))) (M t)) (goes_at l (M t) (P t) (R t (P t))) (says_at l (M t) (P t) (R t (P t)))
        → Turns t p r
    after_step a ok l pl left = elim (ℕ_discrete p (P t)) [ yes z ↦ rw z (mine z) | no z ↦ elsewhere _ left z ]
      where
        is : R (suc t) (P t) ≡ goes_at l (M t) (P t) (R t (P t))
        is = record_is ρ t _ left a.in_row

        mine : p ≡ P t → Turns t (P t) r
        mine z = elim (goes_on l (M t) (P t) (R t (P t))) [
          | inl g ↦ ends (record {
            place = pl ∙ g.place;
            status = a.has;
            in_range_lem = ok;
            memory = memory_is ρ t left ∙ ap (λ w. written w (M t)) g.writes ∙ unfold written in refl;
            says = answer_now ρ t r b.before (b.by ∙ z) b.opened ∙ handed_is ρ t left ∙ ap (answer_at t) g.says;
          })
          | inr g ↦ moves l (record {
            place = pl;
            status = a.has;
            in_range_lem = ok;
            by = refl;
            becomes = is;
            memory = memory_is ρ t left;
            node = λ h. ap (λ x. x.kept.node.0) is ∙ g.node h;
            busy = rw z at (still_open (handed_is ρ t left ∙ ap (answer_at t) g.says));
          })
        ]

    -- a request is another process's
    after_request : {m : Memory} (Q : Record) → Able (S t) (P t) idle_status → Becomes ρ t m Q Accepted → Turns t p r
    after_request Q a left = elim (ℕ_discrete p (P t)) [
      | yes z ↦ absurd (status_of t p r b (ap (λ x. (R t x).kept.status) z ∙ a.has))
      | no z ↦ elsewhere Q left z
    ]

    -- a stop or a restart
    after_turn : (s : ℕ) (change : Record → Record) → Able (S t) (P t) s → Becomes ρ t (M t) (change (R t (P t))) Accepted
        → (R (suc t) p ≡ change (R t p) → Busy ρ (suc t) p r → Turns t p r) → Turns t p r
    after_turn s change a left f = elim (ℕ_discrete p (P t)) [
      | yes z ↦ f (rw z (record_is ρ t _ left a.in_row)) (still_open (handed_is ρ t left))
      | no z ↦ elsewhere _ left z
    ]

    after_alone : (x : Action) (Q : Record) → Able (S t) (P t) (status_needed x) → Becomes ρ t (M t) Q Accepted → Alone (R t (P t)) x Q → Turns t p r
    after_alone x Q a left deletes = after_request Q a left
    after_alone x Q a left finds = after_request Q a left
    after_alone x Q a left stops = after_turn running_status went_down a left stopped
    after_alone x Q a left restarts = after_turn down_status restarted a left started

    pub turns : Turns t p r
    turns = by_case (event (S t) (ρ.events t)) refl (happens (S t) (ρ.events t))
      where
        by_case : (d : Leaves) → event (S t) (ρ.events t) ≡ d → Happens (S t) (ρ.events t) d → Turns t p r
        by_case d left (refuses k) = untouched (ap (λ z. record_at z p) (next_is ρ t left)) (inr (memory_is ρ t left))
            (still_open (handed_is ρ t left))
        by_case d left (inserts x is a spare) = after_request _ a left
        by_case d left (steps is a ok l pl) = after_step a ok l pl left
        by_case d left (alone Q a z) = after_alone (ρ.events t).action Q a left z

  -- ---- how an operation is answered

  pub record AnsweredAt (r : ℕ) (a : Answer) : Type 0 where
    pub busy : Busy ρ a.time (process_at ρ r) r
    pub place : place_of (R a.time (process_at ρ r)).lost.place ≡ p19
    pub status : (R a.time (process_at ρ r)).kept.status ≡ running_status
    pub in_range_lem : in_range (R a.time (process_at ρ r)) ≡ true
    pub value : a.value ≡ (R a.time (process_at ρ r)).lost.pending
    pub memory : M (suc a.time) ≡ M a.time
    pub said : answer_to ρ (suc a.time) r ≡ some a

  pub answered : (T r : ℕ) (a : Answer) → IsOperation ρ r → answer_to ρ T r ≡ some a → AnsweredAt r a × (a.time < T)
  answered zero r a is-operation h = absurd (some-ne-none a (sym h ∙ answer_early ρ 0 r (omega arith)))
  answered (suc t) r a is-operation h = elim (none_or_some (answer_to ρ t r)) [
    | inr z ↦
        let q : z.0 ≡ a = some-injective z.0 a (sym (answer_stays ρ t r z.0 z.1) ∙ h) in
        let x = answered t r z.0 is-operation z.1 in
        (rw q at x.0, omega (arith, x.1, ap (λ v. v.time) q))
    | inl z ↦ elim (dec_lt r t) [
      | yes l ↦ now (busy_of t r is-operation l z) (turns t (process_at ρ r) r (busy_of t r is-operation l z))
      | no l ↦ absurd (some-ne-none a (sym h ∙ answer_early ρ (suc t) r (omega arith)))
    ]
  ]
    where
      not_yet : Busy ρ (suc t) (process_at ρ r) r → AnsweredAt r a × (a.time < suc t)
      not_yet b = absurd (some-ne-none a (sym h ∙ b.opened))

      now : Busy ρ t (process_at ρ r) r → Turns t (process_at ρ r) r → AnsweredAt r a × (a.time < suc t)
      now b₀ (untouched x c b) = not_yet b
      now b₀ (stopped x b) = not_yet b
      now b₀ (started x b) = not_yet b
      now b₀ (moves l x) = not_yet x.busy
      now b₀ (ends x) = let q = some-injective _ a (sym x.says ∙ h) in (
        subst (λ y. AnsweredAt r y) q (record {
          busy = b₀;
          place = x.place;
          status = x.status;
          in_range_lem = x.in_range_lem;
          value = refl;
          memory = x.memory;
          said = x.says;
        }),
        omega (arith, ap (λ y. y.time) q),
      )

  -- an operation that is open at t is answered at t or later
  pub open_till : (t T p r : ℕ) (a : Answer) → Busy ρ t p r → answer_to ρ T r ≡ some a → t ≤ a.time
  open_till t T p r a b h = elim (dec_le t a.time) [
    | yes l ↦ l
    | no l ↦ absurd (some-ne-none a (sym (answer_later_lem ρ (suc a.time) t r a (omega arith) x.0.said) ∙ b.opened))
  ]
    where
      x : AnsweredAt r a × (a.time < T)
      x = answered T r a b.is h

  -- an answer is true where it is neither false nor fail
  pub value_true : (r : ℕ) (a : Answer) → AnsweredAt r a → a.value ≢ false_answer → a.value ≢ fail_answer → a.value ≡ true_answer
  value_true r a x n1 n3 = omega (
    arith,
    x.value,
    pending_19 (R a.time (process_at ρ r)) x.in_range_lem x.place,
    pending_in_range (R a.time (process_at ρ r)) x.in_range_lem,
    n1,
    n3,
  )
