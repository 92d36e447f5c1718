-- What follows a moment of a run is a run of its own: its states and outcomes are those of the whole, its answers and operations too, later by the
-- events before it. So what follows a reached state is reached. Rests on Played and Start.
use mathlib.Core.Path.{◌≡◌, refl, sym, ◌∙◌, ap, subst}
use mathlib.Core.Bool.{Bool, true, false, cond}
use mathlib.Core.Option.{Option, none, some, map}
use mathlib.Core.List.{List}
use Prim.Native.Nat.{ℕ, zero, suc, ◌+◌, ◌-◌, ◌<◌}
use native.Mathlib.Omega.{arith}
use native.Mathlib.Decide.{dec_lt}
use lib.Dec.{ltb}
use lib.ListN.{length, get_or}
use borrow.Author.Tests.{lt-ltb, le-ltb}
use Rattle.record.specs.Event.{address_of}
use Rattle.record.specs.declared.Process.{Process}
use Rattle.record.specs.declared.Address.{Address}
use Rattle.record.specs.declared.Action.{Action}
use Rattle.record.specs.declared.Action.TheVariants.{Insert, Delete, Find, Step, Stop, Restart}
use Rattle.record.specs.declared.Event.{Event}
use Rattle.record.specs.declared.Outcome.{Outcome}
use Rattle.record.specs.declared.Outcome.TheVariants.{Refused, Accepted, Answered}
use Rattle.table.specs.Words.{address_limit}
use Rattle.table.specs.Events.{State, event, runs}
use Rattle.table.specs.History.{Answer, Operation}
use Rattle.table.specs.Demand3.{request_of, if_accepted, answer_at, first_of, at, out, answer, operation, AddressesFit}
use Rattle.table.specs.Joined.{answer_later, shifted}
use Rattle.table.specs.Reached.{Reached, events_from}
use Rattle.table.proofs.Invariant.Played.{no_answer_yet}
use Rattle.table.proofs.History.Start.{runs_at}

-- ---- the run from moment k on

module _ (σ₀ : State) (e : ℕ → Event) (k : ℕ) where
  pub at_from : (t : ℕ) → at σ₀ e (k + t) ≡ at (at σ₀ e k) (events_from k e) t
  unfolding at
  at_from zero = let q : k + 0 ≡ k = omega arith in ap (at σ₀ e) q
  at_from (suc t) = let q : k + suc t ≡ suc (k + t) = omega arith in
      ap (at σ₀ e) q ∙ ap (λ σ. (event σ (e (k + t))).after) (at_from t)

  pub out_from : (t : ℕ) → out σ₀ e (k + t) ≡ out (at σ₀ e k) (events_from k e) t
  unfolding out
  out_from t = ap (λ σ. (event σ (e (k + t))).outcome) (at_from t)

  -- an answer that comes later
  answer_at_later : (t : ℕ) (o : Outcome) → answer_at (k + t) o ≡ map (answer_later k) (answer_at t o)
  answer_at_later t (Refused n) = refl
  answer_at_later t Accepted = refl
  answer_at_later t (Answered v) = refl

  first_later : (v w : Option Answer) → first_of (map (answer_later k) v) (map (answer_later k) w) ≡ map (answer_later k) (first_of v w)
  first_later none w = refl
  first_later (some v) w = refl

  if_later : (b c : Bool) (v : Option Answer)
      → cond b (cond c (map (answer_later k) v) none) none ≡ map (answer_later k) (cond b (cond c v none) none)
  if_later true true v = refl
  if_later true false v = refl
  if_later false c v = refl

  before_later : (r t : ℕ) → ltb (k + r) (k + t) ≡ ltb r t
  before_later r t = elim (dec_lt r t) [
    | yes l ↦ lt-ltb (k + r) (k + t) (omega arith) ∙ sym (lt-ltb r t l)
    | no l ↦ le-ltb (k + r) (k + t) (omega arith) ∙ sym (le-ltb r t (omega arith))
  ]

  pub answer_from : (T r : ℕ) → answer σ₀ e (k + T) (k + r) ≡ map (answer_later k) (answer (at σ₀ e k) (events_from k e) T r)
  unfolding answer
  answer_from zero r = no_answer_yet σ₀ e (k + 0) (k + r) (omega arith)
  answer_from (suc t) r =
      let q : k + suc t ≡ suc (k + t) = omega arith in
      ap (λ T. answer σ₀ e T (k + r)) q
      ∙ rw (answer_from t r, before_later r t, out_from t, answer_at_later, if_later, first_later) refl

  request_later : (p : Process) (x : Action) (v : Option Answer)
      → request_of p x (map (answer_later k) v) ≡ map (shifted k) (request_of p x v)
  request_later p (Insert a) v = refl
  request_later p (Delete a) v = refl
  request_later p (Find a) v = refl
  request_later p Step v = refl
  request_later p Stop v = refl
  request_later p Restart v = refl

  accepted_later : (o : Outcome) (v : Option Operation) → if_accepted o (map (shifted k) v) ≡ map (shifted k) (if_accepted o v)
  accepted_later (Refused n) v = refl
  accepted_later Accepted v = refl
  accepted_later (Answered n) v = refl

  pub operation_from : (T r : ℕ) → operation σ₀ e (k + T) (k + r) ≡ map (shifted k) (operation (at σ₀ e k) (events_from k e) T r)
  operation_from T r = rw (out_from r, answer_from T r, request_later, accepted_later) refl

-- ---- what follows a reached state is reached

-- runs whose events agree come to the same state
at_agrees : (σ : State) (e e' : ℕ → Event) (T : ℕ) → ((t : ℕ) → t < T → e t ≡ e' t) → at σ e T ≡ at σ e' T
unfolding at
at_agrees σ e e' zero same = refl
at_agrees σ e e' (suc t) same = λ i. (event (at_agrees σ e e' t (λ s l. same s (omega arith)) i) (same t (omega arith) i)).after

-- the events of e up to k, then those of e'
abbrev then_events : (k : ℕ) → (e e' : ℕ → Event) → ℕ → Event
then_events k e e' t = cond (ltb t k) (e t) (e' (t - k))

module _ {σ : State} (r : Reached σ) where
  pub reached_later : (e : ℕ → Event) → AddressesFit e → (t : ℕ) → Reached (at σ e t)
  reached_later e fits t = record {
    start = r.start;
    events = then_events k r.events e;
    quiet = r.quiet;
    fit = λ s a q. elim (dec_lt s k) [
      | yes l ↦ r.fit s a (rw (lt-ltb s k l) at q)
      | no l ↦ fits (s - k) a (rw (le-ltb s k (omega arith)) at q)
    ];
    time = k + t;
    is = at_from r.start (then_events k r.events e) k t
        ∙ (λ i. at (first i) (λ s. rest s i) t);
  }
    where
      k : ℕ
      k = r.time

      first : at r.start (then_events r.time r.events e) r.time ≡ σ
      first = at_agrees r.start (then_events k r.events e) r.events k (λ s l. rw (lt-ltb s k l) refl) ∙ r.is

      rest : (s : ℕ) → then_events r.time r.events e (r.time + s) ≡ e s
      rest s = let q : k + s - k ≡ s = omega arith in rw (le-ltb (k + s) k (omega arith), q) refl

  pub reached_after : (e : Event) → ((a : Address) → address_of e.action ≡ some a → a.0 < address_limit) → Reached (event σ e).after
  unfolding at
  reached_after e fits = reached_later (λ t. e) (λ t. fits) 1

  pub reached_runs : (es : List Event) (d : Event) → AddressesFit (λ t. get_or es t d) → Reached (runs σ es)
  reached_runs es d fits = subst Reached (runs_at es σ d) (reached_later (λ t. get_or es t d) fits (length es))
