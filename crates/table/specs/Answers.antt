-- What an answer means, for those who cite it: moments between an operation's request and its answer at which its address was held, was not held,
-- came to be held or ceased to be. And when one operation stands before another in an order. Rests on Chain, Events, History and Demand3.
use Rattle.std.specs.Prelude.{◌≡◌, ◌⊎◌, ℕ, suc, ◌≤◌, ◌<◌}
use mathlib.Core.List.{List, ◌∷◌, ◌++◌, Memᴰ}
use Rattle.record.specs.Record.{false_answer, true_answer, fail_answer}
use Rattle.record.specs.declared.Node.{Node}
use Rattle.record.specs.declared.Process.{Process}
use Rattle.record.specs.declared.Address.{Address}
use Rattle.record.specs.declared.Event.{Event}
use Rattle.table.specs.Chain.{HeldBy, Held}
use Rattle.table.specs.Events.{State, record_in}
use Rattle.table.specs.History.{Kind, insert, delete, find, Answer, Operation, Slot}
use Rattle.table.specs.Demand3.{at}

-- a moment after event r and not after event t
pub record MomentBetween (r t moment : ℕ) : Type 0 where
  pub after : r < moment
  pub upto : moment ≤ t

-- an event after event r and before event t
pub record EventBetween (r t event : ℕ) : Type 0 where
  pub after : r < event
  pub before : event < t

-- what an answer v comes to: one thing where it is true, another where it is false; there is no other answer but fail
pub record Answers (v : ℕ) (Yes No : Type 0) : Type 0 where
  pub if_true : v ≡ true_answer → Yes
  pub if_false : v ≡ false_answer → No
  pub is_one : (v ≡ true_answer) ⊎ ((v ≡ false_answer) ⊎ (v ≡ fail_answer))

-- the operation of p on the address a that event r requested and event t answered, in the run of a schedule
module _ (σ₀ : State) (e : ℕ → Event) (r t : ℕ) (p : Process) (a : Address) where
  pub record WasHeld : Type 0 where
    pub moment : ℕ
    pub between : MomentBetween r t moment
    pub held : Held (at σ₀ e moment).memory a

  pub record WasNotHeld : Type 0 where
    pub moment : ℕ
    pub between : MomentBetween r t moment
    pub free : Held (at σ₀ e moment).memory a → ⊥

  -- an event of p's own put a in: nobody held it, and then the node in p's record did, which is there when p is answered
  pub record CameToBeHeld : Type 0 where
    pub event : ℕ
    pub between : EventBetween r t event
    pub mine : (e event).process ≡ p
    pub free : Held (at σ₀ e event).memory a → ⊥
    pub node : Node
    pub held : HeldBy (at σ₀ e (suc event)).memory a node
    pub own : (record_in (at σ₀ e event) p).kept.node ≡ node
    pub still_own : (record_in (at σ₀ e t) p).kept.node ≡ node

  -- an event, p's own or another's, took a out: it was held by the node that is in p's record when p is answered, and then by nobody
  pub record CeasedToBeHeld : Type 0 where
    pub event : ℕ
    pub between : EventBetween r t event
    pub node : Node
    pub held : HeldBy (at σ₀ e event).memory a node
    pub free : Held (at σ₀ e (suc event)).memory a → ⊥
    pub own : (record_in (at σ₀ e t) p).kept.node ≡ node

  -- what the answer v means, by the kind of the operation
  abbrev pub Means : Kind → (v : ℕ) → Type 0
  Means insert v = Answers v CameToBeHeld WasHeld
  Means delete v = Answers v CeasedToBeHeld WasNotHeld
  Means find v = Answers v WasHeld WasNotHeld

-- the operation o, which event r requested: the first T events answer it with v, after its request, and v means what it should
pub record AnswerMeans (σ₀ : State) (e : ℕ → Event) (T r : ℕ) (o : Operation) (v : Answer) : Type 0 where
  pub after : r < v.time
  pub within : v.time < T
  pub means : Means σ₀ e r v.time o.process o.address o.kind v.value

-- ---- in an order

-- s stands in the list, and u after it
pub record StandsBefore (s u : Slot) (slots : List Slot) : Type 0 where
  pub earlier : List Slot
  pub later : List Slot
  pub parts : slots ≡ earlier ++ (s ∷ later)
  pub after : Memᴰ u later
