-- A plain history: operations on a set of addresses, when they were requested and answered, and what an order of them is. No machine in it.
-- Events are numbered from 0. Moment t is before event t and after every event before it: moment 0 is the start.
use Rattle.std.specs.Prelude.{◌≡◌, ◌≢◌, ◌↔◌, Bool, true, cond, not, ◌&&◌, ◌||◌, ℕ, ◌≤◌, ◌<◌, eqb}
use Rattle.std.proofs.Math.Option.{Option, some}
use mathlib.Core.List.{List, [], ◌∷◌, Memᴰ}
use Rattle.record.specs.Record.{false_answer, true_answer, fail_answer}
use Rattle.record.specs.declared.Process.{Process}
use Rattle.record.specs.declared.Address.{Address}

-- ---- a history

pub data Kind : Type 0 where
  insert delete find : Kind

-- the event that hands the answer out, and its value: false 1, true 2, fail 3
pub record Answer : Type 0 where
  pub time : ℕ
  pub value : ℕ

-- who asks for what, and the answer, where there is one
pub record Operation : Type 0 where
  pub process : Process
  pub kind : Kind
  pub address : Address
  pub answer : Option Answer

-- a plain set: yes or no for each address
abbrev pub Set : Type 0
Set = Address → Bool

pub record History : Type 1 where
  pub asked : ℕ → Option Operation  -- the operation that event t requests, if it requests one
  pub events : ℕ  -- how many events there are
  pub start : Set  -- what is held at the start
  pub finish : Address → Type 0  -- what is held at the end

-- ---- a plain set at work

-- what the set answers: an insert is true where the address was not in, a delete or a find where it was
abbrev pub says : Kind → Address → Set → ℕ
says insert a s = cond (s a) false_answer true_answer
says delete a s = cond (s a) true_answer false_answer
says find a s = cond (s a) true_answer false_answer

-- the set afterwards
abbrev pub becomes : Kind → Address → Set → Set
becomes insert a s = λ x. eqb x.0 a.0 || s x
becomes delete a s = λ x. not (eqb x.0 a.0) && s x
becomes find a s = s

-- ---- an order

-- an operation's place in an order: the operation, named by the event that requested it, and the moment at which it stands
pub record Slot : Type 0 where
  pub request : ℕ
  pub operation : Operation
  pub moment : ℕ

-- it is an operation of the history, stands between its request and its answer or the end, and did not fail
pub record Stands (H : History) (s : Slot) : Type 0 where
  pub asked : H.asked s.request ≡ some s.operation
  pub begun : s.request < s.moment
  pub there : s.moment ≤ H.events
  pub ended : (v : Answer) → s.operation.answer ≡ some v → (s.moment ≤ v.time) × (v.value ≢ fail_answer)

-- moments do not fall
abbrev pub NeverFalls : (from : ℕ) → List Slot → Type 0
NeverFalls from [] = Unit {0}
NeverFalls from (s ∷ l) = (from ≤ s.moment) × NeverFalls s.moment l

-- no operation twice
abbrev pub NoneTwice : List Slot → Type 0
NoneTwice [] = Unit {0}
NoneTwice (s ∷ l) = ((u : Slot) → Memᴰ u l → u.request ≢ s.request) × NoneTwice l

-- the set, worked in that order
abbrev pub worked : Set → List Slot → Set
worked s [] = s
worked s (u ∷ l) = worked (becomes u.operation.kind u.operation.address s) l

-- and its answers are those that were handed out
abbrev pub SameAnswers : Set → List Slot → Type 0
SameAnswers s [] = Unit {0}
SameAnswers s (u ∷ l) =
    ((v : Answer) → u.operation.answer ≡ some v → v.value ≡ says u.operation.kind u.operation.address s)
    × SameAnswers (becomes u.operation.kind u.operation.address s) l

pub record Order (H : History) : Type 0 where
  pub slots : List Slot
  pub stand : (s : Slot) → Memᴰ s slots → Stands H s
  pub rising : NeverFalls 0 slots
  pub once : NoneTwice slots
  -- every operation answered true or false is in it
  pub whole : (r : ℕ) (o : Operation) (v : Answer) → H.asked r ≡ some o → o.answer ≡ some v → v.value ≢ fail_answer
      → (t : ℕ) × Memᴰ (record { request = r; operation = o; moment = t }) slots
  pub answers : SameAnswers H.start slots
  -- the set ends with exactly the addresses held
  pub ends : (a : Address) → (worked H.start slots a ≡ true) ↔ H.finish a
