-- Demand 3 of the place table: every run from a quiet state has an order, and every node struck in it has one release, or one on its way.
-- Rests on Events, Chain and History.
use Rattle.std.specs.Prelude.{◌≡◌, ◌≢◌, ◌↔◌, true, false, cond, ℕ, zero, suc, ◌≤◌, ◌<◌, ltb, eqb, length}
use Rattle.std.proofs.Math.Option.{Option, none, some}
use Rattle.record.specs.Record.{head_node, tail_node, idle_status, true_answer}
use Rattle.record.specs.Event.{address_of}
use Rattle.record.specs.declared.Node.{Node}
use Rattle.record.specs.declared.Process.{Process}
use Rattle.record.specs.declared.Address.{Address}
use Rattle.record.specs.declared.Action.{Action}
use Rattle.record.specs.declared.Action.TheVariants.{Insert, Delete, Find, Step, Stop, Restart}
use Rattle.record.specs.declared.Event.{Event}
use Rattle.record.specs.declared.Outcome.{Outcome}
use Rattle.record.specs.declared.Outcome.TheVariants.{Refused, Accepted, Answered}
use Rattle.table.specs.Words.{Memory, address_at, link_at, deleter_at, link_word, is_marked, no_deleter, deleter_word, in_use}
use Rattle.table.specs.Words.{address_limit, rank}
use Rattle.table.specs.Chain.{follows, OnChain, Struck, Held}
use Rattle.table.specs.Events.{State, event, record_in, sizes_fit, tables_fit, fresh}
use Rattle.table.specs.History.{Kind, insert, delete, find, Answer, Operation, Set, History, Order}

-- ---- quiet, well-formed states: nothing is asked of nodes off the chain or of records past the process count

-- every process below the process count is idle
abbrev pub AllIdle : State → Type 0
AllIdle σ = (p : Process) → p.0 < σ.memory.processes → (record_in σ p).kept.status ≡ idle_status

pub record Quiet (σ : State) : Type 0 where
  -- the tables fit the sizes, and every process is idle
  pub tables : tables_fit σ.memory ≡ true
  pub row : σ.memory.processes ≤ length σ.row
  pub idle : AllIdle σ
  -- the chain from head rises strictly, is made of nodes in use, and ends in tail
  pub rises : (n : Node) → OnChain σ.memory n → n ≢ tail_node
      → rank σ.memory.addresses n < rank σ.memory.addresses (follows σ.memory n)
  pub used : (n : Node) → OnChain σ.memory n → in_use σ.memory n ≡ true
  pub small : (n : Node) → OnChain σ.memory n → address_at σ.memory n < address_limit
  pub head : is_marked (link_at σ.memory head_node) ≡ false
  pub tail : link_at σ.memory tail_node ≡ link_word tail_node false
  -- no unmarked node on it has a deleter
  pub unsigned : (n : Node) → OnChain σ.memory n → is_marked (link_at σ.memory n) ≡ false → deleter_at σ.memory n ≡ no_deleter

-- ---- operations and answers

-- "Kinds 0, 1, 2: insert, delete, find of an address by an idle process." An operation is a request that was accepted.
abbrev pub request_of : Process → Action → Option Answer → Option Operation
request_of p (Insert a) v = some (record { process = p; kind = insert; address = a; answer = v })
request_of p (Delete a) v = some (record { process = p; kind = delete; address = a; answer = v })
request_of p (Find a) v = some (record { process = p; kind = find; address = a; answer = v })
request_of p Step v = none
request_of p Stop v = none
request_of p Restart v = none

abbrev pub if_accepted : Outcome → Option Operation → Option Operation
if_accepted (Refused n) o = none
if_accepted Accepted o = o
if_accepted (Answered v) o = none

-- the answer that event t hands out
abbrev pub answer_at : ℕ → Outcome → Option Answer
answer_at t (Refused n) = none
answer_at t Accepted = none
answer_at t (Answered v) = some (record { time = t; value = v })

abbrev pub first_of : Option Answer → Option Answer → Option Answer
first_of (some v) later = some v
first_of none later = later

-- ---- the run of a schedule: event t is e t

module _ (σ₀ : State) (e : ℕ → Event) where
  -- the state at moment t, after the events before t
  unfoldable pub at : ℕ → State
  at zero = σ₀
  at (suc t) = (event (at t) (e t)).after

  unfoldable pub out : ℕ → Outcome
  out t = (event (at t) (e t)).outcome

  -- what the first T events answer to the process of event r: the first answer that it is handed after r
  unfoldable pub answer : (T r : ℕ) → Option Answer
  answer zero r = none
  answer (suc t) r =
      first_of (answer t r)
      (cond (ltb r t) (cond (eqb (e t).process.0 (e r).process.0) (answer_at t (out t)) none) none)

  -- the operation that event r requests, as it stands after the first T events
  abbrev pub operation : (T r : ℕ) → Option Operation
  operation T r = if_accepted (out r) (request_of (e r).process (e r).action (answer T r))

  -- the history of the first T events
  abbrev pub history : (start : Set) (T : ℕ) → History
  history start T =
      record { asked = λ r. operation T r; events = T; start = start; finish = λ a. Held (at T).memory a }

  -- ---- struck nodes

  -- event r requested an operation of p that the first T events leave unanswered: p's current operation
  pub record Current (T : ℕ) (p : Process) (r : ℕ) : Type 0 where
    pub before : r < T
    pub kind : Kind
    pub address : Address
    pub asked : operation T r ≡ some (record { process = p; kind = kind; address = address; answer = none })

  -- it is a delete, and n is in its record
  pub record CurrentRelease (T : ℕ) (n : Node) (p : Process) (r : ℕ) : Type 0 where
    pub current : Current T p r
    pub deletes : current.kind ≡ delete
    pub node : (record_in (at T) p).kept.node ≡ n

  -- event r requested a delete that the first T events answer true, and n was in its record then
  pub record ReleasedBy (T : ℕ) (n : Node) (r : ℕ) : Type 0 where
    pub process : Process
    pub address : Address
    pub time : ℕ
    pub asked : operation T r ≡ some
        (record { process = process; kind = delete; address = address; answer = some (record { time = time; value = true_answer }) })
    pub node : (record_in (at time) process).kept.node ≡ n

  -- event t marked n
  abbrev pub Marks : ℕ → Node → Type 0
  Marks t n = (is_marked (link_at (at t).memory n) ≡ false) × Struck (at (suc t)).memory n

  -- a release of n answered true, requested before event t and answered after it
  pub record ReleasedAround (T t : ℕ) (n : Node) (r : ℕ) : Type 0 where
    pub release : ReleasedBy T n r
    pub before : r < t
    pub after : t < release.time

  -- what has become of the node n that event t marked, after the first T events; r is the request of the operation that marked it
  pub data Fate (T t : ℕ) (n : Node) (r : ℕ) : Type 0 where
    -- a release of n is answered true, requested before the mark and answered after it
    released : (r' : ℕ) → ReleasedAround T t n r' → Fate T t n r
    -- n has a deleter, and its release of n, requested before the mark, is current
    deleter_current : (p : Process) → deleter_at (at T).memory n ≡ deleter_word p → (r' : ℕ) → r' < t → CurrentRelease T n p r' → Fate T t n r
    -- n has no deleter, and the operation that marked it is current, a release of n
    marker_current : deleter_at (at T).memory n ≡ no_deleter → CurrentRelease T n (e t).process r → Fate T t n r

  -- event t marked n: it belonged to a release of n, current then
  pub record Strike (T t : ℕ) (n : Node) : Type 0 where
    pub marker : ℕ
    pub marking : CurrentRelease t n (e t).process marker
    pub fate : Fate T t n marker

  -- At most one event marks n. Every release of n that is answered true has such an event between its request and its answer, and at most one release
  -- has it there. Of every event that marks n it is known what has become of n.
  pub record StruckOnce (T : ℕ) (n : Node) : Type 0 where
    pub marked_once : (t t' : ℕ) → t < T → t' < T → Marks t n → Marks t' n → t ≡ t'
    pub around : (r : ℕ) → ReleasedBy T n r → (t : ℕ) × (t < T) × Marks t n × ReleasedAround T t n r
    pub once : (t r r' : ℕ) → ReleasedAround T t n r → ReleasedAround T t n r' → r ≡ r'
    pub struck : (t : ℕ) → t < T → Marks t n → Strike T t n

-- ---- demand 3

-- requested addresses are 32-bit numbers
abbrev pub AddressesFit : (ℕ → Event) → Type 0
AddressesFit e = (t : ℕ) (a : Address) → address_of (e t).action ≡ some a → a.0 < address_limit

-- a plain set that is what is held
abbrev pub IsHeld : Memory → Set → Type 0
IsHeld m s = (a : Address) → (s a ≡ true) ↔ Held m a

-- from any quiet state, with the set starting at what is held
unfoldable pub Demand3 : Type 0
Demand3 = (σ₀ : State) (e : ℕ → Event) → Quiet σ₀ → AddressesFit e
    → (start : Set) → IsHeld σ₀.memory start
    → (T : ℕ) → Order (history σ₀ e start T) × ((n : Node) → StruckOnce σ₀ e T n)

-- from a fresh, empty list
unfoldable pub Demand3Fresh : Type 0
Demand3Fresh = (nodes processes : ℕ) → sizes_fit nodes processes ≡ true → (e : ℕ → Event) → AddressesFit e
    → (T : ℕ) → Order (history (fresh nodes processes) e (λ a. false) T) × ((n : Node) → StruckOnce (fresh nodes processes) e T n)
