-- Demand 3 of the run of a file: what the answers of its lines, and the addresses held at its end, have. Rests on the table's Demand3.
use Rattle.std.specs.Prelude.{◌≡◌, false, List, ℕ, ◌<◌, length, get_or}
use Rattle.record.specs.Record.{process}
use Rattle.record.specs.declared.Node.{Node}
use Rattle.record.specs.Event.{event_of}
use Rattle.record.specs.declared.Action.TheVariants.{Step}
use Rattle.record.specs.declared.Event.{Event}
use Rattle.record.specs.declared.Outcome.TheVariants.{Accepted}
use Rattle.table.specs.Events.{State, fresh, runs, outcomes}
use Rattle.table.specs.History.{Order}
use Rattle.table.specs.Demand3.{at, out, history, StruckOnce}
use Rattle.schedule.specs.declared.Header.{Header}
use Rattle.schedule.specs.Encoding.{events_of}
use Rattle.schedule.specs.Reading.{Reading}

-- a list of events as a sequence; past its end stands a step, which no history of the list's length looks at
abbrev pub numbered : List Event → ℕ → Event
numbered events t = get_or events t (event_of (process 0) Step)

-- the run of a list of events from a state in which nothing is held
pub record Ordered (σ : State) (events : List Event) : Type 0 where
  -- an order of its operations exists, worked by a plain set that starts empty
  pub order : Order (history σ (numbered events) (λ a. false) (length events))
  pub struck : (n : Node) → StruckOnce σ (numbered events) (length events) n
  -- the outcomes of that history are those that the run's lines show, and its end is the state whose chain the last line lists
  pub lines : (t : ℕ) → t < length events → get_or (outcomes σ events) t Accepted ≡ out σ (numbered events) t
  pub end : at σ (numbered events) (length events) ≡ runs σ events

-- the run of a file: what was read of it, worked from fresh tables
abbrev pub FileOrdered : Header → Reading → Type 0
FileOrdered h x = Ordered (fresh h.nodes h.processes) (events_of x.items)
