-- 01's events and the refusals of an event in their order, on one record and on a row of records; fresh tables; runs. Rests on Steps.
use Rattle.std.specs.Prelude.{Bool, cond, ◌&&◌, List, [], ◌∷◌, ℕ, leb, ltb, eqb, length, get_or, set, replicate}
use Rattle.std.proofs.Math.Option.{none}
use Rattle.record.specs.Record.{fresh_record, requested, went_down, restarted, no_node, idle_status, running_status, down_status, insert_kind, delete_kind, find_kind}
use Rattle.record.specs.Event.{outcome_of, accepted}
use Rattle.record.specs.declared.Process.{Process}
use Rattle.record.specs.declared.Record.{Record}
use Rattle.record.specs.declared.Action.{Action}
use Rattle.record.specs.declared.Action.TheVariants.{Insert, Delete, Find, Step, Stop, Restart}
use Rattle.record.specs.declared.Event.{Event}
use Rattle.record.specs.declared.Outcome.{Outcome}
use Rattle.table.specs.Words.{Memory, Lengths, lengths, next_node, none_left, given_out, written, fresh_memory}
use Rattle.table.specs.Steps.{turn_in}

-- ---- one event on one record

-- what an event leaves: the memory, the record advanced, and its outcome
pub record Left : Type 0 where
  pub memory : Memory
  pub advanced : Record
  pub outcome : Outcome

abbrev pub leaving : Memory → Record → Outcome → Left
leaving m r o = record { memory = m; advanced = r; outcome = o }

-- "nothing changed"
abbrev pub refused : Memory → Record → ℕ → Left
refused m r number = leaving m r (outcome_of number none)

-- "Kind 3: one step of a running process.", or refusal 8
unfoldable pub step : Memory → Process → Record → Left
step m p r =
    let t = turn_in m p r in
    cond t.fits (leaving (written t.writes m) t.after t.says) (refused m r 8)

-- "status is not the one the event needs": idle for a request, running for a step or a stop, down for a restart
abbrev pub status_needed : Action → ℕ
status_needed (Insert a) = idle_status
status_needed (Delete a) = idle_status
status_needed (Find a) = idle_status
status_needed Step = running_status
status_needed Stop = running_status
status_needed Restart = down_status

-- the action of a process that is there and has the status it needs
unfoldable pub does : Memory → Process → Record → Action → Left
does m p r (Insert a) =
    cond (none_left m) (refused m r 3) (leaving (given_out a m) (requested 0 insert_kind a (next_node m) r) accepted)
does m p r (Delete a) = leaving m (requested 0 delete_kind a no_node r) accepted
does m p r (Find a) = leaving m (requested 11 find_kind a no_node r) accepted
does m p r Step = step m p r
does m p r Stop = leaving m (went_down r) accepted
does m p r Restart = leaving m (restarted r) accepted

-- "Nodes: 2 to 4,096, including head (node 0) and tail (node 1). Processes: 1 to 64"
unfoldable pub sizes_fit : (nodes processes : ℕ) → Bool
sizes_fit nodes processes = leb 2 nodes && leb nodes 4096 && leb 1 processes && leb processes 64

-- every table has a word for each of so many nodes
abbrev pub long_enough : (nodes : ℕ) → Lengths → Bool
long_enough nodes long = leb nodes long.addresses && leb nodes long.links && leb nodes long.deleters

-- "sizes outside the limits, a lent table too short, count below 2 or above the nodes"
unfoldable pub tables_fit : Memory → Bool
tables_fit m =
    sizes_fit m.nodes m.processes
    && long_enough m.nodes (lengths m)
    && leb 2 m.count
    && leb m.count m.nodes

-- "Order for an event: 7, 1, 2, ..": the number of the first of these three that is given, 0 for none, by whether its tables fit, its process is
-- there and has the status that it needs
unfoldable pub refusal_in : (fits there ready : Bool) → ℕ
refusal_in fits there ready = cond fits (cond there (cond ready 0 2) 1) 7

-- "Order for an event: 7, 1, 2, 3, 8": the first of 7, 1 and 2 that is given; where none is, what the event does, 3 and 8 among it
unfoldable pub act : Memory → Process → Record → Action → Left
act m p r x =
    let number = refusal_in (tables_fit m) (ltb p.0 m.processes) (eqb r.kept.status (status_needed x)) in
    cond (eqb number 0) (does m p r x) (refused m r number)

-- ---- one event on a row of records

-- "The process table is lent as a row of records."
pub record State : Type 0 where
  pub memory : Memory
  pub row : List Record

abbrev pub state_of : Memory → List Record → State
state_of memory row = record { memory = memory; row = row }

unfoldable pub record_in : State → Process → Record
record_in σ p = get_or σ.row p.0 fresh_record

-- what an event leaves, and its outcome
pub record Leaves : Type 0 where
  pub after : State
  pub outcome : Outcome

abbrev pub leaves_in : State → Outcome → Leaves
leaves_in σ o = record { after = σ; outcome = o }

-- "one record is lent to the step and left advanced; other records are untouched"
unfoldable pub stored : State → Process → Left → Leaves
stored σ p d = leaves_in (state_of d.memory (set σ.row p.0 d.advanced)) d.outcome

-- a whole event; a row shorter than the process count is a lent table too short
unfoldable pub event : State → Event → Leaves
event σ e =
    cond (leb σ.memory.processes (length σ.row))
    (stored σ e.process (act σ.memory e.process (record_in σ e.process) e.action))
    (leaves_in σ (outcome_of 7 none))

-- ---- runs

-- "A fresh record is all zeros."
unfoldable pub fresh : (nodes processes : ℕ) → State
fresh nodes processes = state_of (fresh_memory nodes processes) (replicate processes fresh_record)

-- the state after a list of events, and their outcomes
unfoldable pub runs : State → List Event → State
runs σ [] = σ
runs σ (e ∷ es) = runs (event σ e).after es

unfoldable pub outcomes : State → List Event → List Outcome
outcomes σ [] = []
outcomes σ (e ∷ es) = (event σ e).outcome ∷ outcomes (event σ e).after es
