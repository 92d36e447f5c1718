-- Demand 3 for files: the run of any bytes whose header is accepted, refused ones and interrupted ones among them, has an order. Rests on the table's
-- demand 3 and on Files.
use mathlib.Core.Path.{◌≡◌, subst}
use mathlib.Core.List.{List, [], ◌∷◌, ◌++◌}
use Prim.Native.Nat.{ℕ, zero, suc}
use lib.ListN.{length, replicate}
use Rattle.record.specs.Record.{process}
use Rattle.record.specs.Event.{address_of, event_of}
use Rattle.record.specs.declared.Process.{Process}
use Rattle.record.specs.declared.Action.TheVariants.{Step}
use Rattle.record.specs.declared.Event.{Event}
use Rattle.record.specs.declared.Outcome.TheVariants.{Accepted}
use Rattle.table.specs.Events.{State, fresh, runs}
use Rattle.table.specs.Demand3.{AddressesFit, Demand3Fresh}
use Rattle.table.specs.Reached.{Reached}
use Rattle.table.proofs.History.Demand3.{demand_3_fresh}
use Rattle.table.proofs.History.Start.{fresh_quiet, runs_at, outcomes_at}
use Rattle.schedule.specs.declared.Header.{Header}
use Rattle.schedule.specs.Encoding.{Item, single, burst, events_of}
use Rattle.schedule.specs.Reading.{Reading, file, read_file}
use Rattle.files.specs.Fits.{Each, Bytes, AddressFits, ItemFits}
use Rattle.files.specs.Stands.{Holds}
use Rattle.files.specs.Orders.{numbered, FileOrdered}
use Rattle.files.proofs.Files.{reads_as}

-- an event's address, where it has one, is a 32-bit number
abbrev Addressed : Event → Type 0
Addressed e = AddressFits (address_of e.action)

steps_addressed : (n : ℕ) (p : Process) (l : List Event) → Each Addressed l → Each Addressed (replicate n (event_of p Step) ++ l)
steps_addressed zero p l h = h
steps_addressed (suc n) p l h = (tt, steps_addressed n p l h)

events_addressed : (items : List Item) → Each ItemFits items → Each Addressed (events_of items)
unfolding events_of
events_addressed [] h = tt
events_addressed (single e ∷ items) h = (h.0.1, events_addressed items h.1)
events_addressed (burst p count ∷ items) h = steps_addressed count p (events_of items) (events_addressed items h.1)

at_number : (l : List Event) (t : ℕ) → Each Addressed l → Addressed (numbered l t)
at_number [] t h = tt
at_number (e ∷ l) zero h = h.0
at_number (e ∷ l) (suc t) h = at_number l t h.1

module _ (s : List ℕ) (bytes : Bytes s) (h : Header) (x : Reading) (e : read_file s ≡ file h x) where
  held : Holds s h x
  held = (reads_as s (file h x) bytes).0 e

  abbrev events : List Event
  events = events_of x.items

  abbrev start : State
  start = fresh h.nodes h.processes

  abbrev last : Event
  last = event_of (process 0) Step

  fit : AddressesFit (numbered events)
  fit t a q = subst AddressFits q (at_number events t (events_addressed x.items held.items_fit))

  pub demand_3_files : FileOrdered h x
  unfolding Demand3Fresh
  demand_3_files =
      let proved = demand_3_fresh h.nodes h.processes held.header_fits (numbered events) fit (length events) in
      record {
        order = proved.0;
        struck = proved.1;
        lines = λ t l. outcomes_at events start last Accepted t l;
        end = runs_at events start last;
      }

  -- the state in which the run of a file ends is reached from a fresh list
  pub file_reached : Reached (runs start events)
  file_reached = record {
    start = start;
    events = numbered events;
    quiet = fresh_quiet h.nodes h.processes held.header_fits;
    fit = fit;
    time = length events;
    is = runs_at events start last;
  }
