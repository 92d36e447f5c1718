-- 01, "Schedule bytes": a header, events and bursts as bytes, defined without a reader. Rests on Numbers.
use Rattle.std.specs.Prelude.{List, [], ◌∷◌, ◌++◌, ℕ, replicate}
use Rattle.std.proofs.Math.Option.{Option, none, some}
use Rattle.record.specs.Event.{kind_of, address_of, event_of}
use Rattle.record.specs.declared.Process.{Process}
use Rattle.record.specs.declared.Address.{Address}
use Rattle.record.specs.declared.Action.TheVariants.{Step}
use Rattle.record.specs.declared.Event.{Event}
use Rattle.numbers.specs.Numbers.{number_bytes}
use Rattle.schedule.specs.declared.Header.{Header}

-- "The header is node count, then process count."
unfoldable pub header_bytes : Header → List ℕ
header_bytes h = number_bytes h.nodes ++ number_bytes h.processes

-- "An event is kind, process, then the address (kinds 0 to 2)"
unfoldable pub address_bytes : Option Address → List ℕ
address_bytes none = []
address_bytes (some a) = number_bytes a.0

unfoldable pub event_bytes : Event → List ℕ
event_bytes e = number_bytes (kind_of e.action) ++ (number_bytes e.process.0 ++ address_bytes (address_of e.action))

-- what stands in a file after its header: an event, or a burst
pub data Item : Type 0 where
  single : Event → Item
  burst : Process → (count : ℕ) → Item

-- "or count (kind 6)"
unfoldable pub item_bytes : Item → List ℕ
item_bytes (single e) = event_bytes e
item_bytes (burst p count) = number_bytes 6 ++ (number_bytes p.0 ++ number_bytes count)

unfoldable pub items_bytes : List Item → List ℕ
items_bytes [] = []
items_bytes (i ∷ items) = item_bytes i ++ items_bytes items

-- a whole file
unfoldable pub file_bytes : Header → List Item → List ℕ
file_bytes h items = header_bytes h ++ items_bytes items

-- "Kind 6, burst: process and count 1 to 255, read as that many kind 3 events."
unfoldable pub events_of : List Item → List Event
events_of [] = []
events_of (single e ∷ items) = e ∷ events_of items
events_of (burst p count ∷ items) = replicate count (event_of p Step) ++ events_of items
