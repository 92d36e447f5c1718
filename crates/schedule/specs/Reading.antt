-- 01, "Schedule bytes" and "Refusal numbers": what the bytes of a file read as, with refusals 4 to 7 in their order. Rests on Numbers.
use Rattle.std.specs.Prelude.{cond, ◌&&◌, List, [], ◌∷◌, ℕ, zero, suc, leb, ltb, eqb, length}
use Rattle.record.specs.Record.{process, address}
use Rattle.record.specs.declared.Process.{Process}
use Rattle.record.specs.declared.Address.{Address}
use Rattle.record.specs.Event.{event_of}
use Rattle.record.specs.declared.Action.{Action}
use Rattle.record.specs.declared.Action.TheVariants.{Insert, Delete, Find, Step, Stop, Restart}
use Rattle.table.specs.Events.{sizes_fit}
use Rattle.numbers.specs.Numbers.{Read, got, stops, ◌then◌, read_number}
use Rattle.schedule.specs.declared.Header.{Header}
use Rattle.schedule.specs.Encoding.{Item, single, burst}

-- ---- the header

-- "header numbers, 7 for sizes"
unfoldable pub read_header : List ℕ → Read Header
read_header s =
    read_number s then λ nodes s.
    read_number s then λ processes s.
    cond (sizes_fit nodes processes) (got (record { nodes = nodes; processes = processes }) s) (stops 7)

-- ---- an event

-- the action of a kind from 0 to 2, which has an address, and from 3 to 5
abbrev pub request_of_kind : (kind : ℕ) → Address → Action
request_of_kind kind a = cond (eqb kind 0) (Insert a) (cond (eqb kind 1) (Delete a) (Find a))

abbrev pub move_of_kind : (kind : ℕ) → Action
move_of_kind kind = cond (eqb kind 3) Step (cond (eqb kind 4) Stop Restart)

-- "burst count not 1 to 255"
unfoldable pub read_burst : Process → List ℕ → Read Item
read_burst p s = read_number s then λ count s. cond (leb 1 count && leb count 255) (got (burst p count) s) (stops 5)

unfoldable pub read_rest : (kind : ℕ) → Process → List ℕ → Read Item
read_rest kind p s =
    cond (leb kind 2) (read_number s then λ a s. got (single (event_of p (request_of_kind kind (address a)))) s)
    (cond (leb kind 5) (got (single (event_of p (move_of_kind kind))) s) (read_burst p s))

-- "the kind is judged before the process number is read"
unfoldable pub read_item : List ℕ → Read Item
read_item s =
    read_number s then λ kind s.
    cond (ltb 6 kind) (stops 5) (read_number s then λ p s. read_rest kind (process p) s)

-- ---- a file

-- the items read, the bytes left after them, and how the reading ended: 0 at the end of the file, else the refusal's number
pub record Reading : Type 0 where
  pub items : List Item
  pub left : List ℕ
  pub ended : ℕ

abbrev pub reading : List Item → List ℕ → ℕ → Reading
reading items left ended = record { items = items; left = left; ended = ended }

abbrev pub before : Item → Reading → Reading
before i x = reading (i ∷ x.items) x.left x.ended

-- what stands next: the end of the file, an item with the bytes left after it, or a refusal
pub data NextItem : Type 0 where
  end : NextItem
  item : Item → List ℕ → NextItem
  refuses : ℕ → NextItem

abbrev pub standing : Read Item → NextItem
standing r = elim r [ got i left ↦ item i left | stops n ↦ refuses n ]

unfoldable pub next_item : List ℕ → NextItem
next_item [] = end
next_item (b ∷ s) = standing (read_item (b ∷ s))

-- "A file is accepted if it reads to its end without 4 to 7.": item after item, in so many turns
unfoldable pub read_items : (turns : ℕ) → List ℕ → Reading
read_items zero s = reading [] s 0
read_items (suc turns) s =
    elim (next_item s) [
      | end ↦ reading [] s 0
      | item i left ↦ before i (read_items turns left)
      | refuses n ↦ reading [] s n
    ]

-- what stands after a header; every item takes a byte, so that the length and one are turns enough
unfoldable pub read_all : List ℕ → Reading
read_all s = read_items (suc (length s)) s

pub data File : Type 0 where
  bad_header : (refusal : ℕ) → File
  file : Header → Reading → File

-- "Schedule file: at most 65,536 bytes." "For a file: 7 for length, header numbers, 7 for sizes, then events"
unfoldable pub read_file : List ℕ → File
read_file s =
    cond (ltb 65536 (length s)) (bad_header 7)
    (elim (read_header s) [ got h left ↦ file h (read_all left) | stops n ↦ bad_header n ])
