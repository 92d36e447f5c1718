-- The process record of 01, "What is stored": its numbers, and what its methods change of it. Rests on the declared types alone.
use Rattle.std.specs.Prelude.{ℕ, Bool, true, false}
use Rattle.record.specs.declared.Node.{Node}
use Rattle.record.specs.declared.Process.{Process}
use Rattle.record.specs.declared.Address.{Address}
use Rattle.record.specs.declared.Lost.{Lost}
use Rattle.record.specs.declared.Kept.{Kept}
use Rattle.record.specs.declared.Record.{Record}

infixl 25 ◌▸◌
infix 27 ◌with◌
-- "Node numbers, process numbers and addresses are three separate sorts of number throughout."
abbrev pub node : ℕ → Node
node n = record { 0 = n }

abbrev pub process : ℕ → Process
process n = record { 0 = n }

abbrev pub address : ℕ → Address
address n = record { 0 = n }

-- "head (node 0) and tail (node 1)"
abbrev pub head_node : Node
head_node = node 0

abbrev pub tail_node : Node
tail_node = node 1

-- "status idle 0, running 1, down 2"
abbrev pub idle_status : ℕ
idle_status = 0

abbrev pub running_status : ℕ
running_status = 1

abbrev pub down_status : ℕ
down_status = 2

-- "kind insert 0, delete 1, find 2"
abbrev pub insert_kind : ℕ
insert_kind = 0

abbrev pub delete_kind : ℕ
delete_kind = 1

abbrev pub find_kind : ℕ
find_kind = 2

-- "node, 0 for none"
abbrev pub no_node : Node
no_node = node 0

-- "Results: none 0, false 1, true 2, fail 3"
abbrev pub no_answer : ℕ
no_answer = 0

abbrev pub false_answer : ℕ
false_answer = 1

abbrev pub true_answer : ℕ
true_answer = 2

abbrev pub fail_answer : ℕ
fail_answer = 3

-- "a lost part (place, pred, curr, succ, pending answer, recovering flag)"
abbrev pub lost_part : ℕ → Node → Node → Node → ℕ → Bool → Lost
lost_part place pred curr succ pending recovering =
    record { place = place; pred = pred; curr = curr; succ = succ; pending = pending; recovering = recovering }

-- "and a kept part (status ..; kind ..; address; node ..; result)"
abbrev pub kept_part : ℕ → ℕ → Address → Node → ℕ → Kept
kept_part status kind address node result =
    record { status = status; kind = kind; address = address; node = node; result = result }

abbrev pub record_of : Lost → Kept → Record
record_of lost kept = record { lost = lost; kept = kept }

-- a lost part of zeros but for its place
abbrev pub lost_at : ℕ → Lost
lost_at place = lost_part place no_node no_node no_node no_answer false

-- "A fresh record is all zeros."
abbrev pub fresh_record : Record
fresh_record = record_of (lost_at 0) (kept_part idle_status 0 (address 0) no_node no_answer)

-- ---- what the rows of the place table change; "fields not named stay"

-- the record r, changed: r ▸ curr≔ n ▸ to 1
abbrev pub ◌▸◌ : Record → (Record → Record) → Record
r ▸ change = change r

abbrev pub lost≔ : Lost → Record → Record
lost≔ lost r = record_of lost r.kept

abbrev pub kept≔ : Kept → Record → Record
kept≔ kept r = record_of r.lost kept

abbrev pub pred≔ : Node → Record → Record
pred≔ n r = let l = r.lost in r ▸ lost≔ (lost_part l.place n l.curr l.succ l.pending l.recovering)

abbrev pub curr≔ : Node → Record → Record
curr≔ n r = let l = r.lost in r ▸ lost≔ (lost_part l.place l.pred n l.succ l.pending l.recovering)

abbrev pub succ≔ : Node → Record → Record
succ≔ n r = let l = r.lost in r ▸ lost≔ (lost_part l.place l.pred l.curr n l.pending l.recovering)

abbrev pub recovering≔ : Bool → Record → Record
recovering≔ b r = let l = r.lost in r ▸ lost≔ (lost_part l.place l.pred l.curr l.succ l.pending b)

-- "to 1"
abbrev pub to : ℕ → Record → Record
to place r = let l = r.lost in r ▸ lost≔ (lost_part place l.pred l.curr l.succ l.pending l.recovering)

-- "18 with true": "With" sets the pending answer
abbrev pub ◌with◌ : ℕ → ℕ → Record → Record
◌with◌ place answer r = let l = r.lost in r ▸ lost≔ (lost_part place l.pred l.curr l.succ answer l.recovering)

abbrev pub status≔ : ℕ → Record → Record
status≔ status r = let k = r.kept in r ▸ kept≔ (kept_part status k.kind k.address k.node k.result)

abbrev pub kind≔ : ℕ → Record → Record
kind≔ kind r = let k = r.kept in r ▸ kept≔ (kept_part k.status kind k.address k.node k.result)

abbrev pub address≔ : Address → Record → Record
address≔ a r = let k = r.kept in r ▸ kept≔ (kept_part k.status k.kind a k.node k.result)

abbrev pub node≔ : Node → Record → Record
node≔ n r = let k = r.kept in r ▸ kept≔ (kept_part k.status k.kind k.address n k.result)

abbrev pub result≔ : ℕ → Record → Record
result≔ answer r = let k = r.kept in r ▸ kept≔ (kept_part k.status k.kind k.address k.node answer)

-- ---- what requests, stops and restarts make of a record

-- "The kept part is written at once: running, kind, address, node none, result none. Lost part: place 0 (find: 11), all else 0."
-- An insert's node is the one that it takes.
abbrev pub requested : (place kind : ℕ) → Address → Node → Record → Record
requested place kind a own r =
    r ▸ lost≔ (lost_at place) ▸ status≔ running_status ▸ kind≔ kind ▸ address≔ a ▸ node≔ own ▸ result≔ no_answer

-- "a running process goes down; its lost part becomes zeros"
abbrev pub went_down : Record → Record
went_down r = r ▸ lost≔ (lost_at 0) ▸ status≔ down_status

-- "a down process becomes running at place 13, recovering flag set"; the other fields stay
abbrev pub restarted : Record → Record
restarted r = r ▸ to 13 ▸ recovering≔ true ▸ status≔ running_status
