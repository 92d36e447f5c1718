-- 01's examples 1 to 10, those marked P: one table under one statement, computed from the definitions that the promises cite. Rests on the place
-- table and on numbers.
use Rattle.std.specs.Prelude.{◌≡◌, refl, Bool, true, false, List, [], ◌∷◌, ◌++◌, map, ℕ, replicate}
use Rattle.record.specs.Record.{node, process, address, running_status, down_status, false_answer, true_answer, fail_answer}
use Rattle.record.specs.Event.{event_of}
use Rattle.record.specs.declared.Action.TheVariants.{Insert, Delete, Find, Step, Stop, Restart}
use Rattle.record.specs.declared.Event.{Event}
use Rattle.record.specs.declared.Node.{Node}
use Rattle.record.specs.declared.Outcome.{Outcome}
use Rattle.record.specs.declared.Outcome.TheVariants.{Refused, Accepted, Answered}
use Rattle.record.specs.declared.Record.{Record}
use Rattle.table.specs.Words.{lengths, address_at, link_at, deleter_at, is_marked, in_use, rank, written, given_out, fresh_memory}
use Rattle.table.specs.Places.{place_of, search_ends, row}
use Rattle.table.specs.Steps.{word_met, in_range, turn_in}
use Rattle.table.specs.Events.{fresh, outcomes, runs, event, stored, record_in, act, refusal_in, tables_fit, sizes_fit, does, step}
use Rattle.numbers.specs.Numbers.{Read, got, stops, number_bytes, groups, read_number, more_groups, ◌then◌}

-- ---- what an example shows

-- where a process stands: its status, its place, and the node of its record
pub record Standing : Type 0 where
  pub status : ℕ
  pub place : ℕ
  pub own : Node

abbrev pub standing_of : Record → Standing
standing_of r = record { status = r.kept.status; place = r.lost.place; own = r.kept.node }

-- a number's bytes; what bytes read as; the outcomes of the last events of a run, and the nodes given out after it; at a moment, the address of a
-- node, whether its link is marked, and where each process stands
pub data Shown : Type 0 where
  bytes : List ℕ → Shown
  reads : Read ℕ → Shown
  ends : (given : ℕ) → List Outcome → Shown
  sees : (claimed : ℕ) → (marked : Bool) → List Standing → Shown

pub data Example : Type 0 where
  number : ℕ → Example
  reading : List ℕ → Example
  run : (nodes processes : ℕ) → (before events : List Event) → Example
  moment_after : (nodes processes : ℕ) → (before : List Event) → Node → Example

-- of a run, the outcomes of its events; those before them only lead up to them, as they do to a moment
unfoldable pub shows : Example → Shown
shows (number n) = bytes (number_bytes n)
shows (reading s) = reads (read_number s)
shows (run nodes processes before events) =
    let σ = runs (fresh nodes processes) before in
    ends (runs σ events).memory.count (outcomes σ events)
shows (moment_after nodes processes before n) =
    let σ = runs (fresh nodes processes) before in
    sees (address_at σ.memory n) (is_marked (link_at σ.memory n)) (map standing_of σ.row)

-- ---- the words of the examples

abbrev pub insert_by : ℕ → ℕ → Event
insert_by p a = event_of (process p) (Insert (address a))

abbrev pub delete_by : ℕ → ℕ → Event
delete_by p a = event_of (process p) (Delete (address a))

abbrev find_by : ℕ → ℕ → Event
find_by p a = event_of (process p) (Find (address a))

abbrev pub steps_by : ℕ → ℕ → List Event
steps_by p n = replicate n (event_of (process p) Step)

abbrev stop_by : ℕ → Event
stop_by p = event_of (process p) Stop

abbrev restart_by : ℕ → Event
restart_by p = event_of (process p) Restart

-- the sole address 485, claimed by process 0
abbrev sole : List Event
sole = insert_by 0 485 ∷ steps_by 0 6

-- example 9: two deletes of it have both taken row 5, which writes its node into the record; then 0 marks; then 0 goes down
abbrev both_past5 : List Event
both_past5 = sole ++ (delete_by 0 485 ∷ delete_by 1 485 ∷ steps_by 0 4 ++ steps_by 1 4)

abbrev marks : List Event
marks = steps_by 0 1

abbrev goes_down : List Event
goes_down = stop_by 0 ∷ []

-- so many accepted events without an answer, then an answer
abbrev answers_after : ℕ → ℕ → List Outcome
answers_after n v = replicate n Accepted ++ (Answered v ∷ [])

-- of a status and at a place, with a node in the record
abbrev stands_at : (status place : ℕ) → Node → Standing
stands_at status place own = record { status = status; place = place; own = own }

-- an example, and what 01 says of it
pub record Worked : Type 0 where
  pub example : Example
  pub wanted : Shown

infix 10 ◌gives◌
abbrev ◌gives◌ : Example → Shown → Worked
x gives y = record { example = x; wanted = y }

-- ---- the table

abbrev pub examples : List Worked
examples =
    -- 1. 485 (hex 1E5) is E5 03
    (number 485 gives bytes (229 ∷ 3 ∷ []))
    ∷ (reading (229 ∷ 3 ∷ []) gives reads (got 485 []))
    -- 2. 100000 is A0 8D 06
    ∷ (number 100000 gives bytes (160 ∷ 141 ∷ 6 ∷ []))
    ∷ (reading (160 ∷ 141 ∷ 6 ∷ []) gives reads (got 100000 []))
    -- 3. FF FF FF FF 0F is 4294967295; with 10 last: 6
    ∷ (number 4294967295 gives bytes (255 ∷ 255 ∷ 255 ∷ 255 ∷ 15 ∷ []))
    ∷ (reading (255 ∷ 255 ∷ 255 ∷ 255 ∷ 15 ∷ []) gives reads (got 4294967295 []))
    ∷ (reading (255 ∷ 255 ∷ 255 ∷ 255 ∷ 16 ∷ []) gives reads (stops 6))
    -- 4. E5 83 00: 6. E5 alone: 4
    ∷ (reading (229 ∷ 131 ∷ 0 ∷ []) gives reads (stops 6))
    ∷ (reading (229 ∷ []) gives reads (stops 4))
    -- 5. empty list, insert: answers true at step 6
    ∷ (run 8 2 [] (insert_by 0 485 ∷ steps_by 0 6) gives ends 3 (answers_after 6 true_answer))
    -- 6. empty list, delete: false at step 4; find: false at step 2
    ∷ (run 8 2 [] (delete_by 0 485 ∷ steps_by 0 4) gives ends 2 (answers_after 4 false_answer))
    ∷ (run 8 2 [] (find_by 0 485 ∷ steps_by 0 2) gives ends 2 (answers_after 2 false_answer))
    -- 7. sole address, its delete: true at step 11; its repeated insert: false at step 4, a node spent
    ∷ (run 8 2 sole (delete_by 0 485 ∷ steps_by 0 11) gives ends 3 (answers_after 11 true_answer))
    ∷ (run 8 2 sole (insert_by 1 485 ∷ steps_by 1 4) gives ends 4 (answers_after 4 false_answer))
    -- 8. down before any step: delete answers fail at step 2 after recovery; insert in an empty list at step 5
    ∷ (run 8 2 (delete_by 0 485 ∷ stop_by 0 ∷ []) (restart_by 0 ∷ steps_by 0 2) gives ends 2 (answers_after 2 fail_answer))
    ∷ (run 8 2 (insert_by 0 485 ∷ stop_by 0 ∷ []) (restart_by 0 ∷ steps_by 0 5) gives ends 3 (answers_after 5 fail_answer))
    -- 9. two processes have both passed place 5 on one node; 0 marks and goes down; 1 finishes true; 0 recovers with fail at step 5
    -- both stand at 7, past 5, with the node in their records, and its link is unmarked
    ∷ (moment_after 8 2 both_past5 (node 2) gives sees 485 false (stands_at running_status 7 (node 2) ∷ stands_at running_status 7 (node 2) ∷ []))
    -- one step of 0 later it is marked
    ∷ (moment_after 8 2 (both_past5 ++ marks) (node 2) gives sees 485 true (stands_at running_status 6 (node 2) ∷ stands_at running_status 7 (node 2) ∷ []))
    -- 0 is down, with the node still in its record
    ∷ (moment_after 8 2 (both_past5 ++ (marks ++ goes_down)) (node 2)
    gives sees 485 true (stands_at down_status 0 (node 2) ∷ stands_at running_status 7 (node 2) ∷ []))
    -- the answers
    ∷ (run 8 2 (both_past5 ++ (marks ++ goes_down)) (steps_by 1 7 ++ (restart_by 0 ∷ steps_by 0 5))
    gives ends 3 (answers_after 6 true_answer ++ answers_after 5 fail_answer))
    -- 10. two nodes: insert refused 3, delete accepted. Running process, full table, insert: 2
    ∷ (run 2 2 [] (insert_by 0 485 ∷ delete_by 0 485 ∷ insert_by 0 485 ∷ []) gives ends 2 (Refused 3 ∷ Accepted ∷ Refused 2 ∷ []))
    ∷ []

-- ---- the statement

pub examples_hold : map (λ w. shows w.example) examples ≡ map (λ w. w.wanted) examples
unfolding shows number_bytes groups read_number more_groups ◌then◌ fresh fresh_memory outcomes runs event stored record_in act refusal_in tables_fit sizes_fit
    does step turn_in in_range word_met row search_ends place_of written given_out rank in_use lengths address_at link_at deleter_at
examples_hold = refl
