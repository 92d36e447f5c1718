-- How many events a file can hold: at most 255 for each of its bytes. Rests on ReadAll.
use mathlib.Core.List.{List, ◌∷◌}
use Prim.Native.Nat.{ℕ, ◌+◌, ◌*◌, ◌≤◌}
use native.Mathlib.Omega.{arith}
use lib.ListN.{length, drop, length-append, length-replicate, length-drop}
use Rattle.numbers.proofs.Follows.{follows_shorter}
use Rattle.schedule.specs.declared.Cursor.{Cursor}
use Rattle.schedule.specs.Encoding.{Item, single, burst, events_of}
use Rattle.schedule.specs.Reading.{Reading, read_all}
use Rattle.files.specs.Comes.{comes}
use Rattle.files.proofs.Follows.{CountFits}
use Rattle.files.proofs.ReadAll.{item_by_item}

-- an item is at most 255 events
item_few : (i : Item) (items : List Item) → CountFits i → length (events_of (i ∷ items)) ≤ 255 + length (events_of items)
unfolding events_of
item_few (single e) items fits = omega arith
item_few (burst p count) items fits = simp (length-append, length-replicate) (omega (arith, fits.1))

abbrev Few : List ℕ → Reading → Type 0
Few s x = length (events_of x.items) ≤ 255 * length s

items_few : (s : List ℕ) → Few s (read_all s)
unfolding events_of
items_few =
    item_by_item Few (λ s e. omega arith)
    (λ s i left e t few. omega (arith, follows_shorter t.0, item_few i (read_all left).items t.1))
    (λ s n e. omega arith)

-- the steps left of a burst, and at most 255 events for each byte of the file: so the number of an event in a file fits 32 bits
pub comes_few : (s : List ℕ) (c : Cursor) → length (comes s c) ≤ c.left + 255 * length s
unfolding comes
comes_few s c =
    simp (length-append, length-replicate) (omega (arith, items_few (drop c.at s), length-drop c.at s))
