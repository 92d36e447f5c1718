-- Reading a header or an item takes bytes off the front, at least one, and is refused with 4 to 7 alone. Holds of any list of numbers. Rests on the
-- numbers' Follows.
use mathlib.Core.Path.{◌≡◌, refl}
use mathlib.Core.List.{List, [], ◌∷◌}
use Prim.Native.Nat.{ℕ, ◌≤◌}
use native.Mathlib.Omega.{arith}
use Rattle.record.specs.Record.{process}
use Rattle.record.specs.declared.Process.{Process}
use Rattle.table.specs.Events.{sizes_fit}
use Rattle.basics.proofs.Tests.{if, if_lt, if_le, if_within}
use Rattle.numbers.specs.Numbers.{Read, got, stops, read_number}
use Rattle.numbers.proofs.Follows.{Tells, after, Follows, follows_follows, Refusal, number_takes}
use Rattle.schedule.specs.declared.Header.{Header}
use Rattle.schedule.specs.Encoding.{Item, single, burst}
use Rattle.schedule.specs.Reading.{read_header, read_item, read_rest, read_burst, NextItem, end, item, refuses, standing, next_item}

-- "header numbers, 7 for sizes"
abbrev pub TakesHeader : List ℕ → Read Header → Type 0
TakesHeader s = Tells (λ h left. Follows left s) (λ n. (4 ≤ n) × (n ≤ 7))

pub header_takes : (s : List ℕ) → TakesHeader s (read_header s)
unfolding read_header
header_takes s =
    after (TakesHeader s) (read_number s) _ (number_takes s)
    (λ nodes t f. after (TakesHeader s) (read_number t) _ (number_takes t)
    (λ processes left g. if (TakesHeader s) (sizes_fit nodes processes) (λ _. follows_follows g f) (λ _. omega arith))
    (λ n r. omega arith))
    (λ n r. omega arith)

-- "count 1 to 255"
abbrev pub CountFits : Item → Type 0
CountFits (single e) = Unit
CountFits (burst p count) = (1 ≤ count) × (count ≤ 255)

-- an item read, with its count, and bytes left that follow
abbrev pub TakesItem : List ℕ → Read Item → Type 0
TakesItem s = Tells (λ i left. Follows left s × CountFits i) Refusal

burst_takes : (p : Process) (t s : List ℕ) → Follows t s → TakesItem s (read_burst p t)
unfolding read_burst
burst_takes p t s f =
    after (TakesItem s) (read_number t) _ (number_takes t)
    (λ count left g. if_within (TakesItem s) 1 count 255 (λ low high. (follows_follows g f, (low, high))) (λ out. omega arith))
    (λ n r. r)

rest_takes : (kind : ℕ) (p : Process) (t s : List ℕ) → Follows t s → TakesItem s (read_rest kind p t)
unfolding read_rest
rest_takes kind p t s f =
    if_le (TakesItem s) kind 2
    (λ l. after (TakesItem s) (read_number t) _ (number_takes t) (λ a left g. (follows_follows g f, tt)) (λ n r. r))
    (λ l. if_le (TakesItem s) kind 5 (λ m. (f, tt)) (λ m. burst_takes p t s f))

item_takes : (s : List ℕ) → TakesItem s (read_item s)
unfolding read_item
item_takes s =
    after (TakesItem s) (read_number s) _ (number_takes s)
    (λ kind t f. if_lt (TakesItem s) 6 kind
    (λ l. omega arith)
    (λ l. after (TakesItem s) (read_number t) _ (number_takes t)
    (λ p u g. rest_takes kind (process p) u s (follows_follows g f))
    (λ n r. r)))
    (λ n r. r)

-- what stands next: nothing, an item, or a refusal
abbrev pub Next : List ℕ → NextItem → Type 0
Next s end = s ≡ []
Next s (item i left) = Follows left s × CountFits i
Next s (refuses n) = Refusal n

pub next : (s : List ℕ) → Next s (next_item s)
unfolding next_item
next [] = refl
next (b ∷ s) = by_item (read_item (b ∷ s)) (item_takes (b ∷ s))
  where
    by_item : (r : Read Item) → TakesItem (b ∷ s) r → Next (b ∷ s) (standing r)
    by_item (got i left) t = t
    by_item (stops n) t = t
