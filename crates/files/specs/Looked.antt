-- The bytes looked at where an event is refused with 5 or 6. Rests on the schedule's reading.
use Rattle.std.specs.Prelude.{◌≡◌, ◌⊎◌, List, ◌∷◌, ◌++◌, ℕ}
use Rattle.schedule.specs.Reading.{end, refuses, next_item}

-- of the bytes left, those at the front decide: they are refused whatever follows them, and with fewer of them, the file ends before the event
-- or inside it
pub record Looked (left : List ℕ) (number : ℕ) : Type 0 where
  pub seen : List ℕ
  pub unseen : List ℕ
  pub whole : left ≡ seen ++ unseen
  pub enough : (t : List ℕ) → next_item (seen ++ t) ≡ refuses number
  pub needed : (front : List ℕ) (b : ℕ) (rest : List ℕ) → seen ≡ front ++ (b ∷ rest) → (next_item front ≡ end) ⊎ (next_item front ≡ refuses 4)
