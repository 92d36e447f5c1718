-- What is spelt so far, and the digits left before it, is the number before what stood there. Rests on Digits.
use Rattle.std.proofs.Common.{ℕ, ◌≡◌, ◌≤◌, ◌++◌, length, drop}
use Rattle.text.specs.Text.{decimal}
use Rattle.text.specs.Digits.{last_digits}
use Rattle.text.proofs.put_decimal.Given as goal

-- what the loop keeps
pub record Spells (count i part part₀ : ℕ) (S : Type 0) : Type 0 where
  pub within : i ≤ count
  pub few : count ≤ 10
  pub part_is : part ≡ part₀
  pub spelt : S

abbrev pub invariant-loop-i : goal.invariant-loop-i
invariant-loop-i l =
    Spells l.count l.i (length l.part) (length l.fn.part)
    (last_digits l.i l.rest ++ drop l.i l.part ≡ decimal l.fn.n ++ drop (length (decimal l.fn.n)) l.fn.part)

abbrev pub decreases-loop-i : goal.decreases-loop-i
decreases-loop-i l = l.i
