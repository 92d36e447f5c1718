-- A number at the start of a part, with at most four bytes past it changed (`Begun`). Rests on Decimal and Puts.
use mathlib.Core.List.{List}
use mathlib.Core.Path.{◌≡◌}
use Prim.Native.Nat.{ℕ, ◌-◌, ◌*◌, ◌<◌, ◌≤◌}
use native.Mathlib.Omega.{arith}
use lib.ListN.{length}
use Rattle.text.specs.Text.{decimal}
use Rattle.text.specs.Digits.{last_digits, tens, Begun}
use Rattle.text.specs.Put.{put, puts}
use Rattle.text.proofs.Decimal.{eight_begins, length_last}
use Rattle.text.proofs.Puts.{begun}

-- a number of four to eight digits, as the first of eight
pub begun_eight : (k n m r : ℕ) (part last : List ℕ) → n < 4294967296 → k ≡ length (decimal n) → 4 ≤ k → k ≤ 8 → m ≡ tens (8 - k)
    → put last r ≡ puts (last_digits 8 (n * m)) part → Begun (decimal n) part last k
begun_eight k n m r part last fits is four few lifts e =
    begun (decimal n) (last_digits 8 (n * m)) part last k r e (eight_begins k n m fits is few lifts) is (omega arith)
    (omega (arith, length_last 8 (n * m))) (omega (arith, length_last 8 (n * m)))
