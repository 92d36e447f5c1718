-- Eight digits in one word, several numbers at a time: what the products of `pairs` and `spelt` do. Rests on Digits.
--
-- A word holds a row of numbers, each in a lane of its own, the first lowest. Each number x of the row is split by b, which is 100 in `pairs` and
-- 10 in `spelt`, into x / b and x % b side by side, w apart; and all of the row at once (of `pairs` the check finds
-- it alone; what stands below is for `spelt`):
-- * x / b is x * m / 2^k, where m is 2^k / b rounded up: 10486 for 2^20 / 100 and x below 10000, 103 for 2^10 / 10 and x below 100. So one product
--   and one division share out the whole word. What the lanes above add to a lane is a multiple of 128, or of 16, which is more than any x / b:
--   a remainder takes it off again.
-- * x / b + w * (x % b) is w * x - (w * b - 1) * (x / b), since x % b is x - b * (x / b): one more product, and one subtraction.
use Prim.Native.Nat.{ℕ, ◌+◌, ◌*◌, ◌/◌, ◌%◌, ◌<◌}
use mathlib.Core.Path.{◌≡◌}
use native.Mathlib.Omega.{arith}
use native.Mathlib.Nat.{div-div-eq-div-mul}
use mir.Syntax.{w64}
use Rattle.std.specs.Int.{from_le_bytes}
use Rattle.text.specs.Digits.{lanes, pairs_of, last_digits}

-- ---- four numbers of two digits, by 10

-- four pairs in one word
pub record Paired (a b c d p : ℕ) : Type 0 where
  pub first : a < 100
  pub second : b < 100
  pub third : c < 100
  pub fourth : d < 100
  pub is : p ≡ lanes a b c d

pub paired : (n p : ℕ) → n < 100000000 → p ≡ pairs_of n → Paired (n / 1000000) (n / 10000 % 100) (n / 100 % 100) (n % 100) p
paired n p s e = record { first = omega arith; second = omega arith; third = omega arith; fourth = omega arith; is = e }

abbrev tenth : ℕ → ℕ
tenth p = p * 103 / 1024

-- of a tenth, what lies above a lane, and this lane alone
lane_above : (a b rest : ℕ) → a < 100 → b < 100 → (a / 10 + 6592 * (b + 65536 * rest)) / 65536 ≡ b / 10 + 6592 * rest
lane_above a b rest g h = omega arith

lane_alone : (a rest : ℕ) → a < 100 → (a / 10 + 6592 * rest) % 16 ≡ a / 10
lane_alone a rest h = omega arith

-- a pair in two bytes, as text
abbrev pair_text : ℕ → ℕ
pair_text x = (48 + x / 10) + 256 * (48 + x % 10)

module _ {a b c d p : ℕ} (q : Paired a b c d p) where
  pub tens_are : tenth p % 16 + tenth p / 65536 % 16 * 65536 + tenth p / 4294967296 % 16 * 4294967296
      + tenth p / 281474976710656 * 281474976710656 ≡ lanes (a / 10) (b / 10) (c / 10) (d / 10)
  tens_are =
      let first : tenth p ≡ a / 10 + 6592 * (b + 65536 * (c + 65536 * d)) = omega arith in
      let second : tenth p / 65536 ≡ b / 10 + 6592 * (c + 65536 * d) = rw first (lane_above a b _ q.first q.second) in
      let third : tenth p / 4294967296 ≡ c / 10 + 6592 * d =
      rw (← div-div-eq-div-mul (tenth p) 65536 65536, second) (lane_above b c _ q.second q.third) in
      let fourth : tenth p / 281474976710656 ≡ d / 10 = rw (← div-div-eq-div-mul (tenth p) 4294967296 65536, third) (omega arith) in
      rw (fourth, third, second, first, lane_alone a _ q.first, lane_alone b _ q.second, lane_alone c _ q.third) (omega arith)

  -- with `0` added in each byte and the tens taken out, the text of the pairs is left
  text_left : p * 256 + 3472328296227680304
      ≡ lanes (a / 10) (b / 10) (c / 10) (d / 10) * 2559 + lanes (pair_text a) (pair_text b) (pair_text c) (pair_text d)
  text_left = omega arith

-- ---- eight digits

-- the tens and the ones of a pair of digits
tens_of : (m : ℕ) → m % 100 / 10 ≡ m / 10 % 10
tens_of m = omega arith

ones_of : (m : ℕ) → m % 100 % 10 ≡ m % 10
ones_of m = omega arith

spelt_pairs : (n : ℕ) → n < 100000000
    → from_le_bytes w64 (last_digits 8 n)
    ≡ lanes (pair_text (n / 1000000)) (pair_text (n / 10000 % 100)) (pair_text (n / 100 % 100)) (pair_text (n % 100))
unfolding last_digits
spelt_pairs n s =
    let top : n / 10000000 % 10 ≡ n / 10000000 = omega arith in
    simp (div-div-eq-div-mul, tens_of, ones_of, top) (omega arith)

-- and so that of the digits
pub digits_left : (n p : ℕ) → n < 100000000 → p ≡ pairs_of n → p * 256 + 3472328296227680304
    ≡ lanes (n / 1000000 / 10) (n / 10000 % 100 / 10) (n / 100 % 100 / 10) (n % 100 / 10) * 2559 + from_le_bytes w64 (last_digits 8 n)
digits_left n p s e = rw (spelt_pairs n s) (text_left (paired n p s e))
