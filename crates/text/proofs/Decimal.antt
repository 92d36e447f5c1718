-- A number below 2³² in decimal: how many digits it has, and that they are its last digits. Rests on Text.
use Prim.Native.Nat.{ℕ, zero, suc, ◌+◌, ◌*◌, ◌-◌, ◌/◌, ◌%◌, ◌<◌, ◌≤◌}
use mathlib.Core.List.{List, [], ◌∷◌, ◌++◌}
use mathlib.Core.Path.{◌≡◌, refl, ap, sym, ◌∙◌}
use mathlib.Core.Bool.{Bool, true, false, cond}
use native.Mathlib.Omega.{arith}
use native.Mathlib.Numerals.{add-one}
use native.Mathlib.Nat.{mul_assoc, mul-one, zero-add, suc-add}
use borrow.Author.Tests.{lt-ltb, le-ltb, ltb-true, ltb-false}
use lib.ListN.{length, take, get_or, length-append}
use lib.Seq.{take_all, take-append-le}
use lib.Dec.{ltb}
use mir.Syntax.{w32, w64}
use mir.Val.{Fits}
use Rattle.std.proofs.lemmas.Nat.{le_bytes_8}
use Rattle.std.specs.Int.{from_le_bytes, to_le_bytes}
use Rattle.text.specs.Text.{digits, decimal}
use Rattle.text.specs.Digits.{last_digits, tens}

-- 10, 100, ..: a number below has at most so many digits and one
abbrev pub power : ℕ → ℕ
power zero = 10
power (suc k) = 10 * power k

-- one turn more changes nothing for a number that is small enough
digits_enough : (k n : ℕ) → n < power k → digits (suc k) n ≡ digits k n
unfolding digits
digits_enough zero n h = rw (lt-ltb n 10 h)
digits_enough (suc k) n h =
    ap (λ (l : List ℕ). cond (ltb n 10) ((48 + n) ∷ []) (l ++ ((48 + n % 10) ∷ [])))
    (digits_enough k (n / 10) (omega arith))

pub decimal_one : (n : ℕ) → n < 10 → decimal n ≡ (48 + n) ∷ []
unfolding decimal digits
decimal_one n h = rw (lt-ltb n 10 h)

digits_next : (n : ℕ) → 10 ≤ n → digits 9 n ≡ digits 8 (n / 10) ++ ((48 + n % 10) ∷ [])
unfolding digits
digits_next n h = rw (le-ltb n 10 h)

pub decimal_more : (n : ℕ) → 10 ≤ n → n < 4294967296 → decimal n ≡ decimal (n / 10) ++ ((48 + n % 10) ∷ [])
unfolding decimal
decimal_more n h s =
    digits_next n h ∙ ap (λ (l : List ℕ). l ++ ((48 + n % 10) ∷ [])) (sym (digits_enough 8 (n / 10) (omega arith)))

-- how many digits
length_more : (n : ℕ) → 10 ≤ n → n < 4294967296 → length (decimal n) ≡ suc (length (decimal (n / 10)))
length_more n h s = rw (decimal_more n h s, length-append, add-one)

-- as many of its last digits as it has are the number
last_one : (n : ℕ) → n < 10 → decimal n ≡ last_digits (length (decimal n)) n
unfolding last_digits
last_one n h = let e : n % 10 ≡ n = omega arith in rw (decimal_one n h, e)

last_more : (n : ℕ) → 10 ≤ n → n < 4294967296 → decimal (n / 10) ≡ last_digits (length (decimal (n / 10))) (n / 10)
    → decimal n ≡ last_digits (length (decimal n)) n
unfolding last_digits
last_more n h s e = rw (length_more n h s, decimal_more n h s) (ap (λ (l : List ℕ). l ++ ((48 + n % 10) ∷ [])) e)

-- from a number without its last digit to the number
module _ (P : ℕ → Type 0) (one : (n : ℕ) → n < 10 → P n) (more : (n : ℕ) → 10 ≤ n → n < 4294967296 → P (n / 10) → P n) where
  by_size : (n : ℕ) → n < 4294967296 → P (n / 10) → (small : Bool) → ltb n 10 ≡ small → P n
  by_size n s tenth true e = one n (ltb-true n 10 e)
  by_size n s tenth false e = more n (ltb-false n 10 e) s tenth

  by_turns : (k n : ℕ) → n < power k → n < 4294967296 → P n
  by_turns zero n h s = one n h
  by_turns (suc k) n h s = by_size n s (by_turns k (n / 10) (omega arith) (omega arith)) (ltb n 10) refl

  by_digits : (n : ℕ) → n < 4294967296 → P n
  by_digits n s = by_turns 9 n (omega arith) s

pub decimal_is_last : (n : ℕ) → n < 4294967296 → decimal n ≡ last_digits (length (decimal n)) n
decimal_is_last = by_digits (λ (n : ℕ). decimal n ≡ last_digits (length (decimal n)) n) last_one last_more

-- a number is below the power of ten that has a digit more than it
below_one : (n : ℕ) → n < 10 → n < tens (length (decimal n))
unfolding tens
below_one n h = rw (decimal_one n h) (omega arith)

below_more : (n : ℕ) → 10 ≤ n → n < 4294967296 → n / 10 < tens (length (decimal (n / 10))) → n < tens (length (decimal n))
unfolding tens
below_more n h s e = rw (length_more n h s) (omega (arith, e))

decimal_below : (n : ℕ) → n < 4294967296 → n < tens (length (decimal n))
decimal_below = by_digits (λ (n : ℕ). n < tens (length (decimal n))) below_one below_more

pub length_last : (k n : ℕ) → length (last_digits k n) ≡ k
unfolding last_digits
length_last zero n = refl
length_last (suc k) n = simp length-append (omega (arith, length_last k (n / 10)))

-- each is a byte
bytes_push : (xs : List ℕ) (x : ℕ) → x < 256 → ((i : ℕ) → get_or xs i 0 < 256) → (i : ℕ) → get_or (xs ++ (x ∷ [])) i 0 < 256
bytes_push [] x h few zero = h
bytes_push [] x h few (suc i) = omega arith
bytes_push (y ∷ xs) x h few zero = few 0
bytes_push (y ∷ xs) x h few (suc i) = bytes_push xs x h (λ j. few (suc j)) i

last_bytes : (k n i : ℕ) → get_or (last_digits k n) i 0 < 256
unfolding last_digits
last_bytes zero n i = omega arith
last_bytes (suc k) n i = bytes_push (last_digits k (n / 10)) (48 + n % 10) (omega arith) (last_bytes k (n / 10)) i

-- so that the bytes of a word that holds eight of them are these
pub eight_bytes : (n w : ℕ) → w ≡ from_le_bytes w64 (last_digits 8 n) → to_le_bytes w64 w ≡ last_digits 8 n
eight_bytes n w e = le_bytes_8 (last_digits 8 n) w (length_last 8 n) (last_bytes 8 n) e

-- with zeros after it, a number has the same first digits, and as many more
lifted_below : (j k n : ℕ) → n < tens k → n * tens j < tens (j + k)
unfolding tens
lifted_below zero k n h = rw (zero-add, mul-one) h
lifted_below (suc j) k n h =
    let e = lifted_below j k n h in
    rw (suc-add j k, sym (mul_assoc n (tens j) 10)) (omega (arith, e))

lifted : (j k n : ℕ) → take k (last_digits (j + k) (n * tens j)) ≡ last_digits k n
unfolding last_digits tens
lifted zero k n = rw (zero-add, mul-one) (take_all k (last_digits k n) (omega (arith, length_last k n)))
lifted (suc j) k n =
    let m : n * (tens j * 10) / 10 ≡ n * tens j = rw (sym (mul_assoc n (tens j) 10)) (omega arith) in
    rw (suc-add j k, m)
    (take-append-le k (last_digits (j + k) (n * tens j)) _ (omega (arith, length_last (j + k) (n * tens j))) ∙ lifted j k n)

-- a number of at most eight digits made one of eight
module _ (k n m : ℕ) (s : n < 4294967296) (c : k ≡ length (decimal n)) (h : k ≤ 8) (e : m ≡ tens (8 - k)) where
  eight_in_all : 8 - k + k ≡ 8
  eight_in_all = omega arith

  pub eight_fits : n * m < 100000000
  unfolding tens
  eight_fits = rw e (rw eight_in_all at (lifted_below (8 - k) k n (rw c (decimal_below n s))))

  pub eight_fits_32 : Fits w32 (n * m)
  eight_fits_32 = record { fits = omega (arith, eight_fits) }

  pub eight_begins : take k (last_digits 8 (n * m)) ≡ decimal n
  eight_begins = rw (e, decimal_is_last n s, ← c) (rw eight_in_all at (lifted (8 - k) k n))

length_cond : (b : Bool) (x y : List ℕ) (least most : ℕ) → (least ≤ length x) × (length x ≤ most) → (least ≤ length y) × (length y ≤ most)
    → (least ≤ length (cond b x y)) × (length (cond b x y) ≤ most)
length_cond true x y least most h k = h
length_cond false x y least most h k = k

digits_length : (k n : ℕ) → (1 ≤ length (digits k n)) × (length (digits k n) ≤ suc k)
unfolding digits
digits_length zero n = omega arith
digits_length (suc k) n =
    length_cond (ltb n 10) _ _ 1 (suc (suc k)) (omega arith) (simp length-append (omega (arith, digits_length k (n / 10))))

-- from one digit to ten
pub decimal_length : (n : ℕ) → (1 ≤ length (decimal n)) × (length (decimal n) ≤ 10)
unfolding decimal
decimal_length n = digits_length 9 n

pub decimal_within : (n : ℕ) (part : List ℕ) → 11 ≤ length part → length (decimal n) < length part
decimal_within n part room = omega (arith, decimal_length n)
