-- How many bytes the writer's numbers take, all and in part. Rests on the numbers' Sizes.
use Prim.Native.Nat.{ℕ, ◌+◌, ◌≤◌}
use mathlib.Core.List.{◌++◌, append-nil}
use mathlib.Core.Path.{◌≡◌, ap}
use native.Mathlib.Omega.{arith}
use Rattle.std.specs.Prelude.{Some, None}
use lib.ListN.{length, length-append}
use Rattle.numbers.specs.Numbers.{number_bytes}
use Rattle.numbers.proofs.Sizes.{number_size}
use Rattle.schedule.specs.declared.writing.Numbers.{Numbers}
use Rattle.schedule.specs.Inside.Laying.{tail_bytes, bytes_of}

module _ (x : Numbers) where
  all_size : length (bytes_of x) ≡ length (number_bytes x.first) + length (tail_bytes x)
  all_size = length-append (number_bytes x.first) (tail_bytes x)

  pub all_some : 1 ≤ length (bytes_of x)
  all_some = omega (arith, all_size, number_size x.first)

  pub tail_of_two : x.third ≡ None → tail_bytes x ≡ number_bytes x.second
  tail_of_two e = rw e (append-nil (number_bytes x.second))

  pub tail_of_three : (third : ℕ) → x.third ≡ Some third → tail_bytes x ≡ number_bytes x.second ++ number_bytes third
  tail_of_three third e = rw e

  -- by the bytes of each number
  module _ (first second : ℕ) (is-first : first ≡ length (number_bytes x.first)) (is-second : second ≡ length (number_bytes x.second)) where
    pub size_of_two : x.third ≡ None → first + second ≡ length (bytes_of x)
    size_of_two e = omega (arith, all_size, ap length (tail_of_two e))

    pub size_of_three : (n third : ℕ) → x.third ≡ Some n → third ≡ length (number_bytes n) → first + second + third ≡ length (bytes_of x)
    size_of_three n third e is-third =
        omega (arith, all_size, ap length (tail_of_three n e), length-append (number_bytes x.second) (number_bytes n))

pub ruleset size_laws = (size_of_two, size_of_three)
