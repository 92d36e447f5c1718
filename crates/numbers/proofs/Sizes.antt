-- A number's bytes group by group, and how many there are. Rests on Numbers.
use Prim.Native.Nat.{ℕ, zero, suc, ◌+◌, ◌*◌, ◌/◌, ◌%◌, ◌<◌, ◌≤◌}
use mathlib.Core.Bool.{cond}
use mathlib.Core.List.{List, [], ◌∷◌}
use mathlib.Core.Path.{◌≡◌, ap}
use native.Mathlib.Omega.{arith}
use borrow.Author.Tests.{lt-ltb, le-ltb}
use lib.Dec.{ltb}
use lib.ListN.{length}
use Rattle.basics.proofs.Tests.{if}
use Rattle.numbers.specs.Numbers.{groups, number_bytes}

pub number_last : (n : ℕ) → n < 128 → number_bytes n ≡ n ∷ []
unfolding number_bytes groups
number_last n h = rw (lt-ltb n 128 h)

-- what so many groups and one hold
abbrev limit : ℕ → ℕ
limit zero = 128
limit (suc more) = 128 * limit more

more_groups_lem : (more n : ℕ) → 128 ≤ n → groups (suc more) n ≡ (128 + n % 128) ∷ groups more (n / 128)
unfolding groups
more_groups_lem more n h = rw (le-ltb n 128 h)

one_group_more : (more n : ℕ) → n < limit more → groups (suc more) n ≡ groups more n
unfolding groups
one_group_more zero n h = rw (lt-ltb n 128 h)
one_group_more (suc more) n h =
    ap (λ (l : List ℕ). cond (ltb n 128) (n ∷ []) ((128 + n % 128) ∷ l)) (one_group_more more (n / 128) (omega arith))

pub number_more : (n : ℕ) → 128 ≤ n → n < 4294967296 → number_bytes n ≡ (128 + n % 128) ∷ number_bytes (n / 128)
unfolding number_bytes
number_more n h fits = rw (one_group_more 3 (n / 128) (omega arith)) (more_groups_lem 3 n h)

groups_size : (more n : ℕ) → (1 ≤ length (groups more n)) × (length (groups more n) ≤ suc more)
unfolding groups
groups_size zero n = omega arith
groups_size (suc more) n =
    if (λ (s : List ℕ). (1 ≤ length s) × (length s ≤ suc (suc more))) (ltb n 128)
    (λ _. omega arith) (λ _. omega (arith, groups_size more (n / 128)))

pub number_size : (n : ℕ) → (1 ≤ length (number_bytes n)) × (length (number_bytes n) ≤ 5)
unfolding number_bytes
number_size n = groups_size 4 n

pub ruleset sizes = (number_last, number_more, number_size)
