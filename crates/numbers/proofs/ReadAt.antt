-- A number read from a place of a file leaves the file from a later place on: how the reader's places stand for the bytes left. Rests on Follows.
use Prim.Native.Nat.{ℕ, ◌≤◌}
use mathlib.Core.List.{List}
use mathlib.Core.Path.{◌≡◌, refl, ap, sym, ◌∙◌}
use native.Mathlib.Omega.{arith}
use lib.ListN.{length, drop, length-drop}
use Rattle.numbers.specs.Numbers.{Read, got, stops, read_number}
use Rattle.numbers.specs.ReadAt.{Got, Refused, place_in, number_read, number_at}
use Rattle.numbers.proofs.Follows.{Takes, number_takes, left_follows}

-- the place of the bytes from a place on
pub place_of_drop : (file : List ℕ) (at : ℕ) → at ≤ length file → place_in file (drop at file) ≡ at
place_of_drop file at h = omega (arith, length-drop at file)

-- a number read at a place, with the next place
pub record GotAt (file : List ℕ) (at n next : ℕ) : Type 0 where
  pub reads : read_number (drop at file) ≡ got n (drop next file)
  pub inside : next ≤ length file

by_read : (file : List ℕ) (at n next : ℕ) (r : Read ℕ) → Takes (drop at file) r → read_number (drop at file) ≡ r
    → number_read (place_in file) r ≡ Got n next → GotAt file at n next
by_read file at n next (got m left) f e is =
    let value : m ≡ n = cc in
    let place : place_in file left ≡ next = cc in
    let left_is : left ≡ drop next file = sym (left_follows file at left f) ∙ ap (λ (k : ℕ). drop k file) place in
    record { reads = e ∙ (λ i. got (value i) (left_is i)); inside = omega arith }
by_read file at n next (stops m) f e is = cc

by_stop : (file : List ℕ) (at n : ℕ) (r : Read ℕ) → read_number (drop at file) ≡ r
    → number_read (place_in file) r ≡ Refused n → read_number (drop at file) ≡ stops n
by_stop file at n (got m left) e is = cc
by_stop file at n (stops m) e is = cc

-- of what `read_number` answers there
module _ (file : List ℕ) (at n : ℕ) where
  pub got_number : (next : ℕ) → Got n next ≡ number_at file at → GotAt file at n next
  unfolding number_at
  got_number next is = by_read file at n next (read_number (drop at file)) (number_takes (drop at file)) refl (sym is)

  pub refused_number : Refused n ≡ number_at file at → read_number (drop at file) ≡ stops n
  unfolding number_at
  refused_number is = by_stop file at n (read_number (drop at file)) refl (sym is)

  pub number_inside : (next : ℕ) → Got n next ≡ number_at file at → next ≤ length file
  number_inside next is = (got_number next is).inside
