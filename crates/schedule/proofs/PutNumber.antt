-- What each turn of `put_number` leaves: the bytes so far, and those to come. Rests on the numbers' Sizes and on Lays.
use Prim.Native.Nat.{ℕ, ◌+◌, ◌/◌, ◌%◌, ◌<◌, ◌≤◌, min}
use mathlib.Core.List.{List, [], ◌∷◌, ◌++◌, append-nil}
use mathlib.Core.Path.{◌≡◌, refl, ap, sym, ◌∙◌}
use native.Mathlib.Omega.{arith}
use native.Mathlib.Numerals.{add-one}
use lib.ListN.{length, take, drop, set, get_or, length-set, length-drop, drop_of_length-le}
use lib.Seq.{drop-cons, take-length}
use Rattle.basics.proofs.Rest.{copy_more}
use Rattle.numbers.specs.Numbers.{number_bytes}
use Rattle.numbers.proofs.Sizes.{number_last, number_more, number_size}
use Rattle.schedule.specs.Inside.Laying.{fitted}
use Rattle.schedule.proofs.Lays.{fitted_whole, fitted_full}

-- of the bytes of a number so many stand in the output found, and those of the rest are to come
pub record Putting (bytes found out : List ℕ) (rest at : ℕ) : Type 0 where
  pub same_length : length out ≡ length found
  pub so_far : out ≡ take at bytes ++ drop at found
  pub to_come_lem : drop at bytes ≡ number_bytes rest
  pub inside : at < length bytes
  pub fits : at ≤ length found
  pub small : rest < 4294967296

pub none_put : (found : List ℕ) (n : ℕ) → n < 4294967296 → Putting (number_bytes n) found found n 0
none_put found n small =
    record {
      same_length = refl;
      so_far = refl;
      to_come_lem = refl;
      inside = omega (arith, number_size n);
      fits = omega arith;
      small = small;
    }

module _ (bytes found out : List ℕ) (rest at : ℕ) (here : at < length out) (p : Putting bytes found out rest at) where
  next_byte : (b : ℕ) (more : List ℕ) → number_bytes rest ≡ b ∷ more → (get_or bytes at 0 ≡ b) × (drop (at + 1) bytes ≡ more)
  next_byte b more e =
      let split : get_or bytes at 0 ∷ drop (at + 1) bytes ≡ b ∷ more =
      rw add-one (sym (drop-cons bytes at 0 p.inside) ∙ (p.to_come_lem ∙ e)) in
      (cc, cc)

  stands : (b : ℕ) → get_or bytes at 0 ≡ b → set out at b ≡ take (at + 1) bytes ++ drop (at + 1) found
  stands b e =
      rw (p.so_far, ← e) (copy_more found bytes at (omega (arith, p.same_length)) p.inside)

  pub one_put : 128 ≤ rest → Putting bytes found (set out at (128 + rest % 128)) (rest / 128) (at + 1)
  one_put h =
      let next = next_byte (128 + rest % 128) (number_bytes (rest / 128)) (number_more rest h p.small) in
      record {
        same_length = length-set out at (128 + rest % 128) ∙ p.same_length;
        so_far = stands (128 + rest % 128) next.0;
        to_come_lem = next.1;
        inside = omega (arith, ap length next.1, length-drop (at + 1) bytes, number_size (rest / 128));
        fits = omega (arith, p.same_length);
        small = omega (arith, p.small);
      }

  module _ (last : rest < 128) where
    last_byte : (get_or bytes at 0 ≡ rest) × (drop (at + 1) bytes ≡ [])
    last_byte = next_byte rest [] (number_last rest last)

    whole : at + 1 ≡ length bytes
    whole = omega (arith, ap length last_byte.1, length-drop (at + 1) bytes, p.inside)

    pub last_put : set out at rest ≡ fitted bytes found
    last_put =
        stands rest last_byte.0 ∙ rw (whole, take-length) (sym (fitted_whole bytes found (omega (arith, p.same_length, whole))))

    pub last_count : at + 1 ≡ min (length bytes) (length found)
    last_count = omega (arith, p.same_length, whole)

-- the end of what was lent, before the end of the number
pub full_put : (bytes found out : List ℕ) (rest at : ℕ) → length out ≤ at → Putting bytes found out rest at
    → (out ≡ fitted bytes found) × (length out ≡ min (length bytes) (length found))
full_put bytes found out rest at full p =
    let all : at ≡ length found = omega (arith, p.same_length, p.fits) in
    let part : length found ≤ length bytes = omega (arith, p.inside) in
    (p.so_far ∙ rw (drop_of_length-le found {i = at} (omega arith), append-nil, all) (sym (fitted_full bytes found part)), omega (arith, p.same_length))

pub ruleset putting = (none_put, last_put, last_count, full_put)
