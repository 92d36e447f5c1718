-- Reading takes bytes off the front: a number at least one, and it is refused with 4, 5 or 6 alone. Holds of any list of numbers. Rests on Numbers.
use mathlib.Core.Path.{◌≡◌, refl, sym, ap, ◌∙◌}
use mathlib.Core.Bool.{◌||◌}
use mathlib.Core.List.{List, [], ◌∷◌, ◌++◌, append_assoc}
use Prim.Native.Nat.{ℕ, zero, suc, ◌-◌, ◌≤◌, ◌<◌}
use native.Mathlib.Omega.{arith}
use lib.Dec.{ltb, eqb}
use lib.ListN.{length, take, drop, length-append, take-append-drop}
use lib.Seq.{drop_at}
use Rattle.basics.proofs.Tests.{if, if_lt}
use Rattle.numbers.specs.Numbers.{Read, got, stops, ◌then◌, lowest, more_groups, read_number}
use Rattle.numbers.specs.ReadAt.{place_in}

-- ---- what reading tells: one thing of what was read and the bytes left, another of a refusal

abbrev pub Tells : {A : Type 0} → (A → List ℕ → Type 0) → (ℕ → Type 0) → Read A → Type 0
Tells Good Bad (got a left) = Good a left
Tells Good Bad (stops n) = Bad n

-- reading this, then that
pub after : {A B : Type 0} {Good : A → List ℕ → Type 0} {Bad : ℕ → Type 0} (P : Read B → Type 0)
    (r : Read A) (f : A → List ℕ → Read B)
    → Tells Good Bad r
    → ((a : A) (left : List ℕ) → Good a left → P (f a left))
    → ((n : ℕ) → Bad n → P (stops n))
    → P (r then f)
unfolding ◌then◌
after P (got a left) f told go stop = go a left told
after P (stops n) f told go stop = stop n told

-- ---- the bytes left

-- they follow one byte or more of s
pub record Follows (left s : List ℕ) : Type 0 where
  pub front : List ℕ
  pub some : 1 ≤ length front
  pub whole : s ≡ front ++ left

pub follows_one : (b : ℕ) (s : List ℕ) → Follows s (b ∷ s)
follows_one b s = record { front = b ∷ []; some = omega arith; whole = refl }

pub follows_follows : {u t s : List ℕ} → Follows u t → Follows t s → Follows u s
follows_follows {u} {t} {s} f g =
    record {
      front = g.front ++ f.front;
      some = omega (arith, length-append g.front f.front, f.some);
      whole = g.whole ∙ ap (λ (r : List ℕ). g.front ++ r) f.whole ∙ sym (append_assoc g.front f.front u);
    }

pub follows_shorter : {left s : List ℕ} → Follows left s → length left < length s
follows_shorter {left} {s} f = omega (arith, ap length f.whole, length-append f.front left, f.some)

-- and stand at their place, after a front, and so after any bytes that end in them
pub left_at : (s front left : List ℕ) → s ≡ front ++ left → drop (place_in s left) s ≡ left
left_at s front left e =
    ap (drop (place_in s left)) e
    ∙ drop_at front left (place_in s left) (omega (arith, ap length e, length-append front left))

pub left_follows : (s : List ℕ) (at : ℕ) (left : List ℕ) → Follows left (drop at s) → drop (place_in s left) s ≡ left
left_follows s at left f =
    left_at s (take at s ++ f.front) left
    (sym (take-append-drop at s) ∙ ap (λ (r : List ℕ). take at s ++ r) f.whole
    ∙ sym (append_assoc (take at s) f.front left))

-- ---- a number

-- the numbers of the refusals that a reading can end with
abbrev pub Refusal : ℕ → Type 0
Refusal n = (4 ≤ n) × (n ≤ 6)

-- what is read, and bytes left that follow
abbrev pub Takes : {A : Type 0} → List ℕ → Read A → Type 0
Takes s = Tells (λ a left. Follows left s) Refusal

more_takes : (before : ℕ) (s : List ℕ) → Takes s (more_groups before s)
unfolding more_groups
more_takes zero [] = omega arith
more_takes (suc before) [] = omega arith
more_takes zero (b ∷ s) = if (Takes (b ∷ s)) (ltb 15 b || eqb b 0) (λ t. omega arith) (λ t. follows_one b s)
more_takes (suc before) (b ∷ s) =
    if_lt (Takes (b ∷ s)) b 128
    (λ l. if (Takes (b ∷ s)) (eqb b 0) (λ t. omega arith) (λ t. follows_one b s))
    (λ l. after (Takes (b ∷ s)) (more_groups before s) (lowest (b - 128)) (more_takes before s)
    (λ n left f. follows_follows f (follows_one b s))
    (λ n r. r))

pub number_takes : (s : List ℕ) → Takes s (read_number s)
unfolding read_number
number_takes [] = omega arith
number_takes (b ∷ s) =
    if_lt (Takes (b ∷ s)) b 128
    (λ l. follows_one b s)
    (λ l. after (Takes (b ∷ s)) (more_groups 3 s) (lowest (b - 128)) (more_takes 3 s)
    (λ n left f. follows_follows f (follows_one b s))
    (λ n r. r))
