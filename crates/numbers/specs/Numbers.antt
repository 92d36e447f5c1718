-- 01, "Schedule bytes": a number as bytes, and what reading one gives. Assumes nothing.
use Rattle.std.specs.Prelude.{cond, ◌||◌, List, [], ◌∷◌, ℕ, zero, suc, ◌+◌, ◌-◌, ◌*◌, ◌/◌, ◌%◌, ltb, eqb}

-- ---- the encoding

-- "Every number is groups of seven bits, lowest first, top bit set on all but the last, shortest form.": n in at most so many groups and one
unfoldable pub groups : ℕ → ℕ → List ℕ
groups zero n = n ∷ []
groups (suc more) n = cond (ltb n 128) (n ∷ []) ((128 + n % 128) ∷ groups more (n / 128))

-- a number up to 4,294,967,295 takes at most five groups
unfoldable pub number_bytes : ℕ → List ℕ
number_bytes n = groups 4 n

-- ---- reading

-- what reading gives: a value and the bytes left, or the number of the refusal that stops it
pub data Read (A : Type 0) : Type 0 where
  got : A → List ℕ → Read A
  stops : ℕ → Read A

infixl 20 ◌then◌
unfoldable pub ◌then◌ : {A B : Type 0} → Read A → (A → List ℕ → Read B) → Read B
got a s then f = f a s
stops n then f = stops n

-- the group that stands before the rest of its number
abbrev pub lowest : ℕ → ℕ → List ℕ → Read ℕ
lowest group rest s = got (group + 128 * rest) s

-- "a missing byte gives 4"; "a fifth byte above 15, or a last group of zero after another group gives 6": the rest of a number, of which so
-- many groups may still come before the fifth
unfoldable pub more_groups : ℕ → List ℕ → Read ℕ
more_groups before [] = stops 4
more_groups zero (b ∷ s) = cond (ltb 15 b || eqb b 0) (stops 6) (got b s)
more_groups (suc before) (b ∷ s) =
    cond (ltb b 128) (cond (eqb b 0) (stops 6) (got b s)) (more_groups before s then lowest (b - 128))

unfoldable pub read_number : List ℕ → Read ℕ
read_number [] = stops 4
read_number (b ∷ s) = cond (ltb b 128) (got b s) (more_groups 3 s then lowest (b - 128))
