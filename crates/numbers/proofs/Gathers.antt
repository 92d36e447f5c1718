-- What each turn of `read_number` does to what is left to read, and that the gathered groups make the number. Rests on Numbers and Gathering.
use Prim.Native.Nat.{ℕ, zero, suc, ◌+◌, ◌-◌, ◌<◌, ◌≤◌}
use mathlib.Core.Bool.{Bool, true, false, cond, ◌&&◌, ◌||◌}
use mathlib.Core.List.{List, [], ◌∷◌, ◌++◌}
use mathlib.Core.Path.{◌≡◌, refl, ap, sym, ◌∙◌}
use native.Mathlib.Omega.{arith}
use native.Mathlib.Numerals.{add-one}
use borrow.Author.Tests.{lt-ltb, le-ltb, le-leb, lt-leb, ltb-true, ltb-false}
use lib.Dec.{leb, ltb, eqb}
use mir.Syntax.{w8}
use mir.Val.{Fits}
use lib.ListN.{length, take, drop, get_or, set, length-set, length-drop, drop_of_length-le}
use lib.Seq.{drop-cons, take-suc-set, set_split, get_or-set_same, get_or-set_other, get_or-drop}
use Rattle.numbers.specs.Numbers.{Read, got, stops, ◌then◌, lowest, more_groups, read_number}
use Rattle.numbers.specs.Gathering.{Groups, summed, summed_with, judged}
use Rattle.numbers.specs.ReadAt.{NumberRead, Refused, place_in, number_read, number_at}

-- ---- what is left to read

-- what the bytes read as after so many groups
unfoldable pub after_groups : ℕ → List ℕ → Read ℕ
after_groups zero s = read_number s
after_groups (suc n) s = cond (leb n 3) (more_groups (3 - n) s) (stops 6)

-- a fifth byte of 128 or more is above 15
fifth : {A : Type 0} (small large none : Bool) (x y : A) → (small ≡ false → large ≡ true)
    → cond (large || none) x y ≡ cond small (cond none x (cond large x y)) x
fifth true true true x y h = refl
fifth true true false x y h = refl
fifth true false true x y h = refl
fifth true false false x y h = refl
fifth false large none x y h = rw (h refl)

above_15 : (b : ℕ) → ltb b 128 ≡ false → ltb 15 b ≡ true
above_15 b e = lt-ltb 15 b (omega (arith, ltb-false b 128 e))

-- a byte more
one_more_lem : (i b : ℕ) (s : List ℕ) → i < 5
    → after_groups i (b ∷ s)
    ≡ cond (ltb b 128) (cond (ltb 0 i && eqb b 0) (stops 6) (cond (ltb 3 i && ltb 15 b) (stops 6) (got b s)))
    (after_groups (suc i) s then lowest (b - 128))
unfolding after_groups read_number more_groups ◌then◌
one_more_lem zero b s h = refl
one_more_lem (suc zero) b s h = refl
one_more_lem (suc (suc zero)) b s h = refl
one_more_lem (suc (suc (suc zero))) b s h = refl
one_more_lem (suc (suc (suc (suc zero)))) b s h =
    fifth (ltb b 128) (ltb 15 b) (eqb b 0) (stops 6) (got b s) (above_15 b)
one_more_lem (suc (suc (suc (suc (suc i))))) b s h = absurd (omega arith)

none_left_lem : (i : ℕ) → i < 5 → after_groups i [] ≡ stops 4
unfolding after_groups read_number more_groups
none_left_lem zero h = refl
none_left_lem (suc i) h = rw (le-leb i 3 (omega arith))

too_many : (i : ℕ) (s : List ℕ) → 5 ≤ i → after_groups i s ≡ stops 6
unfolding after_groups
too_many zero s h = absurd (omega arith)
too_many (suc i) s h = rw (lt-leb i 3 (omega arith))

-- ---- groups read, before the rest of their number

abbrev pub behind : List ℕ → Read ℕ → Read ℕ
behind [] r = r
behind (group ∷ groups) r = behind groups r then lowest group

behind_more : (groups : List ℕ) (group : ℕ) (r : Read ℕ) → behind (groups ++ (group ∷ [])) r ≡ behind groups (r then lowest group)
behind_more [] group r = refl
behind_more (g ∷ groups) group r = rw (behind_more groups group r)

behind_stops : (groups : List ℕ) (n : ℕ) → behind groups (stops n) ≡ stops n
unfolding ◌then◌
behind_stops [] n = refl
behind_stops (g ∷ groups) n = rw (behind_stops groups n)

behind_got : (groups : List ℕ) (n : ℕ) (s : List ℕ) → behind groups (got n s) ≡ got (summed (groups ++ (n ∷ []))) s
unfolding ◌then◌
behind_got [] n s = ap (λ (m : ℕ). got m s) (omega arith)
behind_got (g ∷ groups) n s = rw (behind_got groups n s)

-- ---- the scratch array

-- zeros stand where no group was gathered yet
abbrev pub ZerosFrom : ℕ → List ℕ → Type 0
ZerosFrom count groups = (k : ℕ) → count ≤ k → get_or groups k 0 ≡ 0

summed_zeros : (groups : List ℕ) → ((k : ℕ) → get_or groups k 0 ≡ 0) → summed groups ≡ 0
summed_zeros [] h = refl
summed_zeros (g ∷ groups) h = omega (arith, h 0, summed_zeros groups (λ k. h (suc k)))

summed_before_zeros : (groups zeros : List ℕ) (group : ℕ) → summed zeros ≡ 0
    → summed (groups ++ (group ∷ zeros)) ≡ summed (groups ++ (group ∷ []))
summed_before_zeros [] zeros group h = omega arith
summed_before_zeros (g ∷ groups) zeros group h = rw (summed_before_zeros groups zeros group h)

-- with the last group put, the array makes the groups' number
summed_last : (groups : List ℕ) (count b : ℕ) → count < length groups → ZerosFrom count groups
    → summed (set groups count b) ≡ summed (take count groups ++ (b ∷ []))
summed_last groups count b h zeros =
    ap summed (set_split groups count b h)
    ∙ summed_before_zeros (take count groups) (drop (suc count) groups) b
    (summed_zeros (drop (suc count) groups) (λ k. get_or-drop (suc count) groups k 0 ∙ zeros (suc count + k) (omega arith)))

-- and the fifth group is above 15 only where it is the last
fifth_group : (groups : List ℕ) (count b : ℕ) → count < 5 → length groups ≡ 5 → ZerosFrom count groups
    → ltb 15 (get_or (set groups count b) 4 0) ≡ (ltb 3 count && ltb 15 b)
fifth_group groups count b few five zeros = by_place (ltb 3 count) refl
  where
    by_place : (last : Bool) → ltb 3 count ≡ last → ltb 15 (get_or (set groups count b) 4 0) ≡ (last && ltb 15 b)
    by_place true e =
        let fifth : count ≡ 4 = omega (arith, ltb-true 3 count e) in
        rw (fifth, get_or-set_same groups 4 b 0 (omega arith))
    by_place false e =
        let before : count ≤ 3 = ltb-false 3 count e in
        rw (get_or-set_other groups count 4 b 0 (λ e. omega arith), zeros 4 (omega arith))

pub summed_five : (groups : List ℕ) → length groups ≡ 5 → summed groups ≡ summed_with groups (get_or groups 4 0)
summed_five (a ∷ b ∷ c ∷ d ∷ e ∷ []) h = omega arith
summed_five [] h = absurd (omega arith)
summed_five (a ∷ []) h = absurd (omega arith)
summed_five (a ∷ b ∷ []) h = absurd (omega arith)
summed_five (a ∷ b ∷ c ∷ []) h = absurd (omega arith)
summed_five (a ∷ b ∷ c ∷ d ∷ []) h = absurd (omega arith)
summed_five (a ∷ b ∷ c ∷ d ∷ e ∷ f ∷ groups) h = absurd (omega arith)

-- ---- the turns of the loop

read_last : (file groups s : List ℕ) (n : ℕ) (none large : Bool)
    → number_read (place_in file) (behind groups (cond none (stops 6) (cond large (stops 6) (got n s))))
    ≡ number_read (λ left. place_in file s) (cond none (stops 6) (cond large (stops 6) (got (summed (groups ++ (n ∷ []))) [])))
read_last file groups s n true large = ap (number_read (place_in file)) (behind_stops groups 6)
read_last file groups s n false true = ap (number_read (place_in file)) (behind_stops groups 6)
read_last file groups s n false false = ap (number_read (place_in file)) (behind_got groups n s)

module _ (bytes groups : List ℕ) (count next : ℕ) where
  abbrev left : Read ℕ
  left = behind (take count groups) (after_groups count (drop next bytes))

  missing : count < 5 → length bytes ≤ next → left ≡ stops 4
  missing few short = rw (drop_of_length-le bytes short, none_left_lem count few) (behind_stops (take count groups) 4)

  five_and_no_last : 5 ≤ count → left ≡ stops 6
  five_and_no_last many = rw (too_many count (drop next bytes) many) (behind_stops (take count groups) 6)

  module _ (few : count < 5) (five : length groups ≡ 5) (there : next < length bytes) where
    abbrev byte : ℕ
    byte = get_or bytes next 0

    next_byte : after_groups count (drop next bytes) ≡ after_groups count (byte ∷ drop (next + 1) bytes)
    next_byte = rw (drop-cons bytes next 0 there, add-one next)

    -- a group that is not the last
    gathered : 128 ≤ byte
        → left ≡ behind (take (count + 1) (set groups count (byte - 128))) (after_groups (count + 1) (drop (next + 1) bytes))
    gathered more =
        ap (behind (take count groups)) (next_byte ∙ (one_more_lem count byte (drop (next + 1) bytes) few ∙ rw (le-ltb byte 128 more)))
        ∙ (sym (behind_more (take count groups) (byte - 128) (after_groups (suc count) (drop (next + 1) bytes)))
        ∙ rw (add-one count, take-suc-set groups count (byte - 128) (omega arith)))

    -- the last group
    ended : byte < 128 → ZerosFrom count groups → judged (set groups count byte) count (next + 1) ≡ number_read (place_in bytes) left
    unfolding judged
    ended last zeros =
        let same : get_or (set groups count byte) count 0 ≡ byte = get_or-set_same groups count byte 0 (omega arith) in
        let large = fifth_group groups count byte few five zeros in
        let sum = summed_last groups count byte (omega arith) zeros in
        let place : next + 1 ≡ place_in bytes (drop (next + 1) bytes) = omega (arith, length-drop (next + 1) bytes) in
        (λ i. number_read (λ left. place i) (cond (ltb 0 count && eqb (same i) 0) (stops 6) (cond (large i) (stops 6) (got (sum i) []))))
        ∙ (sym (read_last bytes (take count groups) (drop (next + 1) bytes) byte (ltb 0 count && eqb byte 0) (ltb 3 count && ltb 15 byte))
        ∙ ap (λ (r : Read ℕ). number_read (place_in bytes) (behind (take count groups) r))
        (sym (next_byte ∙ (one_more_lem count byte (drop (next + 1) bytes) few ∙ rw (lt-ltb byte 128 last)))))

  -- so, where what is left is what was to be read, each way out answers with the number
  module _ (at : ℕ) (whole : left ≡ read_number (drop at bytes)) where
    left_is : number_read (place_in bytes) left ≡ number_at bytes at
    unfolding number_at
    left_is = ap (number_read (place_in bytes)) whole

    pub byte_missing : count < 5 → length bytes ≤ next → Refused 4 ≡ number_at bytes at
    byte_missing few short = ap (number_read (place_in bytes)) (sym (missing few short)) ∙ left_is

    pub no_last_group : 5 ≤ count → Refused 6 ≡ number_at bytes at
    no_last_group many = ap (number_read (place_in bytes)) (sym (five_and_no_last many)) ∙ left_is

    pub last_judged : count < 5 → length groups ≡ 5 → next < length bytes → get_or bytes next 0 < 128 → ZerosFrom count groups
        → (r : NumberRead) → r ≡ judged (set groups count (get_or bytes next 0)) count (next + 1) → r ≡ number_at bytes at
    last_judged few five there last zeros r e = e ∙ (ended few five there last zeros ∙ left_is)

-- ---- what the loop keeps

-- so many groups gathered, and what was read with what is left
pub record GatheredSoFar (count : ℕ) (groups : List ℕ) (Whole : Type 0) : Type 0 where
  pub few : count ≤ 5
  pub five : length groups ≡ 5
  pub seven_bits : Groups groups
  pub zeros : ZerosFrom count groups
  pub whole : Whole

zeros_are : (k : ℕ) → ◌≡◌ {A = ℕ} (get_or (0 ∷ 0 ∷ 0 ∷ 0 ∷ 0 ∷ []) k 0) 0
zeros_are zero = refl
zeros_are (suc zero) = refl
zeros_are (suc (suc zero)) = refl
zeros_are (suc (suc (suc zero))) = refl
zeros_are (suc (suc (suc (suc zero)))) = refl
zeros_are (suc (suc (suc (suc (suc k))))) = refl

-- a group put, still below 128
pub still_groups : (groups : List ℕ) (i b : ℕ) → b < 128 → Groups groups → Groups (set groups i b)
still_groups [] i b h all k = all k
still_groups (g ∷ groups) zero b h all zero = h
still_groups (g ∷ groups) zero b h all (suc k) = all (suc k)
still_groups (g ∷ groups) (suc i) b h all zero = all zero
still_groups (g ∷ groups) (suc i) b h all (suc k) = still_groups groups i b h (λ k. all (suc k)) k

pub none_gathered : {Whole : Type 0} → Whole → GatheredSoFar 0 (0 ∷ 0 ∷ 0 ∷ 0 ∷ 0 ∷ []) Whole
none_gathered whole =
    record {
      few = omega arith;
      five = refl;
      seven_bits = λ k. rw (zeros_are k) (omega arith);
      zeros = λ k h. zeros_are k;
      whole = whole;
    }

one_gathered : {Whole More : Type 0} (count : ℕ) (groups : List ℕ) (b : ℕ) → count < 5 → b < 128
    → GatheredSoFar count groups Whole → More
    → GatheredSoFar (count + 1) (set groups count b) More
one_gathered count groups b h small g whole =
    record {
      few = omega arith;
      five = length-set groups count b ∙ g.five;
      seven_bits = still_groups groups count b small g.seven_bits;
      zeros = λ k far. get_or-set_other groups count k b 0 (λ e. omega arith) ∙ g.zeros k (omega arith);
      whole = whole;
    }

-- a turn that goes on: a byte of 128 or more, and its group put
pub group_more : (bytes groups : List ℕ) (count next : ℕ) (number : Read ℕ) → GatheredSoFar count groups (left bytes groups count next ≡ number)
    → count < 5 → next < length bytes → 128 ≤ get_or bytes next 0 → Fits w8 (get_or bytes next 0)
    → GatheredSoFar (count + 1) (set groups count (get_or bytes next 0 - 128))
    (left bytes (set groups count (get_or bytes next 0 - 128)) (count + 1) (next + 1) ≡ number)
group_more bytes groups count next number g few there more fits =
    one_gathered count groups (get_or bytes next 0 - 128) few (omega (arith, fits.fits)) g
    (sym (gathered bytes groups count next few g.five there more) ∙ g.whole)

-- what the loop begins with, and its ways out
pub ruleset ways_out = (none_gathered, byte_missing, last_judged, no_last_group)
