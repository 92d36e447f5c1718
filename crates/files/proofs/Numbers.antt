-- Numbers as bytes: what is written is read, what is read was written, and what stands where none can be read. Rests on the crate numbers.
use mathlib.Core.Path.{◌≡◌, refl, sym, ap, ◌∙◌, subst}
use mathlib.Core.Logic.{◌⊎◌, inl, inr, ◌↔◌}
use mathlib.Core.Bool.{cond}
use mathlib.Core.List.{List, [], ◌∷◌, ◌++◌}
use Prim.Native.Nat.{ℕ, zero, suc, ◌+◌, ◌-◌, ◌*◌, ◌/◌, ◌%◌, ◌≤◌, ◌<◌}
use native.Mathlib.Omega.{arith}
use borrow.Author.Tests.{lt-ltb, le-ltb, ne_eqb, ltb-true, ltb-false, eqb-true, eqb-false}
use lib.Dec.{ltb, eqb}
use lib.ListN.{length}
use Rattle.basics.proofs.Tests.{if_lt, if_eq, if_or}
use Rattle.numbers.specs.Numbers.{groups, number_bytes, Read, got, stops, ◌then◌, lowest, more_groups, read_number}
use Rattle.numbers.proofs.Follows.{Tells, after}
use Rattle.files.specs.Fits.{Bytes, Fits32}
use Rattle.files.specs.Refusals.{Promise, Missing, Faulty}

-- the numbers that so many groups and one can hold, the last of them at most 15
abbrev bound : ℕ → ℕ
bound zero = 16
bound (suc more) = 128 * bound more

bound_large : (more : ℕ) → 16 ≤ bound more
bound_large zero = omega arith
bound_large (suc more) = omega (arith, bound_large more)

-- ---- what is written is read

-- a group that promises another, and then the groups of the rest
group_read : (n : ℕ) (rest : List ℕ) (x r : Read ℕ) → r ≡ got (n / 128) rest
    → cond (ltb (128 + n % 128) 128) x (r then lowest (128 + n % 128 - 128)) ≡ got n rest
unfolding ◌then◌
group_read n rest x r e =
    let value : 128 + n % 128 - 128 + 128 * (n / 128) ≡ n = omega arith in
    rw (le-ltb (128 + n % 128) 128 (omega arith), e, value)

more_read : (before n : ℕ) (rest : List ℕ) → 1 ≤ n → n < bound before → more_groups before (groups before n ++ rest) ≡ got n rest
unfolding groups more_groups
more_read zero n rest l u = rw (le-ltb 15 n (omega arith), ne_eqb n 0 (λ z. omega arith))
more_read (suc before) n rest l u =
    if_lt (λ (s : List ℕ). more_groups (suc before) (s ++ rest) ≡ got n rest) n 128
    (λ small. rw (lt-ltb n 128 small, ne_eqb n 0 (λ z. omega arith)))
    (λ large. group_read n rest _ _ (more_read before (n / 128) rest (omega arith) (omega arith)))

-- a number written is read, with what stands after it left
pub number_read_lem : (n : ℕ) (rest : List ℕ) → Fits32 n → read_number (number_bytes n ++ rest) ≡ got n rest
unfolding number_bytes groups read_number
number_read_lem n rest u =
    if_lt (λ (s : List ℕ). read_number (s ++ rest) ≡ got n rest) n 128
    (λ small. rw (lt-ltb n 128 small))
    (λ large. group_read n rest _ _ (more_read 3 (n / 128) rest (omega arith) (omega arith)))

-- ---- what is read was written, and what stands where none can be read

-- what is left of bytes is bytes
pub bytes_after : (front left : List ℕ) → Bytes (front ++ left) → Bytes left
bytes_after [] left b = b
bytes_after (x ∷ front) left b = bytes_after front left b.1

pub after_number : (s : List ℕ) (n : ℕ) (left : List ℕ) → s ≡ number_bytes n ++ left → Bytes s → Bytes left
after_number s n left e bytes = bytes_after (number_bytes n) left (subst Bytes e bytes)

-- one group more before them
group_before : (before b n : ℕ) (s left : List ℕ) → 128 ≤ b → b < 256 → 1 ≤ n → s ≡ groups before n ++ left
    → b ∷ s ≡ groups (suc before) (b - 128 + 128 * n) ++ left
unfolding groups
group_before before b n s left l u pos e =
    let m : ℕ = b - 128 + 128 * n in
    let low : b ≡ 128 + m % 128 = omega arith in
    let high : n ≡ m / 128 = omega arith in
    rw (le-ltb m 128 (omega arith)) (ap (λ (r : List ℕ). b ∷ r) e ∙ (λ j. low j ∷ (groups before (high j) ++ left)))

one_group : (before b : ℕ) (s : List ℕ) → b < 128 → b ∷ s ≡ groups before b ++ s
unfolding groups
one_group zero b s u = refl
one_group (suc before) b s u = rw (lt-ltb b 128 u)

-- where so many groups and one may still come: the bytes end, or a group among them is at fault
abbrev MoreMissing : ℕ → List ℕ → Type 0
MoreMissing before s = Promise s × (length s ≤ before)

-- a byte at fault after so many groups
abbrev Fault : (before count byte : ℕ) → Type 0
Fault before count byte = ((count ≡ before) × (15 < byte)) ⊎ ((count ≤ before) × (byte ≡ 0))

fault_later : (before count byte : ℕ) → Fault before count byte → Fault (suc before) (suc count) byte
fault_later before count byte (inl x) = inl (ap suc x.0, x.1)
fault_later before count byte (inr x) = inr (omega (arith, x.0), x.1)

fault_earlier : (before count byte : ℕ) → Fault (suc before) (suc count) byte → Fault before count byte
fault_earlier before count byte (inl x) = inl (omega (arith, x.0), x.1)
fault_earlier before count byte (inr x) = inr (omega (arith, x.0), x.1)

abbrev MoreFaulty : ℕ → List ℕ → Type 0
MoreFaulty before s =
    (front : List ℕ) × (byte : ℕ) × (rest : List ℕ) × (s ≡ front ++ (byte ∷ rest)) × Promise front × Fault before (length front) byte

abbrev MoreTells : ℕ → List ℕ → Read ℕ → Type 0
MoreTells before s =
    Tells (λ n left. (s ≡ groups before n ++ left) × (1 ≤ n) × (n < bound before))
    (λ n. ((n ≡ 4) × MoreMissing before s) ⊎ ((n ≡ 6) × MoreFaulty before s))

faulty_now : (before b : ℕ) (s : List ℕ) → Fault before 0 b → MoreFaulty before (b ∷ s)
faulty_now before b s fault = ([], b, s, refl, tt, fault)

faulty_later : (before b : ℕ) (s : List ℕ) → 128 ≤ b → MoreFaulty before s → MoreFaulty (suc before) (b ∷ s)
faulty_later before b s l (front, byte, rest, e, promise, fault) =
    (b ∷ front, byte, rest, ap (λ (r : List ℕ). b ∷ r) e, (l, promise), fault_later before (length front) byte fault)

faulty_number : (b : ℕ) (s : List ℕ) → 128 ≤ b → MoreFaulty 3 s → Faulty (b ∷ s)
faulty_number b s l (front, byte, rest, e, promise, fault) =
    record {
      groups = b ∷ front;
      byte = byte;
      rest = rest;
      stands = ap (λ (r : List ℕ). b ∷ r) e;
      promise = (l, promise);
      fault = elim (fault_later 3 (length front) byte fault) [ inl x ↦ inl x | inr x ↦ inr (omega arith, x.0, x.1) ];
    }

more_tells : (before : ℕ) (s : List ℕ) → Bytes s → MoreTells before s (more_groups before s)
unfolding more_groups
more_tells zero [] bytes = inl (refl, (tt, omega arith))
more_tells (suc before) [] bytes = inl (refl, (tt, omega arith))
more_tells zero (b ∷ s) bytes =
    if_or (MoreTells zero (b ∷ s)) (ltb 15 b) (eqb b 0)
    (λ t. inr (refl, faulty_now zero b s (inl (refl, ltb-true 15 b t))))
    (λ t. inr (refl, faulty_now zero b s (inr (omega arith, eqb-true b 0 t))))
    (λ t z. (one_group zero b s (omega (arith, ltb-false 15 b t)), omega (arith, eqb-false b 0 z), omega (arith, ltb-false 15 b t)))
more_tells (suc before) (b ∷ s) bytes =
    if_lt (MoreTells (suc before) (b ∷ s)) b 128
    (λ small. if_eq (MoreTells (suc before) (b ∷ s)) b 0
    (λ z. inr (refl, faulty_now (suc before) b s (inr (omega arith, z))))
    (λ z. (one_group (suc before) b s small, omega arith, omega (arith, bound_large before))))
    (λ large. after (MoreTells (suc before) (b ∷ s)) (more_groups before s) (lowest (b - 128)) (more_tells before s bytes.1)
    (λ n left t. (group_before before b n s left large bytes.0 t.1 t.0, omega (arith, t.1), omega (arith, t.2, bytes.0)))
    (λ n t. elim t [
      | inl x ↦ inl (x.0, ((large, x.1.0), omega (arith, x.1.1)))
      | inr x ↦ inr (x.0, faulty_later before b s large x.1)
    ]))

-- a number read was written there, and fits; where none can be read, a byte is missing or at fault
abbrev pub NumberTells : List ℕ → Read ℕ → Type 0
NumberTells s =
    Tells (λ n left. (s ≡ number_bytes n ++ left) × Fits32 n) (λ n. ((n ≡ 4) × Missing s) ⊎ ((n ≡ 6) × Faulty s))

pub number_tells : (s : List ℕ) → Bytes s → NumberTells s (read_number s)
unfolding read_number number_bytes
number_tells [] bytes = inl (refl, record { promise = tt; few = omega arith })
number_tells (b ∷ s) bytes =
    if_lt (NumberTells (b ∷ s)) b 128
    (λ small. (one_group 4 b s small, omega arith))
    (λ large. after (NumberTells (b ∷ s)) (more_groups 3 s) (lowest (b - 128)) (more_tells 3 s bytes.1)
    (λ n left t. (group_before 3 b n s left large bytes.0 t.1 t.0, omega (arith, t.2, bytes.0)))
    (λ n t. elim t [
      | inl x ↦ inl (x.0, record { promise = (large, x.1.0); few = omega (arith, x.1.1) })
      | inr x ↦ inr (x.0, faulty_number b s large x.1)
    ]))

-- ---- where a byte is missing or at fault, no number is read

-- a group that promises another, and then groups that can't be read
group_stops : (b k : ℕ) (x r : Read ℕ) → 128 ≤ b → r ≡ stops k → cond (ltb b 128) x (r then lowest (b - 128)) ≡ stops k
unfolding ◌then◌
group_stops b k x r l e = rw (le-ltb b 128 l, e)

more_missing : (before : ℕ) (s : List ℕ) → Promise s → length s ≤ before → more_groups before s ≡ stops 4
unfolding more_groups
more_missing zero [] promise l = refl
more_missing (suc before) [] promise l = refl
more_missing zero (b ∷ s) promise l = absurd (omega arith)
more_missing (suc before) (b ∷ s) promise l = group_stops b 4 _ _ promise.0 (more_missing before s promise.1 (omega arith))

pub missing_stops : (s : List ℕ) → Missing s → read_number s ≡ stops 4
unfolding read_number
missing_stops [] m = refl
missing_stops (b ∷ s) m = group_stops b 4 _ _ m.promise.0 (more_missing 3 s m.promise.1 (omega (arith, m.few)))

more_faulty : (before : ℕ) (front : List ℕ) (byte : ℕ) (rest : List ℕ) → Promise front → Fault before (length front) byte
    → more_groups before (front ++ (byte ∷ rest)) ≡ stops 6
unfolding more_groups
more_faulty zero [] byte rest promise (inl x) = rw (lt-ltb 15 byte x.1)
more_faulty zero [] byte rest promise (inr x) = rw x.1
more_faulty (suc before) [] byte rest promise (inl x) = absurd (omega (arith, x.0))
more_faulty (suc before) [] byte rest promise (inr x) = rw x.1
more_faulty zero (b ∷ front) byte rest promise (inl x) = absurd (omega (arith, x.0))
more_faulty zero (b ∷ front) byte rest promise (inr x) = absurd (omega (arith, x.0))
more_faulty (suc before) (b ∷ front) byte rest promise fault =
    group_stops b 6 _ _ promise.0 (more_faulty before front byte rest promise.1 (fault_earlier before (length front) byte fault))

pub faulty_stops : (s : List ℕ) → Faulty s → read_number s ≡ stops 6
unfolding read_number
faulty_stops s f = ap read_number f.stands ∙ by_groups f.groups f.promise f.fault
  where
    by_groups : (front : List ℕ) → Promise front
        → ((length front ≡ 4) × (15 < f.byte)) ⊎ ((1 ≤ length front) × (length front ≤ 4) × (f.byte ≡ 0))
        → read_number (front ++ (f.byte ∷ f.rest)) ≡ stops 6
    by_groups [] promise fault = elim fault [ inl x ↦ absurd (omega (arith, x.0)) | inr x ↦ absurd (omega (arith, x.0)) ]
    by_groups (b ∷ front) promise fault =
        let earlier = fault_earlier 3 (length front) f.byte (elim fault [ inl x ↦ inl x | inr x ↦ inr (x.1, x.2) ]) in
        group_stops b 6 _ _ promise.0 (more_faulty 3 front f.byte f.rest promise.1 earlier)

-- ---- so bytes that read as a number are its bytes, and no other number has them

pub number_exactly : (s : List ℕ) (n : ℕ) (left : List ℕ) → Bytes s
    → (read_number s ≡ got n left) ↔ ((s ≡ number_bytes n ++ left) × Fits32 n)
number_exactly s n left bytes =
    ((λ e. subst (NumberTells s) e (number_tells s bytes)), λ x. ap read_number x.0 ∙ number_read_lem n left x.1)

pub number_unique : (m n : ℕ) (s t : List ℕ) → Fits32 m → Fits32 n → number_bytes m ++ s ≡ number_bytes n ++ t → (m ≡ n) × (s ≡ t)
number_unique m n s t fm fn e =
    let reads : got m s ≡ got n t = sym (number_read_lem m s fm) ∙ ap read_number e ∙ number_read_lem n t fn in
    (cc, cc)
