-- Where an event is refused with 5 or 6, some bytes were looked at, none of them in vain, and none after them. Rests on Items.
use mathlib.Core.Path.{◌≡◌, refl, sym, ap, ◌∙◌, subst}
use mathlib.Core.Logic.{◌≢◌, ◌⊎◌, inl, inr}
use mathlib.Core.List.{List, [], ◌∷◌, ◌++◌, append_assoc, cons≢nil}
use Prim.Native.Nat.{ℕ, zero, suc, ◌+◌, ◌/◌, ◌%◌, ◌≤◌}
use native.Mathlib.Omega.{arith}
use lib.ListN.{length}
use lib.Seq.{append_snoc}
use Rattle.basics.proofs.Tests.{if_lt}
use Rattle.numbers.specs.Numbers.{groups, number_bytes}
use Rattle.schedule.specs.Reading.{end, refuses, next_item}
use Rattle.files.specs.Fits.{Bytes, Fits32}
use Rattle.files.specs.Refusals.{Promise, Missing, Faulty, AtNumber, at_kind, at_process, at_last}
use Rattle.files.specs.Refusals.{Refused, ends_inside, kind_above_6, count_outside, bad_number}
use Rattle.files.specs.Looked.{Looked}
use Rattle.files.proofs.Items.{append_inside, NextTells, next_tells, next_nothing, next_refused}

-- ---- bytes cut

-- bytes of which the front was kept, and at least one was cut off
abbrev Cut : (s front : List ℕ) → Type 0
Cut s front = (b : ℕ) × (rest : List ℕ) × (s ≡ front ++ (b ∷ rest))

nothing_to_cut : (front : List ℕ) → Cut [] front → ⊥
nothing_to_cut [] c = omega (arith, ap length c.2)
nothing_to_cut (x ∷ front) c = omega (arith, ap length c.2)

-- the first byte off both
cut_rest : (x y : ℕ) (s front : List ℕ) → Cut (x ∷ s) (y ∷ front) → (x ≡ y) × Cut s front
cut_rest x y s front (b, rest, e) = (cc, (b, rest, cc))

-- a cut inside the first of two parts, or behind it inside the second
cut_in : (P : List ℕ → Type 0) (s t front : List ℕ) → Cut (s ++ t) front
    → (Cut s front → P front) → ((behind : List ℕ) → front ≡ s ++ behind → Cut t behind → P front) → P front
cut_in P [] t front c in-first in-second = in-second front refl c
cut_in P (x ∷ s) t [] c in-first in-second = in-first (x, s, refl)
cut_in P (x ∷ s) t (y ∷ front) c in-first in-second =
    let d = cut_rest x y (s ++ t) front c in
    cut_in (λ l. P (y ∷ l)) s t front d.1
    (λ k. in-first (k.0, k.1, λ j. d.0 j ∷ k.2 j)) (λ behind e k. in-second behind (λ j. sym d.0 j ∷ e j) k)

-- a number cut short promises another byte
groups_cut : (more n : ℕ) (front : List ℕ) → Cut (groups more n) front → Promise front × (length front ≤ more)
unfolding groups
groups_cut more n [] c = (tt, omega arith)
groups_cut zero n (x ∷ front) c = absurd (nothing_to_cut front (cut_rest n x [] front c).1)
groups_cut (suc more) n (x ∷ front) c =
    if_lt (λ (s : List ℕ). Cut s (x ∷ front) → Promise (x ∷ front) × (length (x ∷ front) ≤ suc more)) n 128
    (λ small c. absurd (nothing_to_cut front (cut_rest n x [] front c).1))
    (λ large c.
    let d = cut_rest (128 + n % 128) x (groups more (n / 128)) front c in
    let again = groups_cut more (n / 128) front d.1 in
    ((omega (arith, d.0), again.0), omega (arith, again.1)))
    c

number_cut : (n : ℕ) (front : List ℕ) → Cut (number_bytes n) front → Missing front
unfolding number_bytes
number_cut n front c =
    let x = groups_cut 4 n front c in
    record { promise = x.0; few = x.1 }

-- groups that promise another, and the byte at fault cut off
fault_cut : (before front : List ℕ) (byte : ℕ) → Promise before → Cut (before ++ (byte ∷ [])) front
    → Promise front × (length front ≤ length before)
fault_cut before [] byte promise c = (tt, omega arith)
fault_cut [] (x ∷ front) byte promise c = absurd (nothing_to_cut front (cut_rest byte x [] front c).1)
fault_cut (b ∷ before) (x ∷ front) byte promise c =
    let d = cut_rest b x (before ++ (byte ∷ [])) front c in
    let again = fault_cut before front byte promise.1 d.1 in
    ((omega (arith, promise.0, d.0), again.0), omega (arith, again.1))

-- ---- an event cut

-- all but the last byte and fewer: the file ends before the event or inside it
abbrev Needed : List ℕ → Type 0
Needed seen = (front : List ℕ) → Cut seen front → AtNumber Missing front

-- after its kind, and after its kind and its process
kind_first : (kind : ℕ) (seen : List ℕ) → kind ≤ 6 → ((front : List ℕ) → Cut seen front → Missing front) → Needed (number_bytes kind ++ seen)
kind_first kind seen l needed front c =
    cut_in (AtNumber Missing) (number_bytes kind) seen front c
    (λ d. at_kind (number_cut kind front d)) (λ behind e d. at_process kind behind l e (needed behind d))

process_next : (kind p : ℕ) (seen : List ℕ) → (kind ≤ 2) ⊎ (kind ≡ 6) → Fits32 p
    → ((front : List ℕ) → Cut seen front → Missing front) → Needed (number_bytes kind ++ (number_bytes p ++ seen))
process_next kind p seen three u needed front c =
    let small : kind ≤ 6 = elim three [ inl x ↦ omega arith | inr x ↦ omega arith ] in
    cut_in (AtNumber Missing) (number_bytes kind) (number_bytes p ++ seen) front c
    (λ d. at_kind (number_cut kind front d))
    (λ behind e d. cut_in (λ _. AtNumber Missing front) (number_bytes p) seen behind d
    (λ d. at_process kind behind small e (number_cut p behind d))
    (λ later f d. at_last kind p later three u (e ∙ ap (λ (r : List ℕ). number_bytes kind ++ r) f) (needed later d)))

-- ---- the bytes looked at

looked_of : (left seen unseen : List ℕ) (n : ℕ) → left ≡ seen ++ unseen → ((t : List ℕ) → Refused (seen ++ t) n) → Needed seen → Looked left n
looked_of left seen unseen n e enough needed =
    record {
      seen = seen;
      unseen = unseen;
      whole = e;
      enough = λ t. next_refused (seen ++ t) n (enough t);
      needed = λ front b rest c. ended front (needed front (b, rest, c));
    }
  where
    ended : (front : List ℕ) → AtNumber Missing front → (next_item front ≡ end) ⊎ (next_item front ≡ refuses 4)
    ended [] there = inl next_nothing
    ended (b ∷ front) there = inr (next_refused (b ∷ front) 4 (ends_inside refl cons≢nil there))

-- the same byte is at fault whatever follows it
pub same_fault : {s : List ℕ} (f : Faulty s) (t rest : List ℕ) → t ≡ f.groups ++ (f.byte ∷ rest) → Faulty t
same_fault f t rest e =
    record { groups = f.groups; byte = f.byte; rest = rest; stands = e; promise = f.promise; fault = f.fault }

-- of a number at fault, up to and with the byte at fault
record FaultSeen (s : List ℕ) : Type 0 where
  seen : List ℕ
  unseen : List ℕ
  whole : s ≡ seen ++ unseen
  enough : (t : List ℕ) → Faulty (seen ++ t)
  needed : (front : List ℕ) → Cut seen front → Missing front

fault_of : (s : List ℕ) → Faulty s → FaultSeen s
fault_of s f =
    record {
      seen = f.groups ++ (f.byte ∷ []);
      unseen = f.rest;
      whole = f.stands ∙ sym (append_snoc f.groups f.byte f.rest);
      enough = λ t. same_fault f _ t (append_snoc f.groups f.byte t);
      needed = λ front c.
          let x = fault_cut f.groups front f.byte f.promise c in
          record { promise = x.0; few = omega (arith, x.1, few) };
    }
  where
    few : length f.groups ≤ 4
    few = elim f.fault [ inl x ↦ omega (arith, x.0) | inr x ↦ x.1 ]

number_looked : (left : List ℕ) (n : ℕ) → n ≡ 6 → AtNumber Faulty left → Looked left n
number_looked left n is (at_kind f) =
    let x = fault_of left f in
    looked_of left x.seen x.unseen n x.whole (λ t. bad_number is (at_kind (x.enough t))) (λ front c. at_kind (x.needed front c))
number_looked left n is (at_process kind rest l e f) =
    let x = fault_of rest f in
    let opening = number_bytes kind in
    looked_of left (opening ++ x.seen) x.unseen n
    (e ∙ ap (λ (r : List ℕ). opening ++ r) x.whole ∙ sym (append_assoc opening x.seen x.unseen))
    (λ t. bad_number is (at_process kind (x.seen ++ t) l (append_assoc opening x.seen t) (x.enough t)))
    (kind_first kind x.seen l x.needed)
number_looked left n is (at_last kind p rest three u e f) =
    let x = fault_of rest f in
    let opening = number_bytes kind in
    looked_of left (opening ++ (number_bytes p ++ x.seen)) x.unseen n
    (e ∙ ap (λ (r : List ℕ). opening ++ (number_bytes p ++ r)) x.whole ∙ sym (append_inside opening (number_bytes p) x.seen x.unseen))
    (λ t. bad_number is (at_last kind p (x.seen ++ t) three u (append_inside opening (number_bytes p) x.seen t) (x.enough t)))
    (process_next kind p x.seen three u x.needed)

refused_looked : (left : List ℕ) (n : ℕ) → n ≢ 4 → Refused left n → Looked left n
refused_looked left n not4 (ends_inside is full there) = absurd (not4 is)
refused_looked left n not4 (kind_above_6 is kind rest l u e) =
    looked_of left (number_bytes kind) rest n e (λ t. kind_above_6 is kind t l u refl) (λ front c. at_kind (number_cut kind front c))
refused_looked left n not4 (count_outside is p count rest u v out e) =
    looked_of left (number_bytes 6 ++ (number_bytes p ++ number_bytes count)) rest n
    (e ∙ sym (append_inside (number_bytes 6) (number_bytes p) (number_bytes count) rest))
    (λ t. count_outside is p count t u v out (append_inside (number_bytes 6) (number_bytes p) (number_bytes count) t))
    (process_next 6 p (number_bytes count) (inr refl) u (λ front c. number_cut count front c))
refused_looked left n not4 (bad_number is there) = number_looked left n is there

-- a refusal with 5 or 6 rests on the bytes looked at, all of them and no others
pub looked_at : (left : List ℕ) (n : ℕ) → Bytes left → n ≢ 4 → next_item left ≡ refuses n → Looked left n
looked_at left n bytes not4 e = refused_looked left n not4 (subst (NextTells left) e (next_tells left bytes))
