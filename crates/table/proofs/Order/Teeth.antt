-- What an order shuts out. One insert and two deletes of an address cannot all be true; no find is true where nothing was inserted; an end
-- that the replay does not give has no order; and no operation that failed stands in one. Rests on History.
use mathlib.Core.Path.{◌≡◌, refl, sym, ◌∙◌, ap, subst}
use mathlib.Core.Logic.{◌≢◌, inl, inr}
use mathlib.Core.Bool.{and-false, or-true, Bool, true, false, cond, not, ◌&&◌}
use mathlib.Core.Option.{Option, none, some}
use mathlib.Core.List.Memᴰ
use mathlib.Core.List.{List, [], ◌∷◌, Memᴰ}
use Prim.Native.Nat.{ℕ, zero, suc, ◌+◌, ◌≤◌}
use native.Mathlib.Omega.{arith}
use lib.Dec.{eqb}
use lib.ListN.{get_or}
use borrow.Author.Tests.{eq-eqb}
use Rattle.record.specs.Record.{false_answer, true_answer, fail_answer}
use Rattle.record.specs.declared.Process.{Process}
use Rattle.record.specs.declared.Address.{Address}
use Rattle.table.proofs.Common.{none, Process}
use Rattle.table.specs.History.{Kind, insert, delete, find, Answer, Operation, Set, History, Slot, NoneTwice, says, becomes, worked}
use Rattle.table.specs.History.{SameAnswers, Order}

-- the set after a slot
abbrev pub set_after : Slot → Set → Set
set_after x s = becomes x.operation.kind x.operation.address s

-- ---- an operation that failed does not stand in an order

pub failed_has_no_place : (H : History) (o : Order H) (s : Slot) (v : Answer) → Memᴰ s o.slots → s.operation.answer ≡ some v
    → v.value ≡ fail_answer → ⊥
failed_has_no_place H o s v m h f = ((o.stand s m).ended v h).1 f

-- ---- find true, nothing inserted

empty_stays : (k : Kind) (a : Address) (s : Set) → k ≢ insert → ((x : Address) → s x ≡ false) → (x : Address) → becomes k a s x ≡ false
empty_stays insert a s n e x = absurd (n refl)
empty_stays delete a s n e x = rw (e x) (and-false (not (eqb x.0 a.0)))
empty_stays find a s n e x = e x

finds_nothing : (s : Set) (l : List Slot) → ((x : Address) → s x ≡ false) → ((u : Slot) → Memᴰ u l → u.operation.kind ≢ insert)
    → SameAnswers s l → (u : Slot) (v : Answer) → Memᴰ u l → u.operation.kind ≡ find → u.operation.answer ≡ some v → v.value ≢ true_answer
finds_nothing s [] e n z u v m k h t = Memᴰ.not-nil m
finds_nothing s (x ∷ l) e n z u v m k h t = elim (Memᴰ.cases_cons m) [
  | inl q ↦ absurd (omega (arith, here q))
  | inr m' ↦ finds_nothing (set_after x s) l (empty_stays x.operation.kind x.operation.address s (n x (Memᴰ.head refl)) e)
      (λ y i. n y (Memᴰ.tail i)) z.1 u v m' k h t
]
  where
    here : u ≡ x → v.value ≡ false_answer
    here q = z.0 v (ap (λ y. y.operation.answer) (sym q) ∙ h)
        ∙ ap (λ k. says k x.operation.address s) (ap (λ y. y.operation.kind) (sym q) ∙ k) ∙ (rw (e x.operation.address) refl)

pub find_needs_an_insert : (H : History) → ((a : Address) → H.start a ≡ false) → ((r : ℕ) (o : Operation) → H.asked r ≡ some o → o.kind ≢ insert)
    → (r : ℕ) (o : Operation) (v : Answer) → H.asked r ≡ some o → o.kind ≡ find → o.answer ≡ some v → v.value ≡ true_answer → Order H → ⊥
find_needs_an_insert H e n r o v a k h t order =
    let m = order.whole r o v a h (λ f. absurd (omega arith)) in
    finds_nothing H.start order.slots e (λ u i. n u.request u.operation (order.stand u i).asked) order.answers
    (record { request = r; operation = o; moment = m.0 }) v m.1 k h t

-- ---- an end that differs from the replay

-- where nothing is deleted, an address that is in stays in
pub in_stays : (k : Kind) (a b : Address) (s : Set) → k ≢ delete → s a ≡ true → becomes k b s a ≡ true
in_stays insert a b s n e = rw e (or-true (eqb a.0 b.0))
in_stays delete a b s n e = absurd (n refl)
in_stays find a b s n e = e

all_stay : (a : Address) (s : Set) (l : List Slot) → ((u : Slot) → Memᴰ u l → u.operation.kind ≢ delete) → s a ≡ true → worked s l a ≡ true
all_stay a s [] n e = e
all_stay a s (x ∷ l) n e = all_stay a (set_after x s) l (λ u m. n u (Memᴰ.tail m))
    (in_stays x.operation.kind a x.operation.address s (n x (Memᴰ.head refl)) e)

inserted_ends_in : (s : Set) (l : List Slot) → ((u : Slot) → Memᴰ u l → u.operation.kind ≢ delete)
    → (u : Slot) → Memᴰ u l → u.operation.kind ≡ insert → worked s l u.operation.address ≡ true
inserted_ends_in s [] n u m k = absurd (Memᴰ.not-nil m)
inserted_ends_in s (x ∷ l) n u m k = elim (Memᴰ.cases_cons m) [
  | inl q ↦ all_stay u.operation.address (set_after x s) l n' (here q)
  | inr m' ↦ inserted_ends_in (set_after x s) l n' u m' k
]
  where
    n' : (u : Slot) → Memᴰ u l → u.operation.kind ≢ delete
    n' y i = n y (Memᴰ.tail i)

    here : u ≡ x → set_after x s u.operation.address ≡ true
    here q = subst (λ y. set_after y s u.operation.address ≡ true) q (rw (k, eq-eqb u.operation.address.0 u.operation.address.0 refl) refl)

pub inserted_is_held_at_the_end : (H : History) → ((r : ℕ) (o : Operation) → H.asked r ≡ some o → o.kind ≢ delete)
    → (r : ℕ) (o : Operation) (v : Answer) → H.asked r ≡ some o → o.kind ≡ insert → o.answer ≡ some v → v.value ≡ true_answer → Order H
    → H.finish o.address
inserted_is_held_at_the_end H n r o v a k h t order =
    let m = order.whole r o v a h (λ f. absurd (omega arith)) in
    (order.ends o.address).0 (inserted_ends_in H.start order.slots (λ u i. n u.request u.operation (order.stand u i).asked)
    (record { request = r; operation = o; moment = m.0 }) m.1 k)

-- so a history that ends without it has no order
pub inserted_is_not_lost : (H : History) → ((r : ℕ) (o : Operation) → H.asked r ≡ some o → o.kind ≢ delete)
    → (r : ℕ) (o : Operation) (v : Answer) → H.asked r ≡ some o → o.kind ≡ insert → o.answer ≡ some v → v.value ≡ true_answer
    → (H.finish o.address → ⊥) → Order H → ⊥
inserted_is_not_lost H n r o v a k h t lost order = lost (inserted_is_held_at_the_end H n r o v a k h t order)

-- ---- insert true, delete true, delete true of one address

abbrev bit : Bool → ℕ
bit true = 1
bit false = 0

abbrev inserts : Kind → ℕ
inserts insert = 1
inserts delete = 0
inserts find = 0

abbrev deletes : Kind → ℕ
deletes insert = 0
deletes delete = 1
deletes find = 0

abbrev count : (Kind → ℕ) → List Slot → ℕ
count f [] = 0
count f (x ∷ l) = f x.operation.kind + count f l

-- an operation answered true of the address a
record TrueOf (a : Address) (o : Operation) : Type 0 where
  address : o.address ≡ a
  time : ℕ
  answer : o.answer ≡ some (record { time = time; value = true_answer })

bit_one : (b : Bool) → bit b ≤ 1
bit_one true = omega arith
bit_one false = omega arith

takes_one : (k : Kind) (a : Address) (s : Set) → true_answer ≡ says k a s → deletes k + bit (becomes k a s a) ≤ bit (s a) + inserts k
takes_one insert a s t = omega (arith, bit_one (becomes insert a s a))
takes_one delete a s t = holds (s a) refl
  where
    holds : (b : Bool) → s a ≡ b → 1 + bit (not (eqb a.0 a.0) && s a) ≤ bit (s a) + 0
    holds true q = rw (eq-eqb a.0 a.0 refl, q) (omega arith)
    holds false q = let z : ◌≡◌ {A = ℕ} true_answer (cond (s a) true_answer false_answer) = t in absurd (omega (arith, rw q at z))
takes_one find a s t = omega arith

-- at most as many deletes are true as the set held at the start and was given since
balance : (a : Address) (s : Set) (l : List Slot) → ((u : Slot) → Memᴰ u l → TrueOf a u.operation) → SameAnswers s l
    → count deletes l ≤ bit (s a) + count inserts l
balance a s [] t z = omega arith
balance a s (x ∷ l) t z = omega (arith, balance a (set_after x s) l (λ u m. t u (Memᴰ.tail m)) z.1, one)
  where
    of : TrueOf a x.operation
    of = t x (Memᴰ.head refl)

    one : deletes x.operation.kind + bit (becomes x.operation.kind x.operation.address s a) ≤ bit (s a) + inserts x.operation.kind
    one = subst
        (λ b. deletes x.operation.kind + bit (becomes x.operation.kind x.operation.address s b) ≤ bit (s b) + inserts
        x.operation.kind)
        of.address (takes_one x.operation.kind x.operation.address s (z.0 _ of.answer))

no_more : (r : ℕ) (l : List Slot) → ((u : Slot) → Memᴰ u l → u.operation.kind ≡ insert → u.request ≡ r)
    → ((u : Slot) → Memᴰ u l → u.request ≢ r) → count inserts l ≡ 0
no_more r [] i n = refl
no_more r (x ∷ l) i n = kind x.operation.kind refl (no_more r l (λ u m. i u (Memᴰ.tail m)) (λ u m. n u (Memᴰ.tail m)))
  where
    kind : (k : Kind) → x.operation.kind ≡ k → count inserts l ≡ 0 → inserts k + count inserts l ≡ 0
    kind insert q rest = absurd (n x (Memᴰ.head refl) (i x (Memᴰ.head refl) q))
    kind delete q rest = omega arith
    kind find q rest = omega arith

-- one insert
at_most_one : (r : ℕ) (l : List Slot) → ((u : Slot) → Memᴰ u l → u.operation.kind ≡ insert → u.request ≡ r) → NoneTwice l
    → count inserts l ≤ 1
at_most_one r [] i n = omega arith
at_most_one r (x ∷ l) i n = kind x.operation.kind refl (at_most_one r l i' n.1)
  where
    i' : (u : Slot) → Memᴰ u l → u.operation.kind ≡ insert → u.request ≡ r
    i' u m = i u (Memᴰ.tail m)

    kind : (k : Kind) → x.operation.kind ≡ k → count inserts l ≤ 1 → inserts k + count inserts l ≤ 1
    kind insert q b = let here = i x (Memᴰ.head refl) q in omega (arith, no_more r l i' (λ u m e. n.0 u m (e ∙ sym here)))
    kind delete q b = omega arith
    kind find q b = omega arith

-- two deletes
one_delete : (u : Slot) (l : List Slot) → Memᴰ u l → u.operation.kind ≡ delete → 1 ≤ count deletes l
one_delete u [] m k = absurd (Memᴰ.not-nil m)
one_delete u (x ∷ l) m k = elim (Memᴰ.cases_cons m) [
  | inl q ↦ rw (ap (λ y. y.operation.kind) (sym q) ∙ k) (omega arith)
  | inr m' ↦ omega (arith, one_delete u l m' k)
]

two_deletes : (u v : Slot) (l : List Slot) → u.request ≢ v.request → Memᴰ u l → Memᴰ v l
    → u.operation.kind ≡ delete → v.operation.kind ≡ delete → 2 ≤ count deletes l
two_deletes u v [] n m i k j = absurd (Memᴰ.not-nil m)
two_deletes u v (x ∷ l) n m i k j = elim (Memᴰ.cases_cons m) [
  | inl p ↦ elim (Memᴰ.cases_cons i) [
    | inl q ↦ absurd (n (ap (λ y. y.request) (p ∙ sym q)))
    | inr i' ↦ rw (ap (λ y. y.operation.kind) (sym p) ∙ k) (omega (arith, one_delete v l i' j))
  ]
  | inr m' ↦ elim (Memᴰ.cases_cons i) [
    | inl q ↦ rw (ap (λ y. y.operation.kind) (sym q) ∙ j) (omega (arith, one_delete u l m' k))
    | inr i' ↦ omega (arith, two_deletes u v l n m' i' k j)
  ]
]

-- whoever asked, and whenever they were answered; all three may be under way at once
module _ (p q r : Process) (a : Address) (t₀ t₁ t₂ events : ℕ) (finish : Address → Type 0) where
  abbrev was_true : Process → Kind → ℕ → Option Operation
  was_true p k t = some (record { process = p; kind = k; address = a; answer = some (record { time = t; value = true_answer }) })

  abbrev pub insert_delete_delete : History
  insert_delete_delete = record {
    asked = λ n. get_or (was_true p insert t₀ ∷ was_true q delete t₁ ∷ was_true r delete t₂ ∷ []) n none;
    events = events;
    start = λ x. false;
    finish = finish;
  }

  each : (n : ℕ) (o : Operation) → insert_delete_delete.asked n ≡ some o → TrueOf a o × (o.kind ≡ insert → n ≡ 0)
  each zero o e = (record { address = cc; time = t₀; answer = cc }, λ k. refl)
  each (suc zero) o e = (record { address = cc; time = t₁; answer = cc }, λ k. let z : ◌≡◌ {A = ℕ} 0 1 = cc in absurd (omega arith))
  each (suc (suc zero)) o e = (record { address = cc; time = t₂; answer = cc }, λ k. let z : ◌≡◌ {A = ℕ} 0 1 = cc in absurd (omega arith))
  each (suc (suc (suc n))) o e = let z : ◌≡◌ {A = ℕ} 0 1 = cc in absurd (omega arith)

  pub two_releases_need_two_inserts : Order insert_delete_delete → ⊥
  two_releases_need_two_inserts order =
      let first = order.whole 1 _ _ refl refl (λ e. absurd (omega arith)) in
      let second = order.whole 2 _ _ refl refl (λ e. absurd (omega arith)) in
      omega (
        arith,
        balance a (λ x. false) order.slots (λ u m. (each u.request u.operation (order.stand u m).asked).0) order.answers,
        at_most_one 0 order.slots (λ u m. (each u.request u.operation (order.stand u m).asked).1) order.once,
        two_deletes _ _ order.slots (λ e. absurd (omega arith)) first.1 second.1 refl refl,
      )
