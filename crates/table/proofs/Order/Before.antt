-- An operation answered before another is requested stands before it in every order, and not after it. So a find requested after an insert was
-- answered true, where nothing is deleted, is not answered false: such a history has no order. Rests on Teeth.
use mathlib.Core.Path.{◌≡◌, refl, sym, ◌∙◌, ap, subst}
use mathlib.Core.Logic.{◌≢◌, inl, inr}
use mathlib.Core.Bool.{true}
use mathlib.Core.Option.{some}
use mathlib.Core.List.Memᴰ
use mathlib.Core.List.{List, [], ◌∷◌, ◌++◌, Memᴰ}
use Prim.Native.Nat.{ℕ, ◌≤◌, ◌<◌}
use native.Mathlib.Omega.{arith}
use borrow.Author.Tests.{eq-eqb}
use Rattle.record.specs.Record.{false_answer, true_answer}
use Rattle.record.specs.declared.Process.{Process}
use Rattle.record.specs.declared.Address.{Address}
use Rattle.table.specs.History.{Kind, insert, delete, find, Answer, Operation, Set, History, Slot, NeverFalls, Order, SameAnswers, worked}
use Rattle.table.specs.Answers.{StandsBefore}
use Rattle.table.proofs.Order.Teeth.{set_after, in_stays}

-- ---- by their moments

never_below : (k : ℕ) (l : List Slot) → NeverFalls k l → (s : Slot) → Memᴰ s l → k ≤ s.moment
never_below k [] f s m = absurd (Memᴰ.not-nil m)
never_below k (x ∷ l) f s m = elim (Memᴰ.cases_cons m) [
  | inl q ↦ omega (arith, f.0, ap (λ u. u.moment) q)
  | inr n ↦ omega (arith, f.0, never_below x.moment l f.1 s n)
]

earlier_stands_before : (k : ℕ) (l : List Slot) → NeverFalls k l → (s u : Slot) → Memᴰ s l → Memᴰ u l → s.moment < u.moment
    → StandsBefore s u l
earlier_stands_before k [] f s u m n less = absurd (Memᴰ.not-nil m)
earlier_stands_before k (x ∷ l) f s u m n less = elim (Memᴰ.cases_cons n) [
  | inl q ↦ elim (Memᴰ.cases_cons m) [
    | inl p ↦ absurd (omega (arith, ap (λ u. u.moment) (p ∙ sym q)))
    | inr m' ↦ absurd (omega (arith, never_below x.moment l f.1 s m', ap (λ u. u.moment) q))
  ]
  | inr n' ↦ elim (Memᴰ.cases_cons m) [
    | inl p ↦ record { earlier = []; later = l; parts = ap (λ y. y ∷ l) (sym p); after = n' }
    | inr m' ↦
        let z = earlier_stands_before x.moment l f.1 s u m' n' less in
        record { earlier = x ∷ z.earlier; later = z.later; parts = ap (λ y. x ∷ y) z.parts; after = z.after }
  ]
]

falls_never_after : (k : ℕ) (xs ys : List Slot) (s : Slot) → NeverFalls k (xs ++ (s ∷ ys)) → NeverFalls s.moment ys
falls_never_after k [] ys s f = f.1
falls_never_after k (x ∷ xs) ys s f = falls_never_after x.moment xs ys s f.1

stands_before_earlier : (k : ℕ) (l : List Slot) → NeverFalls k l → (s u : Slot) → StandsBefore s u l → s.moment ≤ u.moment
stands_before_earlier k l f s u b =
    never_below s.moment b.later (falls_never_after k b.earlier b.later s (subst (λ l. NeverFalls k l) b.parts f)) u b.after

-- ---- answered before requested

module _ (H : History) (order : Order H) (s u : Slot) (v : Answer) (m : Memᴰ s order.slots) (n : Memᴰ u order.slots)
    (answered : s.operation.answer ≡ some v) (before : v.time < u.request) where
  less : s.moment < u.moment
  less = omega (arith, ((order.stand s m).ended v answered).0, (order.stand u n).begun)

  pub answered_before_stands_before : StandsBefore s u order.slots
  answered_before_stands_before = earlier_stands_before 0 order.slots order.rising s u m n less

  pub answered_before_not_after : StandsBefore u s order.slots → ⊥
  answered_before_not_after b = omega (arith, stands_before_earlier 0 order.slots order.rising u s b, less)

-- ---- a find after an insert

-- where nothing is deleted, a find of an address that is in is true
found_in : (a : Address) (s : Set) (l : List Slot) → ((x : Slot) → Memᴰ x l → x.operation.kind ≢ delete) → s a ≡ true → SameAnswers s l
    → (u : Slot) (v : Answer) → Memᴰ u l → u.operation.kind ≡ find → u.operation.address ≡ a → u.operation.answer ≡ some v
    → v.value ≡ true_answer
found_in a s [] n e z u v m k q h = absurd (Memᴰ.not-nil m)
found_in a s (x ∷ l) n e z u v m k q h = elim (Memᴰ.cases_cons m) [
  | inl p ↦ subst (λ y. y.operation.answer ≡ some v → y.operation.kind ≡ find → y.operation.address ≡ a → v.value ≡ true_answer) (sym p) here h k q
  | inr m' ↦ found_in a (set_after x s) l (λ y i. n y (Memᴰ.tail i))
      (in_stays x.operation.kind a x.operation.address s (n x (Memᴰ.head refl)) e) z.1 u v m' k q h
]
  where
    here : x.operation.answer ≡ some v → x.operation.kind ≡ find → x.operation.address ≡ a → v.value ≡ true_answer
    here h k q = z.0 v h ∙ rw (k, q, e) refl

same_answers_after : (s : Set) (xs ys : List Slot) → SameAnswers s (xs ++ ys) → SameAnswers (worked s xs) ys
same_answers_after s [] ys z = z
same_answers_after s (x ∷ xs) ys z = same_answers_after (set_after x s) xs ys z.1

in_inserted : (s : Set) (x : Slot) → x.operation.kind ≡ insert → set_after x s x.operation.address ≡ true
in_inserted s x k = rw (k, eq-eqb x.operation.address.0 x.operation.address.0 refl) refl

-- an operation of the history, of that kind and address, and its answer
pub record AnsweredOf (H : History) (kind : Kind) (a : Address) (value : ℕ) : Type 0 where
  pub request : ℕ
  pub process : Process
  pub time : ℕ
  pub asked : H.asked request ≡ some
      (record { process = process; kind = kind; address = a; answer = some (record { time = time; value = value }) })

abbrev slot_of : {H : History} {kind : Kind} {a : Address} {value : ℕ} → AnsweredOf H kind a value → (moment : ℕ) → Slot
slot_of {H} {kind} {a} {value} x moment = record {
  request = x.request;
  operation = record { process = x.process; kind = kind; address = a; answer = some (record { time = x.time; value = value }) };
  moment = moment;
}

-- an insert answered true, nothing deleted, a find requested afterwards: it is not answered false
pub find_after_insert_is_not_false : (H : History) → ((r : ℕ) (o : Operation) → H.asked r ≡ some o → o.kind ≢ delete)
    → (a : Address) (i : AnsweredOf H insert a true_answer) (f : AnsweredOf H find a false_answer) → i.time < f.request → Order H → ⊥
find_after_insert_is_not_false H no_delete a i f later order = omega (arith, true_instead)
  where
    put : (t : ℕ) × Memᴰ (slot_of i t) order.slots
    put = order.whole i.request _ _ i.asked refl (λ z. absurd (omega arith))

    sought : (t : ℕ) × Memᴰ (slot_of f t) order.slots
    sought = order.whole f.request _ _ f.asked refl (λ z. absurd (omega arith))

    b : StandsBefore (slot_of i put.0) (slot_of f sought.0) order.slots
    b = answered_before_stands_before H order _ _ _ put.1 sought.1 refl later

    then : Set
    then = worked H.start b.earlier

    kept : (x : Slot) → Memᴰ x b.later → x.operation.kind ≢ delete
    kept x m = let n = subst (λ l. Memᴰ x l) (sym b.parts) (Memᴰ.append_right b.earlier (Memᴰ.tail m)) in
        no_delete x.request x.operation (order.stand x n).asked

    true_instead : false_answer ≡ true_answer
    true_instead = found_in a (set_after (slot_of i put.0) then) b.later kept (in_inserted then (slot_of i put.0) refl)
        (same_answers_after H.start b.earlier (slot_of i put.0 ∷ b.later) (subst (SameAnswers H.start) b.parts order.answers)).1
        (slot_of f sought.0) (record { time = f.time; value = false_answer }) b.after refl refl refl
