-- What `rising`, `begun` and `ended` are needed for: a history without an order that would have one if any one of the three were not asked. An
-- insert is answered true, a find requested afterwards false; without one of them the find may stand before the insert. Rests on Before.
use mathlib.Core.Path.{◌≡◌, refl, sym, ap}
use mathlib.Core.Logic.{◌≢◌, inl, inr, ◌↔◌}
use mathlib.Core.Bool.{true, false, or-false}
use mathlib.Core.Option.{none, some, some-injective}
use mathlib.Core.List.Memᴰ
use mathlib.Core.List.{List, [], ◌∷◌, Memᴰ}
use Prim.Native.Nat.{ℕ, zero, suc, ◌≤◌, ◌<◌}
use native.Mathlib.Omega.{arith}
use lib.Dec.{eqb}
use lib.ListN.{get_or}
use borrow.Author.Tests.{eqb-true, eq-eqb}
use Rattle.record.specs.Record.{false_answer, true_answer, fail_answer}
use Rattle.record.specs.declared.Process.{Process}
use Rattle.record.specs.declared.Address.{Address}
use Rattle.table.specs.History.{insert, delete, find, Answer, Operation, History, Slot, Stands, NeverFalls, NoneTwice, worked}
use Rattle.table.specs.History.{SameAnswers, Order}
use Rattle.table.proofs.Order.Before.{find_after_insert_is_not_false}

-- ---- an order with other demands on a slot and on the moments

pub record OrderWith (H : History) (Standing : Slot → Type 0) (Rising : List Slot → Type 0) : Type 0 where
  pub slots : List Slot
  pub stand : (s : Slot) → Memᴰ s slots → Standing s
  pub rising : Rising slots
  pub once : NoneTwice slots
  pub whole : (r : ℕ) (o : Operation) (v : Answer) → H.asked r ≡ some o → o.answer ≡ some v → v.value ≢ fail_answer
      → (t : ℕ) × Memᴰ (record { request = r; operation = o; moment = t }) slots
  pub answers : SameAnswers H.start slots
  pub ends : (a : Address) → (worked H.start slots a ≡ true) ↔ H.finish a

-- with the demands of an order it is one
pub with_all : (H : History) → OrderWith H (Stands H) (NeverFalls 0) ↔ Order H
with_all H = (
  (λ o. record { slots = o.slots; stand = o.stand; rising = o.rising; once = o.once; whole = o.whole; answers = o.answers; ends = o.ends }),
  (λ o. record { slots = o.slots; stand = o.stand; rising = o.rising; once = o.once; whole = o.whole; answers = o.answers; ends = o.ends }),
)

-- a slot that need not stand after its request
pub record StandsUnbegun (H : History) (s : Slot) : Type 0 where
  pub asked : H.asked s.request ≡ some s.operation
  pub there : s.moment ≤ H.events
  pub ended : (v : Answer) → s.operation.answer ≡ some v → (s.moment ≤ v.time) × (v.value ≢ fail_answer)

-- a slot that need not stand before its answer
pub record StandsUnended (H : History) (s : Slot) : Type 0 where
  pub asked : H.asked s.request ≡ some s.operation
  pub begun : s.request < s.moment
  pub there : s.moment ≤ H.events
  pub not_failed : (v : Answer) → s.operation.answer ≡ some v → v.value ≢ fail_answer

-- ---- the history

-- an insert requested by event 0 and answered true by event 1; a find requested by event 2 and answered false by event 3; the address is held
module _ (p q : Process) (a : Address) where
  abbrev insertion : Operation
  insertion = record { process = p; kind = insert; address = a; answer = some (record { time = 1; value = true_answer }) }

  abbrev seeking : Operation
  seeking = record { process = q; kind = find; address = a; answer = some (record { time = 3; value = false_answer }) }

  abbrev pub insert_then_find : History
  insert_then_find = record {
    asked = λ n. get_or (some insertion ∷ none ∷ some seeking ∷ []) n none;
    events = 4;
    start = λ x. false;
    finish = λ x. x.0 ≡ a.0;
  }

  no_delete : (r : ℕ) (o : Operation) → insert_then_find.asked r ≡ some o → o.kind ≢ delete
  no_delete zero o e k = let z : ◌≡◌ {A = ℕ} 0 1 = cc in absurd (omega arith)
  no_delete (suc zero) o e k = let z : ◌≡◌ {A = ℕ} 0 1 = cc in absurd (omega arith)
  no_delete (suc (suc zero)) o e k = let z : ◌≡◌ {A = ℕ} 0 1 = cc in absurd (omega arith)
  no_delete (suc (suc (suc n))) o e k = let z : ◌≡◌ {A = ℕ} 0 1 = cc in absurd (omega arith)

  no_order : Order insert_then_find → ⊥
  no_order = find_after_insert_is_not_false insert_then_find no_delete a
      (record { request = 0; process = p; time = 1; asked = refl }) (record { request = 2; process = q; time = 3; asked = refl }) (omega arith)

  -- its answers, read
  when_sought : (v : Answer) → seeking.answer ≡ some v → (v.time ≡ 3) × (v.value ≡ false_answer)
  when_sought v h = let z = some-injective _ v h in (sym (ap (λ v. v.time) z), sym (ap (λ v. v.value) z))

  when_put : (v : Answer) → insertion.answer ≡ some v → (v.time ≡ 1) × (v.value ≡ true_answer)
  when_put v h = let z = some-injective _ v h in (sym (ap (λ v. v.time) z), sym (ap (λ v. v.value) z))

  -- ---- the find, then the insert, at moments of our choice

  module _ (sought put : ℕ) where
    abbrev first : Slot
    first = record { request = 2; operation = seeking; moment = sought }

    abbrev second : Slot
    second = record { request = 0; operation = insertion; moment = put }

    whole : (r : ℕ) (o : Operation) (v : Answer) → insert_then_find.asked r ≡ some o → o.answer ≡ some v → v.value ≢ fail_answer
        → (t : ℕ) × Memᴰ (record { request = r; operation = o; moment = t }) (first ∷ second ∷ [])
    whole zero o v e h n =
        (put, Memᴰ.tail (Memᴰ.head (ap (λ o. record { request = 0; operation = o; moment = put }) (sym (some-injective _ o e)))))
    whole (suc zero) o v e h n = let z : ◌≡◌ {A = ℕ} 0 1 = cc in absurd (omega arith)
    whole (suc (suc zero)) o v e h n =
        (sought, Memᴰ.head (ap (λ o. record { request = 2; operation = o; moment = sought }) (sym (some-injective _ o e))))
    whole (suc (suc (suc k))) o v e h n = let z : ◌≡◌ {A = ℕ} 0 1 = cc in absurd (omega arith)

    ends : (x : Address) → (worked (λ y. false) (first ∷ second ∷ []) x ≡ true) ↔ (x.0 ≡ a.0)
    ends x = ((λ e. eqb-true x.0 a.0 (rw (or-false (eqb x.0 a.0)) at e)), (λ e. rw (eq-eqb x.0 a.0 e) refl))

    almost : (Standing : Slot → Type 0) (Rising : List Slot → Type 0) → Standing first → Standing second → Rising (first ∷ second ∷ [])
        → OrderWith insert_then_find Standing Rising
    almost Standing Rising x y rising = record {
      slots = first ∷ second ∷ [];
      stand = λ s m. elim (Memᴰ.cases_cons m) [
        | inl e ↦ rw e x
        | inr n ↦ elim (Memᴰ.cases_cons n) [ inl e ↦ rw e y | inr z ↦ absurd (Memᴰ.not-nil z) ]
      ];
      rising = rising;
      once = (
        (λ u m e. elim (Memᴰ.cases_cons m) [ inl z ↦ absurd (omega (arith, ap (λ u. u.request) z)) | inr z ↦ Memᴰ.not-nil z ]),
        ((λ u m e. Memᴰ.not-nil m), tt),
      );
      whole = whole;
      answers = ((λ v h. (when_sought v h).1), ((λ v h. (when_put v h).1), tt));
      ends = ends;
    }

  -- ---- each of the three is needed

  -- without `rising`: the find at moment 3, the insert at moment 1
  pub rising_is_needed : OrderWith insert_then_find (Stands insert_then_find) (λ slots. Unit {0}) × (Order insert_then_find → ⊥)
  rising_is_needed = (
    almost 3 1 (Stands insert_then_find) (λ slots. Unit {0})
        (record {
          asked = refl;
          begun = omega arith;
          there = omega arith;
          ended = λ v h. let z = when_sought v h in (omega (arith, z.0), λ f. absurd (omega (arith, z.1)));
        })
        (record {
          asked = refl;
          begun = omega arith;
          there = omega arith;
          ended = λ v h. let z = when_put v h in (omega (arith, z.0), λ f. absurd (omega (arith, z.1)));
        })
        tt,
    no_order,
  )

  -- without `begun`: both at moment 1, the find before its request
  pub begun_is_needed : OrderWith insert_then_find (StandsUnbegun insert_then_find) (NeverFalls 0) × (Order insert_then_find → ⊥)
  begun_is_needed = (
    almost 1 1 (StandsUnbegun insert_then_find) (NeverFalls 0)
        (record {
          asked = refl;
          there = omega arith;
          ended = λ v h. let z = when_sought v h in (omega (arith, z.0), λ f. absurd (omega (arith, z.1)));
        })
        (record {
          asked = refl;
          there = omega arith;
          ended = λ v h. let z = when_put v h in (omega (arith, z.0), λ f. absurd (omega (arith, z.1)));
        })
        (omega arith, (omega arith, tt)),
    no_order,
  )

  -- without `ended`: both at moment 3, the insert after its answer
  pub ended_is_needed : OrderWith insert_then_find (StandsUnended insert_then_find) (NeverFalls 0) × (Order insert_then_find → ⊥)
  ended_is_needed = (
    almost 3 3 (StandsUnended insert_then_find) (NeverFalls 0)
        (record {
          asked = refl;
          begun = omega arith;
          there = omega arith;
          not_failed = λ v h f. absurd (omega (arith, (when_sought v h).1));
        })
        (record {
          asked = refl;
          begun = omega arith;
          there = omega arith;
          not_failed = λ v h f. absurd (omega (arith, (when_put v h).1));
        })
        (omega arith, (omega arith, tt)),
    no_order,
  )
