-- Lists of slots joined, and a plain set at work that is what is held. Rests on Needs.
use mathlib.Core.Path.{◌≡◌, refl, sym, ◌∙◌, subst}
use mathlib.Core.Logic.{◌≢◌, ◌⊎◌, inl, inr, ◌↔◌}
use mathlib.Core.Bool.{or-true, true, false, not, ◌&&◌, ◌||◌, false≢true}
use mathlib.Core.List.Memᴰ
use mathlib.Core.List.{List, [], ◌∷◌, ◌++◌, Memᴰ}
use Prim.Native.Nat.{ℕ, suc, ◌≤◌}
use native.Mathlib.Omega.{arith}
use native.Mathlib.Decide.{ℕ_discrete}
use lib.Dec.{eqb}
use borrow.Author.Tests.{eq-eqb, ne_eqb}
use Rattle.record.specs.Record.{true_answer}
use Rattle.record.specs.declared.Address.{Address}
use Rattle.table.specs.History.{Kind, insert, delete, find, Set, Slot, NeverFalls, NoneTwice, says, becomes, worked, SameAnswers}
use Rattle.basics.proofs.Tests.{not_true_false}
use Rattle.table.proofs.Order.Needs.{AnswerTells}

-- ---- lists of slots, joined

pub falls_never_joined : (w v : ℕ) (xs ys : List Slot) → NeverFalls w xs → w ≤ v → ((s : Slot) → Memᴰ s xs → s.moment ≤ v)
    → NeverFalls v ys → NeverFalls w (xs ++ ys)
falls_never_joined w v [] [] f l b g = tt
falls_never_joined w v [] (y ∷ ys) f l b g = (omega (arith, g.0), g.1)
falls_never_joined w v (x ∷ xs) ys f l b g =
    (f.0, falls_never_joined x.moment v xs ys f.1 (b x (Memᴰ.head refl)) (λ s m. b s (Memᴰ.tail m)) g)

-- slots of one moment
pub falls_never_at : (v : ℕ) (ys : List Slot) → ((s : Slot) → Memᴰ s ys → s.moment ≡ v) → NeverFalls v ys
falls_never_at v [] h = tt
falls_never_at v (y ∷ ys) h =
    let now = h y (Memᴰ.head refl) in (omega arith, falls_never_at y.moment ys (λ s m. h s (Memᴰ.tail m) ∙ sym now))

pub none_twice_joined : (xs ys : List Slot) → NoneTwice xs → NoneTwice ys
    → ((u v : Slot) → Memᴰ u xs → Memᴰ v ys → v.request ≢ u.request) → NoneTwice (xs ++ ys)
none_twice_joined [] ys a b d = b
none_twice_joined (x ∷ xs) ys a b d =
    ((λ u m. other u (Memᴰ.append_cases xs m)), none_twice_joined xs ys a.1 b (λ u v m n. d u v (Memᴰ.tail m) n))
  where
    other : (u : Slot) → Memᴰ u xs ⊎ Memᴰ u ys → u.request ≢ x.request
    other u (inl m) = a.0 u m
    other u (inr m) = d x u (Memᴰ.head refl) m

worked_joined : (s : Set) (xs ys : List Slot) → worked s (xs ++ ys) ≡ worked (worked s xs) ys
worked_joined s [] ys = refl
worked_joined s (x ∷ xs) ys = worked_joined (becomes x.operation.kind x.operation.address s) xs ys

same_answers_joined : (s : Set) (xs ys : List Slot) → SameAnswers s xs → SameAnswers (worked s xs) ys → SameAnswers s (xs ++ ys)
same_answers_joined s [] ys a b = b
same_answers_joined s (x ∷ xs) ys a b = (a.0, same_answers_joined (becomes x.operation.kind x.operation.address s) xs ys a.1 b)

-- ---- a plain set that is a given one

abbrev pub IsSet : Set → (Address → Type 0) → Type 0
IsSet s P = (a : Address) → (s a ≡ true) ↔ P a

-- the set answers as it did, and is Q at the end
pub record Replays (s : Set) (xs : List Slot) (Q : Address → Type 0) : Type 0 where
  pub same : SameAnswers s xs
  pub is : IsSet (worked s xs) Q

pub replays_none : {P : Address → Type 0} (s : Set) → IsSet s P → Replays s [] P
replays_none s is = record { same = tt; is = is }

pub replays_joined : (s : Set) (xs ys : List Slot) (P Q : Address → Type 0) → Replays s xs P
    → ((s' : Set) → IsSet s' P → Replays s' ys Q) → Replays s (xs ++ ys) Q
replays_joined s xs ys P Q first next =
    let rest = next (worked s xs) first.is in
    record { same = same_answers_joined s xs ys first.same rest.same; is = rw (worked_joined s xs ys) rest.is }

-- ---- one operation

module _ (s : Set) (a : Address) where
  in_inserted : (x : Address) → (becomes insert a s x ≡ true) ↔ ((x.0 ≡ a.0) ⊎ (s x ≡ true))
  in_inserted x = (into (ℕ_discrete x.0 a.0), from)
    where
      into : Dec (x.0 ≡ a.0) → (eqb x.0 a.0 || s x) ≡ true → (x.0 ≡ a.0) ⊎ (s x ≡ true)
      into (yes e) q = inl e
      into (no n) q = inr (rw (ne_eqb x.0 a.0 n) at q)

      from : (x.0 ≡ a.0) ⊎ (s x ≡ true) → (eqb x.0 a.0 || s x) ≡ true
      from (inl e) = rw (eq-eqb x.0 a.0 e) refl
      from (inr q) = rw q (or-true (eqb x.0 a.0))

  in_deleted : (x : Address) → (becomes delete a s x ≡ true) ↔ ((x.0 ≢ a.0) × (s x ≡ true))
  in_deleted x = (into (ℕ_discrete x.0 a.0), λ q. rw (ne_eqb x.0 a.0 q.0) q.1)
    where
      into : Dec (x.0 ≡ a.0) → (not (eqb x.0 a.0) && s x) ≡ true → (x.0 ≢ a.0) × (s x ≡ true)
      into (yes e) q = absurd (false≢true (rw (eq-eqb x.0 a.0 e) at q))
      into (no n) q = (n, rw (ne_eqb x.0 a.0 n) at q)

  module _ (P : Address → Type 0) (is : IsSet s P) where
    out : (P a → ⊥) → s a ≡ false
    out h = not_true_false (s a) (λ q. h ((is a).0 q))

    pub told_says : (k : Kind) (v : ℕ) → AnswerTells k v (P a) → v ≡ says k a s
    told_says insert v z = z.0 ∙ (rw ((is a).1 z.1) refl)
    told_says delete v z = z.0 ∙ (rw (out z.1) refl)
    told_says find v (inl z) = z.0 ∙ (rw ((is a).1 z.1) refl)
    told_says find v (inr z) = z.0 ∙ (rw (out z.1) refl)

    same_address : (x : Address) → x.0 ≡ a.0 → P a → P x
    same_address x q = subst P (λ i. record { 0 = sym q i })

    -- an answer that leaves the set as it is does so
    pub told_stays : (k : Kind) (v : ℕ) → AnswerTells k v (P a) → IsSet (becomes k a s) P
    told_stays insert v z x = (
      (λ q. elim ((in_inserted x).0 q) [ inl e ↦ same_address x e z.1 | inr e ↦ (is x).0 e ]),
      (λ q. (in_inserted x).1 (inr ((is x).1 q))),
    )
    told_stays delete v z x =
        ((λ q. (is x).0 ((in_deleted x).0 q).1), (λ q. (in_deleted x).1 ((λ e. z.1 (subst P (λ i. record { 0 = e i }) q)), (is x).1 q)))
    told_stays find v z x = is x

  -- an insert that takes effect answers true and adds exactly its address; a delete removes it
  module _ (held : ℕ → Address → Type 0) (t : ℕ) (is : IsSet s (held t)) where
    pub insert_adds : (k : Kind) → k ≡ insert → (held t a → ⊥) → ((x : Address) → held (suc t) x ↔ ((x.0 ≡ a.0) ⊎ held t x))
        → (says k a s ≡ true_answer) × IsSet (becomes k a s) (held (suc t))
    insert_adds k e free adds = rw e (
      rw (out (held t) is free) refl,
      λ x. ((λ q. (adds x).1 (into x ((in_inserted x).0 q))), (λ q. (in_inserted x).1 (from x ((adds x).0 q)))),
    )
      where
        into : (x : Address) → (x.0 ≡ a.0) ⊎ (s x ≡ true) → (x.0 ≡ a.0) ⊎ held t x
        into x (inl q) = inl q
        into x (inr q) = inr ((is x).0 q)

        from : (x : Address) → (x.0 ≡ a.0) ⊎ held t x → (x.0 ≡ a.0) ⊎ (s x ≡ true)
        from x (inl q) = inl q
        from x (inr q) = inr ((is x).1 q)

    pub delete_removes : (k : Kind) → k ≡ delete → held t a → ((x : Address) → held (suc t) x ↔ ((x.0 ≢ a.0) × held t x))
        → (says k a s ≡ true_answer) × IsSet (becomes k a s) (held (suc t))
    delete_removes k e taken removes = rw e (
      rw ((is a).1 taken) refl,
      λ x. (
        (λ q. let z = (in_deleted x).0 q in (removes x).1 (z.0, (is x).0 z.1)),
        (λ q. let z = (removes x).0 q in (in_deleted x).1 (z.0, (is x).1 z.1)),
      ),
    )
