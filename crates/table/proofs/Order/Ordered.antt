-- A history that supplies what Needs names has an order: at each moment first the operation that takes effect, then those whose
-- witness it is. After moment t the plain set is what is held at t. Rests on Replay.
use mathlib.Core.Path.{◌≡◌, refl, sym, ◌∙◌, ap, subst}
use mathlib.Core.Logic.Iff
use mathlib.Core.Logic.{◌≢◌, ◌⊎◌, inl, inr}
use mathlib.Core.Bool.{cond}
use mathlib.Core.Option.{Option, none, some}
use mathlib.Core.List.Memᴰ
use mathlib.Core.List.{List, [], ◌∷◌, ◌++◌, Memᴰ}
use Prim.Native.Nat.{ℕ, zero, suc, ◌≤◌, ◌<◌}
use native.Mathlib.Omega.{arith}
use native.Mathlib.Decide.{ℕ_discrete}
use native.Mathlib.Bridge.{le_prop}
use lib.Dec.{eqb}
use Rattle.record.specs.Record.{true_answer, fail_answer}
use Rattle.table.proofs.Common.{none}
use Rattle.table.specs.History.{Kind, insert, delete, find, Answer, Operation, Set, History, Slot, Stands, NeverFalls, NoneTwice, Order}
use Rattle.basics.proofs.Tests.{if_eq, none_or_some}
use Rattle.table.proofs.Order.Needs.{AnswerTells, Witness, Adds, Removes, Change, still, by, IsBy, Supplies}
use Rattle.table.proofs.Order.Replay.{falls_never_joined, falls_never_at, none_twice_joined, IsSet, Replays, replays_none, replays_joined}
use Rattle.table.proofs.Order.Replay.{told_says, told_stays, insert_adds, delete_removes}

none_some : {A X : Type 0} (x : Option A) (a : A) → x ≡ none → x ≡ some a → X
none_some x a p q = let z : ◌≡◌ {A = ℕ} 0 1 = cc in absurd (omega arith)

some_some : {A : Type 0} (x : Option A) (a b : A) → x ≡ some a → x ≡ some b → a ≡ b
some_some x a b p q = cc

-- an answer that leaves the set as it is is no fail, and of an insert or a delete it is false
told_not_fail : (k : Kind) (v : ℕ) (P : Type 0) → AnswerTells k v P → v ≢ fail_answer
told_not_fail insert v P z q = absurd (omega (arith, z.0))
told_not_fail delete v P z q = absurd (omega (arith, z.0))
told_not_fail find v P (inl z) q = absurd (omega (arith, z.0))
told_not_fail find v P (inr z) q = absurd (omega (arith, z.0))

told_not_true : (k : Kind) (v : ℕ) (P : Type 0) → (k ≡ insert) ⊎ (k ≡ delete) → AnswerTells k v P → v ≢ true_answer
told_not_true insert v P e z q = absurd (omega (arith, z.0))
told_not_true delete v P e z q = absurd (omega (arith, z.0))
told_not_true find v P (inl e) z q = let n : ◌≡◌ {A = ℕ} 0 1 = cc in absurd (omega arith)
told_not_true find v P (inr e) z q = let n : ◌≡◌ {A = ℕ} 0 1 = cc in absurd (omega arith)

abbrev slot : ℕ → Operation → ℕ → Slot
slot r o w = record { request = r; operation = o; moment = w }

module _ (H : History) (S : Supplies H) where
  abbrev T : ℕ
  T = H.events

  earlier : {t : ℕ} → t < T → t ≤ T
  earlier l = omega arith

  -- ---- what each event and each request puts into the order

  -- the change at event t, where there is such an event
  abbrev changed : {t : ℕ} → Change H S.held t → List Slot
  changed (still same) = []
  changed {t = t} (by r o c) = slot r o (suc t) ∷ []

  -- an operation with a witness
  record Reader (r : ℕ) : Type 0 where
    operation : Operation
    answer : Answer
    asked : H.asked r ≡ some operation
    told : operation.answer ≡ some answer
    witness : Witness H S.held r operation answer

  abbrev Effective : ℕ → Type 0
  Effective r = (t : ℕ) × (l : t < T) × IsBy (S.change t l) r

  data Role (r : ℕ) : Type 0 where
    reads : Reader r → Role r
    other : ((o : Operation) (v : Answer) → H.asked r ≡ some o → o.answer ≡ some v → v.value ≢ fail_answer → Effective r) → Role r

  same_answer : (r : ℕ) (o o' : Operation) (v : Answer) → H.asked r ≡ some o → H.asked r ≡ some o' → o'.answer ≡ some v → o.answer ≡ some v
  same_answer r o o' v a a' h = ap (λ o. o.answer) (some_some (H.asked r) o o' a a') ∙ h

  role : (r : ℕ) → Role r
  role r = elim (none_or_some (H.asked r)) [
    | inl e ↦ other (λ o v a h n. none_some (H.asked r) o e a)
    | inr o ↦ elim (none_or_some o.0.answer) [
      | inl e ↦ other (λ o' v a h n. none_some o.0.answer v e (same_answer r o.0 o' v o.1 a h))
      | inr v ↦ elim (ℕ_discrete v.0.value fail_answer) [
        | yes f ↦ other (λ o' v' a h n.
            absurd (n (rw (some_some o.0.answer v.0 v' v.1 (same_answer r o.0 o' v' o.1 a h)) at f)))
        | no n ↦ elim (S.answered r o.0 v.0 o.1 v.1 n) [
          | inl e ↦ other (λ o' v' a h n. e)
          | inr w ↦ reads (record { operation = o.0; answer = v.0; asked = o.1; told = v.1; witness = w })
        ]
      ]
    ]
  ]

  -- ---- the order

  abbrev read_at : (w : ℕ) {r : ℕ} → Role r → List Slot
  read_at w {r = r} (reads x) = cond (eqb x.witness.moment w) (slot r x.operation w ∷ []) []
  read_at w (other f) = []

  -- the readers at moment w among the requests below k
  readers : (k w : ℕ) → List Slot
  readers zero w = []
  readers (suc k) w = readers k w ++ read_at w (role k)

  abbrev block : (t : ℕ) → t < T → List Slot
  block t l = changed (S.change t l) ++ readers T (suc t)

  order : (t : ℕ) → t ≤ T → List Slot
  order zero l = []
  order (suc t) l = order t (earlier l) ++ block t l

  -- ---- what stands in it

  abbrev ReadsAt : (w : ℕ) {r : ℕ} → Role r → Type 0
  ReadsAt w (reads x) = x.witness.moment ≡ w
  ReadsAt w (other f) = ⊥

  record Fits (t : ℕ) (s : Slot) : Type 0 where
    stands : Stands H s
    moment : s.moment ≡ suc t
    how : ((l : t < T) × IsBy (S.change t l) s.request) ⊎ ReadsAt (suc t) (role s.request)

  changed_fits : (t : ℕ) → t < T → (c : Change H S.held t) (s : Slot) → Memᴰ s (changed c)
      → Stands H s × (s.moment ≡ suc t) × IsBy c s.request
  changed_fits t l (still same) s m = absurd (Memᴰ.not-nil m)
  changed_fits t l (by r o c) s m = let q = Memᴰ.eq_of_singleton m in (
    rw q (record {
      asked = c.asked;
      begun = omega (arith, c.begun);
      there = l;
      ended = λ v h. let z = c.ended v h in (omega (arith, z.0), λ e. absurd (omega (arith, z.1)));
    }),
    ap (λ s. s.moment) q,
    sym (ap (λ s. s.request) q),
  )

  read_fits : (w r : ℕ) (x : Role r) (s : Slot) → Memᴰ s (read_at w x) → Stands H s × (s.moment ≡ w) × (s.request ≡ r) × ReadsAt w x
  read_fits w r (other f) s = λ m. absurd (Memᴰ.not-nil m)
  read_fits w r (reads x) s = if_eq (λ l. Memᴰ s l → Stands H s × (s.moment ≡ w) × (s.request ≡ r) × (x.witness.moment ≡ w))
      x.witness.moment w
      (λ e m. let q : s ≡ slot r x.operation w = Memᴰ.eq_of_singleton m in (
        rw q (record {
          asked = x.asked;
          begun = omega (arith, x.witness.begun);
          there = omega (arith, x.witness.there);
          ended = λ v h. let z = some_some x.operation.answer x.answer v x.told h in (
            omega (arith, x.witness.ended, ap (λ v. v.time) z),
            λ f. told_not_fail x.operation.kind x.answer.value _ x.witness.tells (ap (λ v. v.value) z ∙ f),
          );
        }),
        ap (λ s. s.moment) q,
        ap (λ s. s.request) q,
        e,
      ))
      (λ n m. absurd (Memᴰ.not-nil m))

  readers_fit : (k w : ℕ) (s : Slot) → Memᴰ s (readers k w) → Stands H s × (s.moment ≡ w) × (s.request < k) × ReadsAt w (role s.request)
  unfolding readers
  readers_fit zero w s m = absurd (Memᴰ.not-nil m)
  readers_fit (suc k) w s m = elim (Memᴰ.append_cases (readers k w) m) [
    | inl n ↦ let z = readers_fit k w s n in (z.0, z.1, omega (arith, z.2), z.3)
    | inr n ↦ let z = read_fits w k (role k) s n in (z.0, z.1, omega (arith, z.2), rw z.2 z.3)
  ]

  block_fits : (t : ℕ) (l : t < T) (s : Slot) → Memᴰ s (block t l) → Fits t s
  block_fits t l s m = elim (Memᴰ.append_cases (changed (S.change t l)) m) [
    | inl n ↦ let z = changed_fits t l (S.change t l) s n in record { stands = z.0; moment = z.1; how = inl (l, z.2) }
    | inr n ↦ let z = readers_fit T (suc t) s n in record { stands = z.0; moment = z.1; how = inr z.3 }
  ]

  order_fits : (t : ℕ) (l : t ≤ T) (s : Slot) → Memᴰ s (order t l) → (t' : ℕ) × (t' < t) × Fits t' s
  unfolding order
  order_fits zero l s m = absurd (Memᴰ.not-nil m)
  order_fits (suc t) l s m = elim (Memᴰ.append_cases (order t (earlier l)) m) [
    | inl n ↦ let z = order_fits t (earlier l) s n in (z.0, omega (arith, z.1), z.2)
    | inr n ↦ (t, omega arith, block_fits t l s n)
  ]

  -- ---- no operation twice

  -- an operation that takes effect has no witness
  not_both : {t : ℕ} (w r : ℕ) (c : Change H S.held t) (x : Role r) → IsBy c r → ReadsAt w x → ⊥
  not_both w r c (other f) b z = z
  not_both w r (still same) (reads x) b z = b
  not_both {t} w r (by r' o c) (reads x) b z =
      told_not_true x.operation.kind x.answer.value _ (kind c.does) x.witness.tells
      (c.ended x.answer (ap (λ o. o.answer) same ∙ x.told)).1
    where
      same : o ≡ x.operation
      same = some_some (H.asked r) o x.operation (rw b at c.asked) x.asked

      kind : Adds S.held t o ⊎ Removes S.held t o → (x.operation.kind ≡ insert) ⊎ (x.operation.kind ≡ delete)
      kind (inl y) = inl (ap (λ o. o.kind) (sym same) ∙ y.kind)
      kind (inr y) = inr (ap (λ o. o.kind) (sym same) ∙ y.kind)

  reads_once : (t t' r : ℕ) (x : Role r) → ReadsAt (suc t) x → ReadsAt (suc t') x → t ≡ t'
  reads_once t t' r (other f) y z = absurd y
  reads_once t t' r (reads x) y z = omega arith

  fits_once : (t t' : ℕ) (s s' : Slot) → Fits t s → Fits t' s' → s.request ≡ s'.request → t ≡ t'
  fits_once t t' s s' x y q = cases x.how (rw q y.how)
    where
      r : ℕ
      r = s.request

      cases : ((l : t < T) × IsBy (S.change t l) s.request) ⊎ ReadsAt (suc t) (role s.request)
          → ((l : t' < T) × IsBy (S.change t' l) s.request) ⊎ ReadsAt (suc t') (role s.request) → t ≡ t'
      cases (inl c) (inl c') = S.once t t' r c.0 c'.0 c.1 c'.1
      cases (inl c) (inr z) = absurd (not_both (suc t') r (S.change t c.0) (role r) c.1 z)
      cases (inr z) (inl c) = absurd (not_both (suc t) r (S.change t' c.0) (role r) c.1 z)
      cases (inr z) (inr z') = reads_once t t' r (role r) z z'

  read_once : (w r : ℕ) (x : Role r) → NoneTwice (read_at w x)
  read_once w r (other f) = tt
  read_once w r (reads x) = if_eq NoneTwice x.witness.moment w (λ e. ((λ u m. absurd (Memᴰ.not-nil m)), tt)) (λ n. tt)

  readers_once : (k w : ℕ) → NoneTwice (readers k w)
  unfolding readers
  readers_once zero w = tt
  readers_once (suc k) w = none_twice_joined (readers k w) (read_at w (role k)) (readers_once k w) (read_once w k (role k))
      (λ u v m n q. absurd (omega (arith, (readers_fit k w u m).2, (read_fits w k (role k) v n).2)))

  changed_once : {t : ℕ} (c : Change H S.held t) → NoneTwice (changed c)
  changed_once (still same) = tt
  changed_once (by r o c) = ((λ u m. absurd (Memᴰ.not-nil m)), tt)

  block_once : (t : ℕ) (l : t < T) → NoneTwice (block t l)
  block_once t l = none_twice_joined (changed (S.change t l)) (readers T (suc t)) (changed_once (S.change t l)) (readers_once T (suc t))
      (λ u v m n q. not_both (suc t) u.request (S.change t l) (role u.request) (changed_fits t l (S.change t l) u m).2
      (rw q at (readers_fit T (suc t) v n).3))

  order_once : (t : ℕ) (l : t ≤ T) → NoneTwice (order t l)
  unfolding order
  order_once zero l = tt
  order_once (suc t) l = none_twice_joined (order t (earlier l)) (block t l) (order_once t (earlier l)) (block_once t l)
      (λ u v m n q. let x = order_fits t (earlier l) u m in
      absurd (omega (arith, x.1, fits_once x.0 t u v x.2 (block_fits t l v n) (sym q))))

  order_rises : (t : ℕ) (l : t ≤ T) → NeverFalls 0 (order t l)
  unfolding order
  order_rises zero l = tt
  order_rises (suc t) l = falls_never_joined 0 (suc t) (order t (earlier l)) (block t l) (order_rises t (earlier l)) (omega arith)
      (λ s m. let x = order_fits t (earlier l) s m in omega (arith, x.1, x.2.moment))
      (falls_never_at (suc t) (block t l) (λ s m. (block_fits t l s m).moment))

  -- ---- all of them are in it

  in_order : (t t' : ℕ) (s : Slot) → t < t' → (l : t' ≤ T) → ((k : t < T) → Memᴰ s (block t k)) → Memᴰ s (order t' l)
  unfolding order
  in_order t zero s before l m = absurd (omega arith)
  in_order t (suc t') s before l m = elim (ℕ_discrete t t') [
    | yes q ↦ let m' : (k : t' < T) → Memᴰ s (block t' k) = rw q at m in Memᴰ.append_right (order t' (earlier l)) (m' l)
    | no n ↦ Memᴰ.append_left (block t' l) (in_order t t' s (omega arith) (earlier l) m)
  ]

  in_readers : (k w r : ℕ) (o : Operation) → r < k → Memᴰ (slot r o w) (read_at w (role r)) → Memᴰ (slot r o w) (readers k w)
  unfolding readers
  in_readers zero w r o l m = absurd (omega arith)
  in_readers (suc k) w r o l m = elim (ℕ_discrete r k) [
    | yes q ↦ Memᴰ.append_right (readers k w) (subst (λ k. Memᴰ (slot r o w) (read_at w (role k))) q m)
    | no n ↦ Memᴰ.append_left (read_at w (role k)) (in_readers k w r o (omega arith) m)
  ]

  in_changed : (t r : ℕ) (o : Operation) → H.asked r ≡ some o → (c : Change H S.held t) → IsBy c r → Memᴰ (slot r o (suc t)) (changed c)
  in_changed t r o a (still same) b = absurd b
  in_changed t r o a (by r' o' c) b = Memᴰ.head (λ i. slot (sym b i) (some_some (H.asked r) o o' a (rw b at c.asked) i) (suc t))

  effective_in : (r : ℕ) (o : Operation) (l : T ≤ T) → H.asked r ≡ some o → Effective r → (w : ℕ) × Memᴰ (slot r o w) (order T l)
  effective_in r o l a e = (
    suc e.0,
    in_order e.0 T _ e.1 l
        (λ k. Memᴰ.append_left (readers T (suc e.0)) (in_changed e.0 r o a (S.change e.0 k) (rw (le_prop e.1 k) at e.2))),
  )

  in_read : (w r : ℕ) (o : Operation) (x : Role r) → H.asked r ≡ some o → ReadsAt w x → Memᴰ (slot r o w) (read_at w x)
  in_read w r o (other f) a z = absurd z
  in_read w r o (reads x) a z = if_eq (Memᴰ (slot r o w)) x.witness.moment w
      (λ e. Memᴰ.head (λ i. slot r (some_some (H.asked r) o x.operation a x.asked i) w)) (λ n. absurd (n z))

  reader_in : (r w : ℕ) (o : Operation) (l : T ≤ T) → H.asked r ≡ some o → r < w → w ≤ T → ReadsAt w (role r) → Memᴰ (slot r o w) (order T l)
  reader_in r zero o l a begun there z = absurd (omega arith)
  reader_in r (suc t) o l a begun there z = in_order t T _ there l
      (λ k. Memᴰ.append_right (changed (S.change t k)) (in_readers T (suc t) r o (omega arith) (in_read (suc t) r o (role r) a z)))

  order_whole : (l : T ≤ T) (r : ℕ) (o : Operation) (v : Answer) → H.asked r ≡ some o → o.answer ≡ some v → v.value ≢ fail_answer
      → (w : ℕ) × Memᴰ (slot r o w) (order T l)
  order_whole l r o v a h n = cases (role r) refl
    where
      cases : (x : Role r) → role r ≡ x → (w : ℕ) × Memᴰ (slot r o w) (order T l)
      cases (other f) q = effective_in r o l a (f o v a h n)
      cases (reads x) q = (x.witness.moment, reader_in r x.witness.moment o l a x.witness.begun x.witness.there (rw q refl))

  -- ---- the replay

  changed_replays : (t : ℕ) (c : Change H S.held t) (s : Set) → IsSet s (S.held t) → Replays s (changed c) (S.held (suc t))
  changed_replays t (still same) s is = record { same = tt; is = λ a. Iff.trans (is a) (Iff.symm (same a)) }
  changed_replays t (by r o c) s is = elim c.does [
    | inl x ↦ let z = insert_adds s o.address S.held t is o.kind x.kind x.free x.adds in
        record { same = ((λ v h. (c.ended v h).1 ∙ sym z.0), tt); is = z.1 }
    | inr x ↦ let z = delete_removes s o.address S.held t is o.kind x.kind x.taken x.removes in
        record { same = ((λ v h. (c.ended v h).1 ∙ sym z.0), tt); is = z.1 }
  ]

  read_replays : (w r : ℕ) (x : Role r) (s : Set) → IsSet s (S.held w) → Replays s (read_at w x) (S.held w)
  read_replays w r (other f) s is = replays_none s is
  read_replays w r (reads x) s is = if_eq (λ l. Replays s l (S.held w)) x.witness.moment w
      (λ e. record {
        same = (
          (λ v h. ap (λ v. v.value) (some_some o.answer v x.answer h x.told)
              ∙ told_says s o.address (S.held w) is o.kind x.answer.value (told e)),
          tt,
        );
        is = told_stays s o.address (S.held w) is o.kind x.answer.value (told e);
      })
      (λ n. replays_none s is)
    where
      o : Operation
      o = x.operation

      told : x.witness.moment ≡ w → AnswerTells x.operation.kind x.answer.value (S.held w x.operation.address)
      told e = rw e at x.witness.tells

  readers_replay : (k w : ℕ) (s : Set) → IsSet s (S.held w) → Replays s (readers k w) (S.held w)
  unfolding readers
  readers_replay zero w s is = replays_none s is
  readers_replay (suc k) w s is =
      replays_joined s (readers k w) (read_at w (role k)) (S.held w) (S.held w) (readers_replay k w s is) (read_replays w k (role k))

  -- after moment t the plain set is what is held at t
  order_replays : (t : ℕ) (l : t ≤ T) → Replays H.start (order t l) (S.held t)
  unfolding order
  order_replays zero l = replays_none H.start S.begins
  order_replays (suc t) l = replays_joined H.start (order t (earlier l)) (block t l) (S.held t) (S.held (suc t)) (order_replays t (earlier l))
      (λ s is. replays_joined s (changed (S.change t l)) (readers T (suc t)) (S.held (suc t)) (S.held (suc t))
      (changed_replays t (S.change t l) s is) (readers_replay T (suc t)))

  pub ordered : Order H
  ordered = let l : T ≤ T = omega arith in record {
    slots = order T l;
    stand = λ s m. (order_fits T l s m).2.stands;
    rising = order_rises T l;
    once = order_once T l;
    whole = order_whole l;
    answers = (order_replays T l).same;
    ends = λ a. Iff.trans ((order_replays T l).is a) (S.finishes a);
  }
