-- Two orders, the first of a history that ends in the set from which that of the second starts, make one order of both: the first order, then the
-- second, its slots later by the events of the first. Rests on Replay.
use mathlib.Core.Path.{◌≡◌, refl, sym, ◌∙◌, ap, subst}
use mathlib.Core.Logic.{◌≢◌, inl, inr}
use mathlib.Core.Bool.{Bool, true, false}
use mathlib.Core.Option
use mathlib.Core.Option.{some, map-eq-some_iff}
use mathlib.Core.List.Memᴰ
use mathlib.Core.List.{List, [], ◌∷◌, ◌++◌, map, Memᴰ}
use Prim.Native.Nat.{ℕ, ◌+◌, ◌-◌, ◌≤◌, ◌<◌}
use native.Mathlib.Omega.{arith}
use native.Mathlib.Decide.{dec_lt}
use borrow.Author.Tests.{lt-ltb, le-ltb}
use Rattle.record.specs.Record.{fail_answer}
use Rattle.record.specs.declared.Address.{Address}
use Rattle.table.specs.History.{Answer, Operation, Set, History, Slot, Stands, NeverFalls, NoneTwice, becomes, worked, SameAnswers, Order}
use Rattle.table.specs.Joined.{answer_later, shifted, slot_later, StartsWhere, followed_by}
use Rattle.table.proofs.Laws.Lists.{mapped_from, mapped}
use Rattle.table.proofs.Order.Replay.{falls_never_joined, none_twice_joined, IsSet, Replays, replays_joined}

-- ---- sets

same_test : (a b : Bool) → (a ≡ true → b ≡ true) → (b ≡ true → a ≡ true) → a ≡ b
same_test true b f g = sym (f refl)
same_test false true f g = g refl
same_test false false f g = refl

-- two plain sets of one kind of address are the same set
same_set : {P : Address → Type 0} (s s' : Set) → IsSet s P → IsSet s' P → s ≡ s'
same_set s s' is is' = λ i a. same_test (s a) (s' a) (λ q. (is' a).1 ((is a).0 q)) (λ q. (is a).1 ((is' a).0 q)) i

-- ---- slots that are later

module _ (k : ℕ) where
  never_falls_later : (from later : ℕ) (l : List Slot) → later ≤ k + from → NeverFalls from l → NeverFalls later (map (slot_later k) l)
  never_falls_later from later [] h f = tt
  never_falls_later from later (s ∷ l) h f = (omega (arith, f.0), never_falls_later s.moment (k + s.moment) l (omega arith) f.1)

  none_twice_later : (l : List Slot) → NoneTwice l → NoneTwice (map (slot_later k) l)
  none_twice_later [] n = tt
  none_twice_later (s ∷ l) n = (
    (λ u m q. let z = mapped_from (slot_later k) l m in n.0 z.0 z.1 (omega (arith, q, ap (λ s. s.request) z.2))),
    none_twice_later l n.1,
  )

  worked_later : (s : Set) (l : List Slot) → worked s (map (slot_later k) l) ≡ worked s l
  worked_later s [] = refl
  worked_later s (u ∷ l) = worked_later (becomes u.operation.kind u.operation.address s) l

  same_answers_later : (s : Set) (l : List Slot) → SameAnswers s l → SameAnswers s (map (slot_later k) l)
  same_answers_later s [] a = tt
  same_answers_later s (u ∷ l) a = (
    (λ v h. let z = (map-eq-some_iff (answer_later k) u.operation.answer).0 h in sym (ap (λ v. v.value) z.2) ∙ a.0 z.0 z.1),
    same_answers_later (becomes u.operation.kind u.operation.address s) l a.1,
  )

-- ---- the two orders

module _ (H H' : History) (starts : StartsWhere H H') (o : Order H) (o' : Order H') where
  abbrev k : ℕ
  k = H.events

  asked_first : (r : ℕ) → r < H.events → (followed_by H H').asked r ≡ H.asked r
  asked_first r l = rw (lt-ltb r H.events l) refl

  asked_second : (r : ℕ) → H.events ≤ r → (followed_by H H').asked r ≡ Option.map (shifted H.events) (H'.asked (r - H.events))
  asked_second r l = rw (le-ltb r H.events l) refl

  abbrev pub slots_joined : List Slot
  slots_joined = o.slots ++ map (slot_later H.events) o'.slots

  first_stands : (s : Slot) → Stands H s → Stands (followed_by H H') s
  first_stands s x = record {
    asked = asked_first s.request (omega (arith, x.begun, x.there)) ∙ x.asked;
    begun = x.begun;
    there = omega (arith, x.there);
    ended = x.ended;
  }

  second_stands : (s : Slot) → Stands H' s → Stands (followed_by H H') (slot_later k s)
  second_stands s x = let back : k + s.request - k ≡ s.request = omega arith in record {
    asked = asked_second (k + s.request) (omega arith) ∙ rw (back, x.asked) refl;
    begun = omega (arith, x.begun);
    there = omega (arith, x.there);
    ended = λ v h. let z = (map-eq-some_iff (answer_later k) s.operation.answer).0 h in
        let e = x.ended z.0 z.1 in
        (omega (arith, e.0, ap (λ v. v.time) z.2), λ f. e.1 (ap (λ v. v.value) z.2 ∙ f));
  }

  stand_joined : (s : Slot) → Memᴰ s slots_joined → Stands (followed_by H H') s
  stand_joined s m = elim (Memᴰ.append_cases o.slots m) [
    | inl n ↦ first_stands s (o.stand s n)
    | inr n ↦ let z = mapped_from (slot_later k) o'.slots n in rw z.2 at (second_stands z.0 (o'.stand z.0 z.1))
  ]

  abbrev InJoined : (r : ℕ) → Operation → Type 0
  InJoined r p = (t : ℕ) × Memᴰ (record { request = r; operation = p; moment = t }) slots_joined

  -- an operation of the second, answered true or false
  second_whole : (r : ℕ) (p : Operation) (v : Answer) → H'.asked r ≡ some p → p.answer ≡ some v → v.value ≢ fail_answer → InJoined (k + r) (shifted k p)
  second_whole r p v a h n = let z = o'.whole r p v a h n in
      (k + z.0, Memᴰ.append_right o.slots (mapped (slot_later k) o'.slots z.1 refl))

  whole_joined : (r : ℕ) (p : Operation) (v : Answer) → (followed_by H H').asked r ≡ some p → p.answer ≡ some v → v.value ≢ fail_answer → InJoined r p
  whole_joined r p v a h n = elim (dec_lt r k) [ yes l ↦ first l | no l ↦ second (omega arith) ]
    where
      first : r < k → InJoined r p
      first l = let z = o.whole r p v (sym (asked_first r l) ∙ a) h n in (z.0, Memᴰ.append_left (map (slot_later k) o'.slots) z.1)

      second : k ≤ r → InJoined r p
      second l =
          let x = (map-eq-some_iff (shifted k) (H'.asked (r - k))).0 (sym (asked_second r l) ∙ a) in
          let y = (map-eq-some_iff (answer_later k) x.0.answer).0 (ap (λ p. p.answer) x.2 ∙ h) in
          let back : k + (r - k) ≡ r = omega arith in
          rw (back, x.2) at (second_whole (r - k) x.0 y.0 x.1 y.1 (λ f. n (sym (ap (λ v. v.value) y.2) ∙ f)))

  replayed : Replays H.start slots_joined H'.finish
  replayed = replays_joined H.start o.slots (map (slot_later k) o'.slots) H.finish H'.finish
      (record { same = o.answers; is = o.ends })
      (λ s is. subst (λ s. Replays s (map (slot_later k) o'.slots) H'.finish) (same_set H'.start s starts is) (record {
        same = same_answers_later k H'.start o'.slots o'.answers;
        is = rw (worked_later k H'.start o'.slots) o'.ends;
      }))

  pub orders_join : Order (followed_by H H')
  orders_join = record {
    slots = slots_joined;
    stand = stand_joined;
    rising = falls_never_joined 0 k o.slots (map (slot_later k) o'.slots) o.rising (omega arith) (λ s m. (o.stand s m).there)
        (never_falls_later k 0 k o'.slots (omega arith) o'.rising);
    once = none_twice_joined o.slots (map (slot_later k) o'.slots) o.once (none_twice_later k o'.slots o'.once)
        (λ u v m n q. let z = mapped_from (slot_later k) o'.slots n in
        let s = o.stand u m in absurd (omega (arith, s.begun, s.there, ap (λ s. s.request) z.2)));
    whole = whole_joined;
    answers = replayed.same;
    ends = replayed.is;
  }

  -- it is the first order, then the second, later
  pub joined_slots : orders_join.slots ≡ o.slots ++ map (slot_later H.events) o'.slots
  unfolding orders_join
  joined_slots = refl
