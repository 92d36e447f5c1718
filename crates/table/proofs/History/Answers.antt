-- What answers mean in a run from a quiet state, and that a process has at most one unanswered operation. Rests on
-- Strikes and Reads.
use mathlib.Core.Path.{◌≡◌, refl, sym, ◌∙◌, ap, subst}
use mathlib.Core.Logic.{◌≢◌, ◌⊎◌, inl, inr}
use mathlib.Core.Bool.{false}
use mathlib.Core.Option.{some}
use Prim.Native.Nat.{ℕ, suc, ◌<◌}
use native.Mathlib.Omega.{arith}
use native.Mathlib.Decide.{ℕ_discrete}
use Rattle.record.specs.Record.{node, address, insert_kind, delete_kind, find_kind, false_answer, true_answer, fail_answer}
use Rattle.record.specs.declared.Process.{Process}
use Rattle.record.specs.declared.Address.{Address}
use Rattle.record.specs.declared.Record.{Record}
use Rattle.record.specs.declared.Event.{Event}
use Rattle.table.specs.Words.{Memory}
use Rattle.table.specs.Events.{State}
use Rattle.table.specs.History.{Kind, insert, delete, find, Answer, Operation}
use Rattle.table.specs.Demand3.{Quiet, AddressesFit, operation, Current}
use Rattle.table.specs.Answers.{MomentBetween, Answers, CameToBeHeld, CeasedToBeHeld, WasHeld, WasNotHeld, Means, AnswerMeans}
use Rattle.table.proofs.Laws.Numbered.{rank_in, own_in, asked_in, held_node, rank_inner}
use Rattle.table.proofs.Invariant.Moments.{later}
use Rattle.table.proofs.Invariant.Known.{InsertKnown, InsertSays, insert_known, insert_says}
use Rattle.table.proofs.Invariant.Played.{Played, memory_at, record_then, process_at, kind_at, asked_at, IsOperation, answer_to}
use Rattle.table.proofs.Invariant.RunInvariant.{Busy}
use Rattle.table.proofs.Invariant.OpenOperations.{course, busy_of, AnsweredAt, answered, value_true}
use Rattle.table.proofs.Invariant.HeldByPlace.{actor_node, PutBy, Changes, keeps_all, inserted, struck, changes}
use Rattle.table.proofs.Invariant.Winners.{Inserted, inserted_at}
use Rattle.table.proofs.Invariant.Strikes.{StrikeOf, strike_of}
use Rattle.table.proofs.Order.Needs.{AnswerTells}
use Rattle.table.proofs.History.Reads.{operation_is, operation_for, asks_insert, asks_delete, asks_find, kind_asked, held_at, Told, true_or_told}

-- ---- the current operation of a process

module _ (ρ : Played) where
  -- a current operation is what its process works on
  pub current_busy : (T : ℕ) (p : Process) (r : ℕ) → Current ρ.start ρ.events T p r → Busy ρ T p.0 r
  current_busy T p r c =
      let z = operation_is ρ T r _ c.asked in
      let by : process_at ρ r ≡ p.0 = sym (ap (λ o. o.process.0) z.1) in
      subst (λ q. Busy ρ T q r) by (busy_of ρ T r z.0 c.before (sym (ap (λ o. o.answer) z.1)))

-- ---- what an answer means

-- the operation that event r requested, answered a
module _ (ρ : Played) (T r : ℕ) (a : Answer) (is : IsOperation ρ r) (h : answer_to ρ T r ≡ some a) where
  abbrev M : ℕ → Memory
  M = memory_at ρ

  abbrev t : ℕ
  t = a.time

  x : AnsweredAt ρ r a
  x = (answered ρ T r a is h).0

  -- its process and its record then
  abbrev p : Process
  p = (ρ.events r).process

  abbrev R : Record
  R = record_then ρ a.time (process_at ρ r)

  abbrev asks : Address
  asks = address (asked_at ρ r)

  one_of_three : (a.value ≡ true_answer) ⊎ ((a.value ≡ false_answer) ⊎ (a.value ≡ fail_answer))
  one_of_three = elim (ℕ_discrete a.value false_answer) [
    | yes f ↦ inr (inl f)
    | no f ↦ elim (ℕ_discrete a.value fail_answer) [ yes l ↦ inr (inr l) | no l ↦ inl (value_true ρ r a x f l) ]
  ]

  answers : {Yes No : Type 0} → (a.value ≡ true_answer → Yes) → (a.value ≡ false_answer → No) → Answers a.value Yes No
  answers so not_so = record { if_true = so; if_false = not_so; is_one = one_of_three }

  -- ---- true

  -- the insert put its node in
  inserted_by : (s : ℕ) → s < a.time → (c : Changes ρ s) → Inserted ρ c r → PutBy ρ s r
  inserted_by s l (keeps_all k) z = absurd z
  inserted_by s l (inserted r' y) z = rw z at y
  inserted_by s l (struck r' n y) z = absurd z

  came : kind_at ρ r ≡ insert_kind → a.value ≡ true_answer → CameToBeHeld ρ.start ρ.events r a.time p asks
  came k v = record {
    event = s;
    between = record { after = put.busy.before; before = z.1 };
    mine = λ i. record { 0 = sym put.busy.by i };
    free = put.puts.free;
    node = node (actor_node ρ s);
    held = held_node (record {
      on = put.puts.on;
      inner = then.kept.node.inner;
      plain = put.puts.plain (actor_node ρ s) put.new.plain;
      named = omega (arith, rank_inner (M (suc s)) (actor_node ρ s) then.kept.node.inner, rank, then.kept.named, put.busy.named);
    });
    own = λ i. (record_then ρ s (put.busy.by i)).kept.node;
    still_own = λ i. record { 0 = (known.kept.node.given ∙ sym then.kept.node.given) i };
  }
    where
      known : InsertKnown M r a.time R
      known = insert_known k x.busy.known

      says : InsertSays M r a.time (asked_in R) (own_in R) R.lost.pending
      says = insert_says x.place x.status known

      z : (s : ℕ) × (s < a.time) × Inserted ρ (changes ρ s) r
      z = inserted_at ρ r a.time (own_in R) known.kept.node (says.if_true (sym x.value ∙ v))

      s : ℕ
      s = z.0

      put : PutBy ρ z.0 r
      put = inserted_by z.0 z.1 (changes ρ z.0) z.2

      then : InsertKnown M r z.0 (record_then ρ z.0 (process_at ρ z.0))
      then = insert_known k put.busy.known

      rank : rank_in (M (suc z.0)) (actor_node ρ z.0) ≡ rank_in (M z.0) (actor_node ρ z.0)
      rank = (later (course ρ (suc z.0)) z.0 (omega arith)).ranks (actor_node ρ z.0) then.kept.node.used

  -- the delete's node was struck, by its own step or another's
  ceased : kind_at ρ r ≡ delete_kind → a.value ≡ true_answer → CeasedToBeHeld ρ.start ρ.events r a.time p asks
  ceased k v = record {
    event = z.at_event;
    between = record { after = z.after; before = z.before };
    node = node (own_in R);
    held = held_node z.takes.held;
    free = λ w. absurd (((z.takes.removes (asked_at ρ r)).0 w).0 refl);
    own = refl;
  }
    where
      z : StrikeOf ρ r (own_in R) a
      z = strike_of ρ (record { is = is; kind = k; answer = h; value = v; node = refl })

  -- ---- false, and finds

  told : a.value ≢ fail_answer → ((a.value ≡ true_answer) × ((kind_at ρ r ≡ insert_kind) ⊎ (kind_at ρ r ≡ delete_kind))) ⊎ Told ρ (λ x. false) T r a is h
  told = true_or_told ρ (λ x. false) T r a is h

  -- a moment that agrees with an answer that changed nothing
  was : (k : Kind) → kind_asked (ρ.events r).action ≡ k → (w : Told ρ (λ x. false) T r a is h) → AnswerTells k a.value (held_at ρ w.moment asks)
  was k q w = rw q at w.tells

  between : (w : Told ρ (λ x. false) T r a is h) → MomentBetween r a.time w.moment
  between w = record { after = w.begun; upto = w.ended }

  held_then : (w : Told ρ (λ x. false) T r a is h) → held_at ρ w.moment asks → WasHeld ρ.start ρ.events r a.time p asks
  held_then w y = record { moment = w.moment; between = between w; held = y }

  free_then : (w : Told ρ (λ x. false) T r a is h) → (held_at ρ w.moment asks → ⊥) → WasNotHeld ρ.start ρ.events r a.time p asks
  free_then w y = record { moment = w.moment; between = between w; free = y }

  insert_means : kind_at ρ r ≡ insert_kind → Means ρ.start ρ.events r a.time p asks insert a.value
  insert_means k = answers (came k) (λ v. elim (told (λ f. absurd (omega arith))) [
    | inl z ↦ absurd (omega (arith, z.0))
    | inr w ↦ held_then w (was insert (asks_insert (ρ.events r).action k) w).1
  ])

  delete_means : kind_at ρ r ≡ delete_kind → Means ρ.start ρ.events r a.time p asks delete a.value
  delete_means k = answers (ceased k) (λ v. elim (told (λ f. absurd (omega arith))) [
    | inl z ↦ absurd (omega (arith, z.0))
    | inr w ↦ free_then w (was delete (asks_delete (ρ.events r).action k) w).1
  ])

  find_means : kind_at ρ r ≡ find_kind → Means ρ.start ρ.events r a.time p asks find a.value
  find_means k = answers
      (λ v. elim (told (λ f. absurd (omega arith))) [
        | inl z ↦ elim z.1 [ inl i ↦ absurd (omega arith) | inr d ↦ absurd (omega arith) ]
        | inr w ↦ elim (was find (asks_find (ρ.events r).action k) w) [ inl y ↦ held_then w y.1 | inr y ↦ absurd (omega (arith, y.0)) ]
      ])
      (λ v. elim (told (λ f. absurd (omega arith))) [
        | inl z ↦ absurd (omega (arith, z.0))
        | inr w ↦ elim (was find (asks_find (ρ.events r).action k) w) [ inl y ↦ absurd (omega (arith, y.0)) | inr y ↦ free_then w y.1 ]
      ])

  means : Means ρ.start ρ.events r a.time p asks (kind_asked (ρ.events r).action) a.value
  means = elim (ℕ_discrete (kind_at ρ r) insert_kind) [
    | yes k ↦ rw (asks_insert (ρ.events r).action k) (insert_means k)
    | no i ↦ elim (ℕ_discrete (kind_at ρ r) delete_kind) [
      | yes k ↦ rw (asks_delete (ρ.events r).action k) (delete_means k)
      | no d ↦ let k : kind_at ρ r ≡ find_kind = omega (arith, is.request) in rw (asks_find (ρ.events r).action k) (find_means k)
    ]
  ]

module _ (σ₀ : State) (e : ℕ → Event) (quiet : Quiet σ₀) (fit : AddressesFit e) where
  abbrev ρ : Played
  ρ = record { start = σ₀; events = e; quiet = quiet; fit = fit }

  -- a process has at most one unanswered operation
  pub current_unique : (T : ℕ) (p : Process) (r r' : ℕ) → Current σ₀ e T p r → Current σ₀ e T p r' → r ≡ r'
  current_unique T p r r' c c' = let b = current_busy ρ T p r c in let b' = current_busy ρ T p r' c' in
      b'.only r b.is b.before b.by b.opened

  -- every answer means what it should
  pub answer_means : (T r : ℕ) (o : Operation) (v : Answer) → operation σ₀ e T r ≡ some o → o.answer ≡ some v → AnswerMeans σ₀ e T r o v
  answer_means T r o v q h = record {
    after = x.0.busy.before;
    within = x.1;
    means = subst (λ o. Means σ₀ e r v.time o.process o.address o.kind v.value) (sym z.1) (means ρ T r v z.0 answered_so);
  }
    where
      z : IsOperation ρ r × (o ≡ operation_for (e r) (answer_to ρ T r))
      z = operation_is ρ T r o q

      answered_so : answer_to ρ T r ≡ some v
      answered_so = sym (ap (λ o. o.answer) z.1) ∙ h

      x : AnsweredAt ρ r v × (v.time < T)
      x = answered ρ T r v z.0 answered_so
