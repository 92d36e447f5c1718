-- Which operation takes effect at which event, as seen at the end of the run: an insert at its swap at 4; for a strike the delete of the node's
-- deleter, or the marker's where there is none. It takes effect once, and does so if it is answered true. Rests on Deleters.
use mathlib.Core.Option.{some-ne-none, some-injective}
use Rattle.table.proofs.Common.{◌≡◌, refl, sym, ◌∙◌, ap, ◌≢◌, ◌⊎◌, inl, inr, ◌↔◌, some, ℕ, zero, suc, ◌+◌, ◌≤◌, ◌<◌, arith, ℕ_discrete, dec_le}
use Rattle.table.proofs.Common.{dec_lt, node, insert_kind, delete_kind, true_answer, Record, Memory, Answer}
use Rattle.basics.proofs.Tests.{none_or_some}
use Rattle.table.proofs.Laws.Numbered.{link_in, deleter_in, Used, own_in, asked_in, Marked, Plain, On, HeldIn, next_in, used_not_next}
use Rattle.table.proofs.Invariant.Moments.{marked_later, later, inner, rank_held, plain_unsigned, used_now, rank_now, signed_now, GivenAt}
use Rattle.table.proofs.Invariant.Moments.{given_once, comes_to_be, begins_between, marked_or_not}
use Rattle.table.proofs.Invariant.Known.{BeenOn, New, SawHeld, InsertSays, InsertKnown, DeleteKnown, insert_known, insert_says, delete_says}
use Rattle.table.proofs.Invariant.Played.{Played, memory_at, record_then, process_at, kind_at, asked_at, IsOperation, answer_to, answer_later_lem}
use Rattle.table.proofs.Invariant.OpenOperations.{course, orderly, AnsweredAt, answered, open_till, value_true}
use Rattle.table.proofs.Invariant.HeldChanges.{TakesHeld}
use Rattle.table.proofs.Invariant.HeldByPlace.{actor_node, PutBy, StruckBy, Changes, keeps_all, inserted, struck, changes}
use Rattle.table.proofs.Invariant.Deleters.{Marker, Deleting, delete_is, delete_saw, delete_used, OpenOrTrue, deleter_open_or_true}
use Rattle.table.proofs.Invariant.Deleters.{marker_open_till_signed, after_strike, SignedBy, signed_by}

module _ (ρ : Played) where
  abbrev M : ℕ → Memory
  M = memory_at ρ

  abbrev R : (t p : ℕ) → Record
  R = record_then ρ

  -- an insert puts in the node that was given out at its request
  pub record InsertEffect (t r : ℕ) : Type 0 where
    pub kind : kind_at ρ r ≡ insert_kind
    pub new : New M t (next_in (M r))
    pub on : On (M (suc t)) (next_in (M r))
    pub free : HeldIn (M t) (asked_at ρ r) → ⊥
    pub adds : (x : ℕ) → HeldIn (M (suc t)) x ↔ ((x ≡ asked_at ρ r) ⊎ HeldIn (M t) x)

  -- a delete's node n is struck, and n has no deleter at the end or r wrote it
  pub record DeleteEffect (T t r : ℕ) : Type 0 where
    pub kind : kind_at ρ r ≡ delete_kind
    pub n : ℕ
    pub takes : TakesHeld (M t) (M (suc t)) n (asked_at ρ r)
    pub node : OpenOrTrue ρ (process_at ρ r) r n T
    pub signer : (deleter_in (M T) n ≡ 0) ⊎ ((x : SignedBy ρ t T n (process_at ρ r)) × (x.op ≡ r))

  -- the operation r takes effect at event t
  pub record TakesEffect (T t r : ℕ) : Type 0 where
    pub is : IsOperation ρ r
    pub begun : r < suc t
    pub ended : (a : Answer) → answer_to ρ T r ≡ some a → (suc t ≤ a.time) × (a.value ≡ true_answer)
    pub does : InsertEffect t r ⊎ DeleteEffect T t r

  -- ---- inserts

  insert_takes_effect : (T t r : ℕ) → PutBy ρ t r → TakesEffect T t r
  insert_takes_effect T t r p = record { is = p.busy.is; begun = omega (arith, p.busy.before); ended = ended; does = inl effect }
    where
      given : actor_node ρ t ≡ next_in (M r)
      given = (insert_known p.kind p.busy.known).kept.node.given

      effect : InsertEffect t r
      effect = record {
        kind = p.kind;
        new = rw given at p.new;
        on = rw given at p.puts.on;
        free = p.puts.free;
        adds = p.puts.adds;
      }

      ended : (a : Answer) → answer_to ρ T r ≡ some a → (suc t ≤ a.time) × (a.value ≡ true_answer)
      ended a h = (lt, value_true ρ r a x (λ v. bad (says.if_false (sym x.value ∙ v)).0) (λ v. bad (says.if_fail (sym x.value ∙ v))))
        where
          x : AnsweredAt ρ r a
          x = (answered ρ T r a p.busy.is h).0

          Q : Record
          Q = R a.time (process_at ρ r)

          known : InsertKnown M r a.time (R a.time (process_at ρ r))
          known = insert_known p.kind x.busy.known

          says : InsertSays M r a.time (asked_in Q) (own_in Q) Q.lost.pending
          says = insert_says x.place x.status known

          ne : a.time ≢ t
          ne z = p.new.never (t, omega arith, rw (ap (λ s. M (suc s)) (sym z) ∙ x.memory ∙ ap M z) at p.puts.on)

          lt : suc t ≤ a.time
          lt = omega (arith, open_till ρ t T (process_at ρ t) r a p.busy h, ne)

          bad : New M a.time (own_in Q) → ⊥
          bad f = f.never (suc t, lt, rw (given ∙ sym known.kept.node.given) at p.puts.on)

  -- ---- deletes: a strike of n at t, by the delete r

  module _ (T : ℕ) {t r n : ℕ} (before_end : t < T) (s : StruckBy ρ t r n) where
    n0 : n ≢ 0
    n0 z = absurd (omega (arith, s.takes.held.inner))

    plain : Plain (M t) n
    plain = s.takes.held.plain

    used : Used (M t) n
    used = (orderly ρ t).used n s.takes.held.on

    marked_since : (w : ℕ) → suc t ≤ w → Marked (M w) n
    marked_since w l = marked_later (later (course ρ w) (suc t) l) n (((course ρ (suc t)).keeps t (omega arith)).used n used) s.takes.marked

    struck_then : Deleting ρ (suc t) (process_at ρ t) r × (own_in (R (suc t) (process_at ρ t)) ≡ n) × Marker (R (suc t) (process_at ρ t))
    struck_then = after_strike ρ t (process_at ρ t) r n refl (record {
      busy = s.busy;
      kind = s.kind;
    }) s.node s.takes.held.inner plain s.takes.marked

    -- no deleter at the end: the marker's delete is still open
    pub marker_open : deleter_in (M T) n ≡ 0 → Deleting ρ T (process_at ρ t) r × (own_in (R T (process_at ρ t)) ≡ n)
    marker_open z = elim
        (marker_open_till_signed ρ (suc t) T (process_at ρ t) r n before_end struck_then.0 struck_then.1 n0 s.takes.marked
        struck_then.2) [
          | inl y ↦ absurd (y z)
          | inr y ↦ (y.0, y.1)
        ]

    -- a deleter p at the end: who wrote it, and that its delete is open or answered true
    pub signer : (p : ℕ) → deleter_in (M T) n ≡ p + 1 → SignedBy ρ t T n p
    signer p z = signed_by ρ t T n p (omega arith) n0 used (plain_unsigned (orderly ρ t) n s.takes.held.on plain) z

    pub signer_open_or_true : (p : ℕ) (x : SignedBy ρ t T n p) → OpenOrTrue ρ p x.op n T
    signer_open_or_true p x = deleter_open_or_true ρ (suc x.at_event) T p x.op n x.upto x.deleting_after x.node_after n0 x.signed

    by_marker : deleter_in (M T) n ≡ 0 → TakesEffect T t r
    by_marker z = record {
      is = s.busy.is;
      begun = omega (arith, s.busy.before);
      ended = λ a h. absurd (some-ne-none a (sym h ∙ (marker_open z).0.busy.opened));
      does = inr (record {
        kind = s.kind;
        n = n;
        takes = s.takes;
        node = inl (rw s.busy.by (marker_open z));
        signer = inl z;
      });
    }

    by_deleter : (p : ℕ) → deleter_in (M T) n ≡ p + 1 → (r' : ℕ) × TakesEffect T t r'
    by_deleter p z = (
      x.op,
      record {
        is = x.deleting.busy.is;
        begun = omega (arith, saw.since.after, before);
        ended = λ a h. (omega (arith, x.from, open_till ρ (suc x.at_event) T p x.op a x.deleting_after.busy h), value a h fate);
        does = inr (record {
          kind = x.deleting.kind;
          n = n;
          takes = rw same_address at s.takes;
          node = rw x.deleting.busy.by fate;
          signer = inr (rw x.deleting.busy.by (x, refl));
        });
      },
    )
      where
        x : SignedBy ρ t T n p
        x = signer p z

        saw : SawHeld M x.op x.at_event (asked_at ρ x.op) n
        saw = delete_saw ρ x.deleting n x.node_then n0

        -- it saw n plain before the strike, so the strike lies after its request
        before : saw.w ≤ t
        before = elim (dec_le saw.w t) [ yes l ↦ l | no l ↦ absurd (omega (arith, marked_since saw.w (omega arith), saw.plain)) ]

        same_address : asked_at ρ r ≡ asked_at ρ x.op
        same_address = omega (
          arith,
          rank_held (M t) (asked_at ρ r) n s.takes.held,
          rank_now (course ρ t) saw.w before saw.on,
          saw.named,
        )

        fate : OpenOrTrue ρ p x.op n T
        fate = signer_open_or_true p x

        value : (a : Answer) → answer_to ρ T x.op ≡ some a → OpenOrTrue ρ p x.op n T → a.value ≡ true_answer
        value a h (inl y) = absurd (some-ne-none a (sym h ∙ y.0.busy.opened))
        value a h (inr y) = let q : y.0 ≡ a = some-injective y.0 a (sym y.1 ∙ h) in sym (ap (λ v. v.value) q) ∙ y.2

    winner : (r' : ℕ) × TakesEffect T t r'
    winner = by_word (deleter_in (M T) n) refl
      where
        by_word : (v : ℕ) → deleter_in (M T) n ≡ v → (r' : ℕ) × TakesEffect T t r'
        by_word zero z = (r, by_marker z)
        by_word (suc p) z = by_deleter p (omega arith)

  -- ---- who takes effect at event t

  pub data Winner (T t : ℕ) : Type 0 where
    nobody : ((x : ℕ) → HeldIn (M (suc t)) x ↔ HeldIn (M t) x) → Winner T t
    somebody : (r : ℕ) → TakesEffect T t r → Winner T t

  winner_of : (T t : ℕ) → t < T → Changes ρ t → Winner T t
  winner_of T t l (keeps_all h) = nobody h.same
  winner_of T t l (inserted r x) = somebody r (insert_takes_effect T t r x)
  winner_of T t l (struck r n s) = somebody (winner T l s).0 (winner T l s).1

  pub winner_at : (T t : ℕ) → t < T → Winner T t
  winner_at T t l = winner_of T t l (changes ρ t)

  abbrev pub Wins : {T t : ℕ} → Winner T t → ℕ → Type 0
  Wins (nobody h) r = ⊥
  Wins (somebody r' m) r = r' ≡ r

  -- ---- an operation takes effect once

  nodes_agree : (T r n n' : ℕ) → OpenOrTrue ρ (process_at ρ r) r n T → OpenOrTrue ρ (process_at ρ r) r n' T → n ≡ n'
  nodes_agree T r n n' (inl x) (inl y) = sym x.1 ∙ y.1
  nodes_agree T r n n' (inl x) (inr y) = absurd (some-ne-none y.0 (sym y.1 ∙ x.0.busy.opened))
  nodes_agree T r n n' (inr x) (inl y) = absurd (some-ne-none x.0 (sym x.1 ∙ y.0.busy.opened))
  nodes_agree T r n n' (inr x) (inr y) =
      sym x.3 ∙ ap (λ v. own_in (R v.time (process_at ρ r))) (some-injective x.0 y.0 (sym x.1 ∙ y.1)) ∙ y.3

  not_before : (T t t' r : ℕ) → TakesEffect T t r → TakesEffect T t' r → t < t' → ⊥
  not_before T t t' r m m' l = cases m.does m'.does
    where
      cases : InsertEffect t r ⊎ DeleteEffect T t r → InsertEffect t' r ⊎ DeleteEffect T t' r → ⊥
      cases (inl x) (inl y) = y.new.never (suc t, l, x.on)
      cases (inl x) (inr y) = omega (arith, x.kind, y.kind)
      cases (inr x) (inl y) = omega (arith, x.kind, y.kind)
      cases (inr x) (inr y) = let q : x.n ≡ y.n = nodes_agree T r x.n y.n x.node y.node in
          omega (
            arith,
            marked_later (later (course ρ t') (suc t) l) x.n
                (((course ρ (suc t)).keeps t (omega arith)).used x.n ((orderly ρ t).used x.n x.takes.held.on)) x.takes.marked,
            ap (λ z. link_in (M t') z) q,
            y.takes.held.plain,
          )

  pub effect_once : (T t t' r : ℕ) → TakesEffect T t r → TakesEffect T t' r → t ≡ t'
  effect_once T t t' r m m' = elim (dec_lt t t') [
    | yes l ↦ absurd (not_before T t t' r m m' l)
    | no l ↦ elim (dec_lt t' t) [ yes l' ↦ absurd (not_before T t' t r m' m l') | no l' ↦ omega arith ]
  ]

  -- ---- an insert answered true took effect

  abbrev pub Inserted : {t : ℕ} → Changes ρ t → ℕ → Type 0
  Inserted (keeps_all h) r = ⊥
  Inserted (inserted r' x) r = r' ≡ r
  Inserted (struck r' n s) r = ⊥

  wins_inserted : (T t r : ℕ) (l : t < T) (x : Changes ρ t) → Inserted x r → Wins (winner_of T t l x) r
  unfolding winner_of
  wins_inserted T t r l (keeps_all h) z = z
  wins_inserted T t r l (inserted r' x) z = z
  wins_inserted T t r l (struck r' n s) z = absurd z

  -- when the node given out at r came onto the chain
  pub inserted_at : (r T n : ℕ) → GivenAt M r T n → BeenOn M T n → (t : ℕ) × (t < T) × Inserted (changes ρ t) r
  inserted_at r T n g u = elim (dec_le r u.0) [
    | yes l ↦ let z = comes_to_be (λ t. On (M t) n) (λ t. Inserted (changes ρ t) r) r u.0 l
        (λ o. used_not_next (M r) n ((orderly ρ r).used n o) g.given)
        (λ t l. by t l (changes ρ t)) u.2 in
        (z.0, omega (arith, z.2, u.1), z.3)
    | no l ↦ absurd (used_not_next (M r) n (used_now (course ρ r) u.0 (omega arith) u.2) g.given)
  ]
    where
      by : (t : ℕ) → r ≤ t → (x : Changes ρ t) → On (M (suc t)) n → On (M t) n ⊎ Inserted x r
      by t l (keeps_all h) o = inl (h.chain n o)
      by t l (struck r' n' s) o = inl (s.takes.chain n o)
      by t l (inserted r' x) o = elim (x.puts.chain n o) [
        | inl y ↦ inl y
        | inr y ↦ inr
            (given_once (course ρ t) (omega (arith, x.busy.before)) l (rw (sym y) at (insert_known x.kind x.busy.known).kept.node) g)
      ]

  pub true_insert_wins : (T r : ℕ) (a : Answer) → IsOperation ρ r → kind_at ρ r ≡ insert_kind → answer_to ρ T r ≡ some a → a.value ≡ true_answer
      → (t : ℕ) × (l : t < T) × Wins (winner_at T t l) r
  unfolding winner_at
  true_insert_wins T r a io kind h v = let z = inserted_at r a.time (own_in Q) known.kept.node
      (says.if_true (sym x.0.value ∙ v)) in
      (z.0, omega (arith, z.1, x.1), wins_inserted T z.0 r (omega (arith, z.1, x.1)) (changes ρ z.0) z.2)
    where
      x : AnsweredAt ρ r a × (a.time < T)
      x = answered ρ T r a io h

      Q : Record
      Q = R a.time (process_at ρ r)

      known : InsertKnown M r a.time (R a.time (process_at ρ r))
      known = insert_known kind x.0.busy.known

      says : InsertSays M r a.time (asked_in Q) (own_in Q) Q.lost.pending
      says = insert_says x.0.place x.0.status known

  -- ---- a delete answered true

  pub record Won (T r n : ℕ) (a : Answer) : Type 0 where
    pub is : IsOperation ρ r
    pub kind : kind_at ρ r ≡ delete_kind
    pub answer : answer_to ρ T r ≡ some a
    pub value : a.value ≡ true_answer
    pub node : own_in (R a.time (process_at ρ r)) ≡ n

  module _ {T r n : ℕ} {a : Answer} (wn : Won T r n a) where
    pub won_at : AnsweredAt ρ r a × (a.time < T)
    won_at = answered ρ T r a wn.is wn.answer

    won_known : DeleteKnown M r a.time (process_at ρ r) (R a.time (process_at ρ r))
    won_known = delete_is ρ (record { busy = won_at.0.busy; kind = wn.kind })

    won_says : SawHeld M r a.time (asked_in (R a.time (process_at ρ r))) n × (deleter_in (M a.time) n ≡ process_at ρ r + 1)
    won_says = rw wn.node at ((delete_says won_at.0.place won_at.0.status won_known).if_true (sym won_at.0.value ∙ wn.value))

    pub won_saw : SawHeld M r a.time (asked_in (R a.time (process_at ρ r))) n
    won_saw = won_says.0

    pub won_inner : 2 ≤ n
    won_inner = inner (M won_saw.w) n (asked_in (R a.time (process_at ρ r))) won_saw.named won_known.kept.small

    won_deleter : (t : ℕ) → a.time ≤ t → deleter_in (M t) n ≡ process_at ρ r + 1
    won_deleter t l = (later (course ρ t) a.time l).signed n
        (used_now (course ρ a.time) won_saw.w won_saw.since.upto won_saw.on) (λ q. absurd (omega (arith, won_says.1)))
        ∙ won_says.1

    pub won_marked : Marked (M a.time) n
    won_marked = signed_now (course ρ a.time) won_saw.w won_saw.since.upto won_saw.on (λ q. absurd (omega (arith, won_says.1)))

    -- it is the one that wrote the deleter
    signer_is : (w p : ℕ) (x : SignedBy ρ w T n p) → r ≡ x.op
    signer_is w p x = x.deleting.busy.only r wn.is (omega (arith, won_saw.since.after, saw_before)) by
        (elim (none_or_some (answer_to ρ x.at_event r)) [
          | inl q ↦ q
          | inr q ↦ absurd (some-ne-none q.0
              (sym (answer_later_lem ρ x.at_event a.time r q.0 (omega (arith, signed_before)) q.1) ∙ won_at.0.busy.opened))
        ])
      where
        n0 : n ≢ 0
        n0 z = absurd (omega (arith, won_inner))

        after_saw : SawHeld M x.op (suc x.at_event) (asked_at ρ x.op) n
        after_saw = delete_saw ρ x.deleting_after n x.node_after n0

        us : Used (M (suc x.at_event)) n
        us = delete_used ρ x.deleting_after n x.node_after n0

        by : process_at ρ r ≡ p
        by = omega (
          arith,
          won_deleter T (omega (arith, won_at.1)),
          (later (course ρ T) (suc x.at_event) x.upto).signed n us (λ q. absurd (omega (arith, x.signed))),
          x.signed,
        )

        -- it was marked when it was signed, so that r saw it plain before
        sk : Marked (M (suc x.at_event)) n
        sk = signed_now (course ρ (suc x.at_event)) after_saw.w after_saw.since.upto after_saw.on (λ q. absurd (omega (arith, x.signed)))

        saw_before : won_saw.w ≤ x.at_event
        saw_before = elim (dec_le won_saw.w x.at_event) [
          | yes l ↦ l
          | no l ↦ absurd (omega (
            arith,
            marked_later (later (course ρ won_saw.w) (suc x.at_event) (omega arith)) n us sk,
            won_saw.plain,
          ))
        ]

        signed_before : x.at_event < a.time
        signed_before = elim (dec_lt x.at_event a.time) [
          | yes l ↦ l
          | no l ↦ absurd (x.was (won_deleter x.at_event (omega arith) ∙ ap (λ y. y + 1) by))
        ]

  abbrev pub Strikes : {t : ℕ} → Changes ρ t → ℕ → Type 0
  Strikes (keeps_all h) n = ⊥
  Strikes (inserted r' x) n = ⊥
  Strikes (struck r' n' s) n = n' ≡ n

  -- an event that marks n strikes it
  pub strikes_now : (t n : ℕ) → Plain (M t) n → Marked (M (suc t)) n → (x : Changes ρ t) → Strikes x n
  strikes_now t n pl sk (keeps_all h) = absurd (omega (arith, h.plain n pl))
  strikes_now t n pl sk (inserted r' x) = absurd (omega (arith, x.puts.plain n pl))
  strikes_now t n pl sk (struck r' n' s) = elim (ℕ_discrete n n') [ yes y ↦ sym y | no y ↦ absurd (omega (arith, s.takes.plain n y pl)) ]

  -- when a node came to be struck
  pub strike_at : (w T n : ℕ) → w ≤ T → Plain (M w) n → Marked (M T) n → (t : ℕ) × (w ≤ t) × (t < T) × Strikes (changes ρ t) n
  strike_at w T n le pl sk = let z = begins_between (λ t. Marked (M t) n) (λ t. marked_or_not (M t) n) w T le (λ q. absurd (omega arith)) sk in
      (z.0, z.1, z.2, strikes_now z.0 n (omega (arith, z.3.0)) z.3.1 (changes ρ z.0))

  wins_struck : (T t r n : ℕ) (a : Answer) → Won T r n a → (l : t < T) (x : Changes ρ t) → Strikes x n → Wins (winner_of T t l x) r
  unfolding winner_of
  wins_struck T t r n a wn l (keeps_all h) z = z
  wins_struck T t r n a wn l (inserted r' x) z = absurd z
  wins_struck T t r n a wn l (struck r' n' s) z = go (winner T l s).1.does
    where
      r'' : ℕ
      r'' = (winner T l s).0

      go : InsertEffect t r'' ⊎ DeleteEffect T t r'' → r'' ≡ r
      go (inl m) = absurd (m.new.never (t, omega arith, s.takes.chain (next_in (M r'')) m.on))
      go (inr m) = by m.signer
        where
          nn : m.n ≡ n
          nn = elim (ℕ_discrete m.n n') [
            | yes y ↦ y ∙ z
            | no y ↦ absurd (omega (arith, s.takes.plain m.n y m.takes.held.plain, m.takes.marked))
          ]

          by : (deleter_in (M T) m.n ≡ 0) ⊎ ((x : SignedBy ρ t T m.n (process_at ρ r'')) × (x.op ≡ r'')) → r'' ≡ r
          by (inl y) = absurd (omega (arith, ap (deleter_in (M T)) nn, won_deleter wn T (omega (arith, (won_at wn).1))))
          by (inr y) = sym (signer_is wn t (process_at ρ r'') mine.0 ∙ mine.1)
            where
              mine : (x : SignedBy ρ t T n (process_at ρ r'')) × (x.op ≡ r'')
              mine = rw nn at y

  pub true_delete_wins : (T r : ℕ) (a : Answer) → IsOperation ρ r → kind_at ρ r ≡ delete_kind → answer_to ρ T r ≡ some a → a.value ≡ true_answer
      → (t : ℕ) × (l : t < T) × Wins (winner_at T t l) r
  unfolding winner_at
  true_delete_wins T r a io kind h v = let z = strike_at saw.w a.time n saw.since.upto saw.plain (won_marked wn) in
      (z.0, lt z.0 z.2, wins_struck T z.0 r n a wn (lt z.0 z.2) (changes ρ z.0) z.3)
    where
      n : ℕ
      n = own_in (R a.time (process_at ρ r))

      wn : Won T r (own_in (R a.time (process_at ρ r))) a
      wn = record { is = io; kind = kind; answer = h; value = v; node = refl }

      saw : SawHeld M r a.time (asked_in (R a.time (process_at ρ r))) (own_in (R a.time (process_at ρ r)))
      saw = won_saw wn

      lt : (t : ℕ) → t < a.time → t < T
      lt t l = omega (arith, (won_at wn).1)

  -- two deletes of one node answered true are one
  pub won_once : (T n r r' : ℕ) (a a' : Answer) → Won T r n a → Won T r' n a' → r ≡ r'
  won_once T n r r' a a' wn wn' = signer_is wn saw.w (process_at ρ r) x ∙ sym (signer_is wn' saw.w (process_at ρ r) x)
    where
      saw : SawHeld M r a.time (asked_in (R a.time (process_at ρ r))) n
      saw = won_saw wn

      x : SignedBy ρ saw.w T n (process_at ρ r)
      x = signed_by ρ saw.w T n (process_at ρ r) (omega (arith, saw.since.upto, (won_at wn).1))
          (λ z. absurd (omega (arith, won_inner wn)))
          ((orderly ρ saw.w).used n saw.on) (plain_unsigned (orderly ρ saw.w) n saw.on saw.plain)
          (won_deleter wn T (omega (arith, (won_at wn).1)))
