-- Who strikes a node and who becomes its deleter: the marker's delete stays open until a deleter is written; the deleter's delete stays open or is
-- answered true; and which operation wrote a deleter. Rests on HeldByPlace.
use Rattle.table.proofs.Common.{◌≡◌, sym, ◌∙◌, ap, subst, ◌≢◌, ◌⊎◌, inl, inr, not, ◌&&◌, false≢true, some, ℕ, suc, ◌+◌, ◌%◌, ◌≤◌, ◌<◌, arith}
use Rattle.table.proofs.Common.{ℕ_discrete, le_ind, eqb, eq-eqb, ne_eqb, running_status, insert_kind, delete_kind, no_answer, false_answer, true_answer, fail_answer, kind_of}
use Rattle.table.proofs.Common.{Record, Action, Memory, is_marked, written, Place, p5, p6, p7, p8, p9, p10, p13, p15, p16, p17, place_of, row}
use Rattle.table.proofs.Common.{word_met, Answer}
use Rattle.basics.proofs.Tests.{if, if_eq, if_ne}
use Rattle.table.proofs.Laws.Numbered.{link_in, deleter_in, Used, pred_in, curr_in, succ_in, own_in, asked_in, plain_to, Marked, Plain, used_not_next}
use Rattle.table.proofs.Laws.Numbered.{given_deleter_else}
use Rattle.table.proofs.Laws.Ranges.{result_in_range, pending_in_range, pending_19}
use Rattle.table.proofs.Invariant.Effects.{does_signs}
use Rattle.table.proofs.Invariant.Moments.{marked_later, later, used_now, Begins, begins_between}
use Rattle.table.proofs.Invariant.Known.{SawHeld, DeleteSays, DeleteAt, delete_5, delete_6, delete_7, delete_8, delete_9, delete_10, delete_13}
use Rattle.table.proofs.Invariant.Known.{delete_15, delete_16, delete_17, DeleteKnown, delete_node, delete_known, delete_says}
use Rattle.table.proofs.Invariant.KnownWrites.{goes_at, writes_at}
use Rattle.table.proofs.Invariant.Played.{Played, memory_at, record_then, process_at, kind_at, asked_at, answer_to, answer_stays}
use Rattle.table.proofs.Invariant.RunInvariant.{Busy}
use Rattle.table.proofs.Invariant.OpenOperations.{course, orderly, Ends, Turns, untouched, stopped, started, moves, ends, turns}
use Rattle.table.proofs.Invariant.HeldByPlace.{HeldByPlace, added, removed, stays, Effect, leaves_it, gives_out, acts, effect, acts_does}
use Rattle.table.proofs.Invariant.HeldByPlace.{by_event}

-- where the delete that marked its node can stand while the node has no deleter
pub data MarkerAt : Place → Type 0 where
  marker_6 : MarkerAt p6
  marker_7 : MarkerAt p7
  marker_8 : MarkerAt p8
  marker_9 : MarkerAt p9
  marker_13 : MarkerAt p13
  marker_15 : MarkerAt p15
  marker_16 : MarkerAt p16

abbrev pub Marker : Record → Type 0
Marker Q = Q.kept.status ≡ running_status → MarkerAt (place_of Q.lost.place)

module _ (M : ℕ → Memory) (r t p : ℕ) (Q : Record) where
  signed_10 : DeleteAt M r t p Q p10 → deleter_in (M t) (curr_in Q) ≢ 0
  signed_10 (delete_10 x d) = d

  signed_17 : DeleteAt M r t p Q p17 → deleter_in (M t) (own_in Q) ≢ 0
  signed_17 (delete_17 x d) = d

  -- at place 5 the record has no node yet
  no_node_5 : DeleteAt M r t p Q p5 → own_in Q ≡ 0
  no_node_5 (delete_5 b x y) = b.node

-- ---- a step of a marker

module _ (M : ℕ → Memory) (r t p : ℕ) (Q : Record) (st : Q.kept.status ≡ running_status) (o : DeleteKnown M r t p Q) where
  abbrev n : ℕ
  n = own_in Q

  -- the node is signed by the step, or the record still stands where a marker can
  abbrev SignedOrMarker : Record → Type 0
  SignedOrMarker Q' = DeleteKnown M r (suc t) p Q' → (deleter_in (M (suc t)) (own_in Q) ≢ 0) ⊎ Marker Q'

  marker_goes : own_in Q ≢ 0 → Marked (M t) (own_in Q) → Q.kept.result ≤ 2 → (l : Place) → MarkerAt l → DeleteAt M r t p Q l
      → SignedOrMarker (goes_at l (M t) p Q)
  unfolding row word_met place_of
  marker_goes n0 sk rs l marker_6 (delete_6 x) = if SignedOrMarker (is_marked (link_in (M t) (curr_in Q))) (λ z q. inr (λ u. marker_8))
      (λ z q. inr (λ u. marker_7))
  marker_goes n0 sk rs l marker_7 (delete_7 x u) = if SignedOrMarker (eqb (link_in (M t) (curr_in Q)) (plain_to (succ_in Q)))
      (λ z q. inr (λ u. marker_6)) (λ z q. inr (λ u. marker_6))
  marker_goes n0 sk rs l marker_8 (delete_8 x m) = if SignedOrMarker (eqb (link_in (M t) (pred_in Q)) (plain_to (curr_in Q)))
      (λ z q. inr (λ u. marker_9)) (λ z q. inr (λ u. marker_9))
  marker_goes n0 sk rs l marker_9 (delete_9 x m) =
      λ q. inl (λ z. signed_10 M r (suc t) p _ (q.place st) (ap (deleter_in (M (suc t))) (sym x.node) ∙ z))
  marker_goes n0 sk rs l marker_13 delete_13 = if_ne SignedOrMarker Q.kept.result no_answer
      (λ z q. inl (kept_answer z q.kept.said))
      (λ z. if_eq SignedOrMarker Q.kept.kind insert_kind (λ y. absurd (omega (arith, o.kept.kind_is)))
      (λ y. if SignedOrMarker (eqb Q.kept.kind delete_kind && not (eqb n 0)) (λ w q. inr (λ u. marker_15))
      (λ w q. absurd (false≢true (sym (rw (eq-eqb Q.kept.kind delete_kind o.kept.kind_is, ne_eqb n 0 n0) at w))))))
    where
      kept_answer : Q.kept.result ≢ no_answer → DeleteSays M r (suc t) p (asked_in Q) n Q.kept.result → deleter_in (M (suc t)) n ≢ 0
      kept_answer z s = elim (ℕ_discrete Q.kept.result false_answer) [
        | yes v ↦ elim (s.if_false v).0 [ inl y ↦ absurd (n0 y) | inr y ↦ y.0 ]
        | no v ↦ λ y. absurd (omega (arith, (s.if_true (omega arith)).1))
      ]
  marker_goes n0 sk rs l marker_15 (delete_15 x) = if_eq SignedOrMarker (link_in (M t) n % 2) 1 (λ z q. inr (λ u. marker_16)) (λ z q. absurd (z sk))
  marker_goes n0 sk rs l marker_16 (delete_16 x m) = λ q. inl (signed_17 M r (suc t) p _ (q.place st))

from_7 : (m : Memory) (p : ℕ) (Q : Record) → Marker (goes_at p7 m p Q)
unfolding row word_met place_of
from_7 m p Q = if Marker (eqb (link_in m (curr_in Q)) (plain_to (succ_in Q))) (λ z u. marker_6) (λ z u. marker_6)

-- the step that strikes a node is at place 7
at_7 : {m m' : Memory} {l : Place} {Q : Record} (n : ℕ) → Plain m n → Marked m' n → HeldByPlace m m' l Q → l ≡ p7
at_7 n pl sk (added d h) = absurd (omega (arith, h.plain n pl))
at_7 n pl sk (removed d h) = d.0
at_7 n pl sk (stays h4 h7 k) = absurd (omega (arith, k.plain n pl))

-- ---- over a run

module _ (ρ : Played) where
  abbrev M : ℕ → Memory
  M = memory_at ρ

  abbrev R : (t p : ℕ) → Record
  R = record_then ρ

  -- an open delete
  pub record Deleting (t p r : ℕ) : Type 0 where
    pub busy : Busy ρ t p r
    pub kind : kind_at ρ r ≡ delete_kind

  pub delete_is : {t p r : ℕ} → Deleting t p r → DeleteKnown M r t p (R t p)
  delete_is {t} {p} {r} d = delete_known d.kind d.busy.known

  -- its node, if it has one, was held since its request
  pub delete_saw : {t p r : ℕ} (d : Deleting t p r) (n : ℕ) → own_in (R t p) ≡ n → n ≢ 0 → SawHeld M r t (asked_at ρ r) n
  delete_saw {t} {p} {r} d n node_is n0 = subst (λ a. SawHeld M r t a n) d.busy.named (elim (delete_is d).kept.saw [
    | inl z ↦ absurd (n0 (sym node_is ∙ z))
    | inr s ↦ subst (λ y. SawHeld M r t (asked_in (R t p)) y) node_is s
  ])

  pub delete_used : {t p r : ℕ} (d : Deleting t p r) (n : ℕ) → own_in (R t p) ≡ n → n ≢ 0 → Used (M t) n
  delete_used {t} d n node_is n0 = let s = delete_saw d n node_is n0 in used_now (course ρ t) s.w s.since.upto s.on

  -- no step from place 5 once there is a node
  not_5 : {t p r : ℕ} (d : Deleting t p r) → own_in (R t p) ≢ 0 → (R t p).kept.status ≡ running_status → (l : Place)
      → place_of (R t p).lost.place ≡ l → l ≢ p5
  not_5 {t} {p} {r} d n0 st l pl q = n0 (no_node_5 M r t p (R t p) (rw (pl ∙ q) at ((delete_is d).place st)))

  -- a delete's node goes with it to the next moment, unless it makes its last step
  node_goes : {t p r : ℕ} (d : Deleting t p r) (n : ℕ) → own_in (R t p) ≡ n → n ≢ 0 → (Deleting (suc t) p r × (own_in (R (suc t) p) ≡ n)) ⊎ Ends ρ t p r
  node_goes {t} {p} {r} d n node_is n0 = elim (turns ρ t p r d.busy) [
    | untouched x c b ↦ inl (record { busy = b; kind = d.kind }, ap (λ y. y.kept.node.0) x ∙ node_is)
    | stopped x b ↦ inl (record { busy = b; kind = d.kind }, ap (λ y. y.kept.node.0) x ∙ node_is)
    | started x b ↦ inl (record { busy = b; kind = d.kind }, ap (λ y. y.kept.node.0) x ∙ node_is)
    | moves l x ↦ inl (record { busy = x.busy; kind = d.kind }, x.node (not_5 d (λ z. n0 (sym node_is ∙ z)) x.status l x.place) ∙ node_is)
    | ends x ↦ inr x
  ]

  -- the last step writes nothing
  node_stays : {t p r : ℕ} (d : Deleting t p r) (n : ℕ) → own_in (R t p) ≡ n → n ≢ 0 → M (suc t) ≢ M t
      → Deleting (suc t) p r × (own_in (R (suc t) p) ≡ n)
  node_stays d n node_is n0 ch = elim (node_goes d n node_is n0) [ inl x ↦ x | inr x ↦ absurd (ch x.memory) ]

  -- ---- the deleter's delete

  -- open with node n at T, or answered true with it
  abbrev pub OpenOrTrue : (p r n T : ℕ) → Type 0
  OpenOrTrue p r n T = (Deleting T p r × (own_in (R T p) ≡ n))
      ⊎ ((a : Answer) × (answer_to ρ T r ≡ some a) × (a.value ≡ true_answer) × (own_in (R a.time p) ≡ n))

  pub deleter_open_or_true : (s T p r n : ℕ) → s ≤ T → Deleting s p r → own_in (R s p) ≡ n → n ≢ 0 → deleter_in (M s) n ≡ p + 1 → OpenOrTrue p r n T
  deleter_open_or_true s T p r n le d₀ node_is n0 dl = le_ind (OpenOrTrue p r n) (inl (d₀, node_is)) onward T le
    where
      onward : (t : ℕ) → s ≤ t → OpenOrTrue p r n t → OpenOrTrue p r n (suc t)
      onward t l (inr z) = inr (z.0, answer_stays ρ t r z.0 z.1, z.2, z.3)
      onward t l (inl z) = elim (node_goes z.0 n z.1 n0) [
        | inl x ↦ inl x
        | inr x ↦
            let says = delete_says x.place x.status (delete_is z.0) in
            let not_false : (R t p).lost.pending ≢ false_answer = λ v. elim (says.if_false v).0 [ inl y ↦ n0 (sym z.1 ∙ y) | inr y ↦ y.1 mine ] in
            let not_fail : (R t p).lost.pending ≢ fail_answer = λ v. elim (says.if_fail v) [ inl y ↦ n0 (sym z.1 ∙ y) | inr y ↦ y mine ] in
            inr (_, x.says, omega (arith, pending_19 (R t p) x.in_range_lem x.place, pending_in_range (R t p) x.in_range_lem), z.1)
      ]
        where
          mine : deleter_in (M t) (own_in (R t p)) ≡ p + 1
          mine = ap (deleter_in (M t)) z.1 ∙ (later (course ρ t) s l).signed n (delete_used d₀ n node_is n0) (λ z. absurd (omega arith)) ∙ dl

  -- ---- the marker's delete

  abbrev pub SignedOrOpen : (p r n T : ℕ) → Type 0
  SignedOrOpen p r n T = (deleter_in (M T) n ≢ 0) ⊎ (Deleting T p r × (own_in (R T p) ≡ n) × Marker (R T p))

  pub marker_open_till_signed : (s T p r n : ℕ) → s ≤ T → Deleting s p r → own_in (R s p) ≡ n → n ≢ 0 → Marked (M s) n
      → Marker (R s p)
      → SignedOrOpen p r n T
  marker_open_till_signed s T p r n le d₀ node_is n0 sk mk = le_ind (SignedOrOpen p r n) (inr (d₀, node_is, mk)) onward T le
    where
      onward : (t : ℕ) → s ≤ t → SignedOrOpen p r n t → SignedOrOpen p r n (suc t)
      onward t l (inl z) = inl (λ q. z (sym ((later (course ρ (suc t)) t (omega arith)).signed n
          ((later (course ρ t) s l).used n (delete_used d₀ n node_is n0)) z) ∙ q))
      onward t l (inr z) = elim (node_goes z.0 n z.1 n0) [
        | inl d ↦ elim (signed_or_marker d (turns ρ t p r z.0.busy)) [
          | inl y ↦ inl (λ q. y (ap (deleter_in (M (suc t))) z.1 ∙ q))
          | inr y ↦ inr (d.0, d.1, y)
        ]
        | inr x ↦ elim (rw x.place at (z.2 x.status)) [ ]
      ]
        where
          marked : Marked (M t) (own_in (R t p))
          marked = rw z.1 (marked_later (later (course ρ t) s l) n (delete_used d₀ n node_is n0) sk)

          signed_or_marker : Deleting (suc t) p r × (own_in (R (suc t) p) ≡ n) → Turns ρ t p r
              → (deleter_in (M (suc t)) (own_in (R t p)) ≢ 0) ⊎ Marker (R (suc t) p)
          signed_or_marker d (untouched x c b) = inr (rw x z.2)
          signed_or_marker d (stopped x b) = inr (rw x (λ u. absurd (omega arith)))
          signed_or_marker d (started x b) = inr (rw x (unfold place_of in (λ u. marker_13)))
          signed_or_marker d (moves k x) = rw x.becomes
              (marker_goes M r t p (R t p) x.status (delete_is z.0) (λ q. n0 (sym z.1 ∙ q)) marked
              (result_in_range (R t p) x.in_range_lem) k (rw x.place at (z.2 x.status))
              (rw x.place at ((delete_is z.0).place x.status)) (rw x.becomes at (delete_is d.0)))
          signed_or_marker d (ends x) = elim (rw x.place at (z.2 x.status)) [ ]

  -- right after the strike
  pub after_strike : (t p r n : ℕ) → process_at ρ t ≡ p → Deleting t p r → own_in (R t p) ≡ n → 2 ≤ n → Plain (M t) n
      → Marked (M (suc t)) n
      → Deleting (suc t) p r × (own_in (R (suc t) p) ≡ n) × Marker (R (suc t) p)
  after_strike t p r n by d node_is h2 pl sk = (x.0, x.1, marker (turns ρ t p r d.busy))
    where
      ch : M (suc t) ≢ M t
      ch z = absurd (omega (arith, ap (λ m. link_in m n) z))

      x : Deleting (suc t) p r × (own_in (R (suc t) p) ≡ n)
      x = node_stays d n node_is (λ z. absurd (omega arith)) ch

      marker : Turns ρ t p r → Marker (R (suc t) p)
      marker (untouched y (inl c) b) = absurd (c by)
      marker (untouched y (inr c) b) = absurd (ch c)
      marker (stopped y b) = rw y (λ u. absurd (omega arith))
      marker (started y b) = rw y (unfold place_of in (λ u. marker_13))
      marker (moves l y) = rw (y.becomes, at_7 n pl (rw y.memory at sk) (by_event ρ t p r l y.place y.status d.busy.known))
          (from_7 (M t) p (R t p))
      marker (ends y) = absurd (ch y.memory)

  -- ---- which operation wrote p as the deleter of n, and when

  pub record SignedBy (w T n p : ℕ) : Type 0 where
    pub at_event : ℕ
    pub op : ℕ
    pub from : w ≤ at_event
    pub upto : at_event < T
    pub deleting : Deleting at_event p op
    pub node_then : own_in (R at_event p) ≡ n
    pub deleting_after : Deleting (suc at_event) p op
    pub node_after : own_in (R (suc at_event) p) ≡ n
    pub signed : deleter_in (M (suc at_event)) n ≡ p + 1
    pub was : deleter_in (M at_event) n ≢ p + 1

  delete_of : (x : Action) (k n : ℕ) → n ≢ 0 → n ≡ delete_node x k → (kind_of x ≡ delete_kind) × (k ≡ n)
  delete_of x k n h = if_eq (λ y. n ≡ y → (kind_of x ≡ delete_kind) × (k ≡ n)) (kind_of x) delete_kind (λ d q. (d, sym q)) (λ d q. absurd (h q))

  pub signed_by : (w T n p : ℕ) → w ≤ T → n ≢ 0 → Used (M w) n → deleter_in (M w) n ≡ 0 → deleter_in (M T) n ≡ p + 1 → SignedBy w T n p
  signed_by w T n p le n0 u d0 q = new z.0 z.1 z.2 z.3.0 z.3.1 (effect ρ z.0)
    where
      z : (t : ℕ) × (w ≤ t) × (t < T) × Begins (λ t. deleter_in (M t) n ≡ p + 1) t
      z = begins_between (λ t. deleter_in (M t) n ≡ p + 1) (λ t. ℕ_discrete (deleter_in (M t) n) (p + 1)) w T le (λ e. absurd (omega arith)) q

      new : (t : ℕ) → w ≤ t → t < T → deleter_in (M t) n ≢ p + 1 → deleter_in (M (suc t)) n ≡ p + 1 → Effect ρ t → SignedBy w T n p
      new t l lT h q (leaves_it z) = absurd (h (ap (λ m. deleter_in m n) (sym z) ∙ q))
      new t l lT h q (gives_out a spare z) = absurd (h
          (sym (given_deleter_else a (M t) n (used_not_next (M t) n ((later (course ρ t) w l).used n u))) ∙ ap (λ m. deleter_in m n) (sym z) ∙ q))
      new t l lT h q (acts r z) = record {
        at_event = t;
        op = r;
        from = l;
        upto = lT;
        deleting = d;
        node_then = node_is;
        deleting_after = nx.0;
        node_after = nx.1;
        signed = q;
        was = h;
      }
        where
          p' : ℕ
          p' = process_at ρ t

          ds : (n ≡ delete_node (ρ.events r).action (own_in (R t p')))
              × (deleter_in (written (writes_at z.place (M t) p' (R t p')) (M t)) n ≡ p' + 1) × Marked (M t) n
          ds = does_signs (orderly ρ t) (acts_does ρ z) n (λ y. h (sym y ∙ ap (λ m. deleter_in m n) (sym z.memory) ∙ q))

          pp : p' ≡ p
          pp = omega (arith, ds.1, ap (λ m. deleter_in m n) z.memory)

          vr : (kind_at ρ r ≡ delete_kind) × (own_in (R t p') ≡ n)
          vr = delete_of (ρ.events r).action (own_in (R t p')) n n0 ds.0

          d : Deleting t p r
          d = record { busy = rw pp at z.busy; kind = vr.0 }

          node_is : own_in (R t p) ≡ n
          node_is = rw pp at vr.1

          nx : Deleting (suc t) p r × (own_in (R (suc t) p) ≡ n)
          nx = node_stays d n node_is n0 (λ y. h (ap (λ m. deleter_in m n) (sym y) ∙ q))
