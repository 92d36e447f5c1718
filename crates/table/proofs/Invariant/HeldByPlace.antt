-- Only a done swap at place 4 or at place 7 changes what is held: at 4 it adds exactly the record's address, at 7 it removes exactly it. So for
-- a row, for an event of a run, and with the operation to which the event belongs. Rests on HeldChanges and OpenOperations.
use Rattle.table.proofs.Common.{◌≡◌, refl, sym, ◌∙◌, ap, Bool, false, cond, ◌||◌, false≢true, ℕ, suc, ◌+◌, ◌≤◌, arith, eqb, running_status, insert_kind}
use Rattle.table.proofs.Common.{delete_kind, kind_of, Address, Record, Action, Memory, nothing, none_left, written, given_out, Place, p0, p1, p2, p3}
use Rattle.table.proofs.Common.{p4, p5, p6, p7, p8, p9, p10, p11, p12, p13, p14, p15, p16, p17, p18, p19, place_of, row, word_met, Leaves, event}
use Rattle.basics.proofs.Tests.{if_eq}
use Rattle.table.proofs.Laws.Numbered.{link_in, deleter_in, address_in, Used, pred_in, curr_in, succ_in, own_in, asked_in, plain_to, marked_to, link_set}
use Rattle.table.proofs.Laws.Numbered.{deleter_set, Marked, Plain, On, rank_inner}
use Rattle.table.proofs.Laws.Ranges.{number}
use Rattle.table.proofs.Invariant.Effects.{Orderly, Does}
use Rattle.table.proofs.Invariant.Moments.{Course, inner, on_now, used_now, rank_now}
use Rattle.table.proofs.Invariant.Known.{New, InsertAt, insert_0, insert_1, insert_2, insert_3, insert_4, insert_13, insert_14, insert_18}
use Rattle.table.proofs.Invariant.Known.{insert_19, InsertKept, DeleteAt, delete_0, delete_1, delete_2, delete_5, delete_6, delete_7, delete_8}
use Rattle.table.proofs.Invariant.Known.{delete_9, delete_10, delete_13, delete_15, delete_16, delete_17, delete_18, delete_19, DeleteKept}
use Rattle.table.proofs.Invariant.Known.{FindAt, find_11, find_12, find_13, find_19, KnownOf, inserting, deleting, finding, insert_node}
use Rattle.table.proofs.Invariant.Known.{delete_node}
use Rattle.table.proofs.Invariant.KnownWrites.{writes_at, edge_on, insertable}
use Rattle.table.proofs.Invariant.EventCases.{Happens, refuses, inserts, steps, alone, happens}
use Rattle.table.proofs.Invariant.Played.{Played, state_at, memory_at, record_then, process_at, kind_at, asked_at}
use Rattle.table.proofs.Invariant.RunInvariant.{Busy, memory_is, working, step_does, invariant}
use Rattle.table.proofs.Invariant.OpenOperations.{course, orderly}
use Rattle.table.proofs.Invariant.HeldChanges.{KeepsHeld, PutsHeld, TakesHeld, rests_held, adds_held, strikes_held, owns_held, cuts_held}
use Rattle.table.proofs.Invariant.HeldChanges.{signs_held, given_held}

-- the swap of the row at place 4, and that at place 7, is done
abbrev pub Done4 : Memory → Place → Record → Type 0
Done4 m l R = (l ≡ p4) × (link_in m (pred_in R) ≡ plain_to (curr_in R))

abbrev pub Done7 : Memory → Place → Record → Type 0
Done7 m l R = (l ≡ p7) × (link_in m (curr_in R) ≡ plain_to (succ_in R))

-- what a step of a record R at place l does to the addresses held
pub data HeldByPlace (m m' : Memory) (l : Place) (R : Record) : Type 0 where
  added : Done4 m l R → PutsHeld m m' (own_in R) (asked_in R) → HeldByPlace m m' l R
  removed : Done7 m l R → TakesHeld m m' (curr_in R) (asked_in R) → HeldByPlace m m' l R
  stays : (Done4 m l R → ⊥) → (Done7 m l R → ⊥) → KeepsHeld m m' → HeldByPlace m m' l R

-- a place that is neither
abbrev Neither : Place → Type 0
Neither l = (eqb (number l) 4 || eqb (number l) 7) ≡ false

module _ {M : ℕ → Memory} {t : ℕ} (H : Course M t) (r p : ℕ) (R : Record) where
  m : Memory
  m = M t

  i : Orderly (M t)
  i = H.orderly t (omega arith)

  -- at a place other than 4 and 7
  elsewhere : (l : Place) {m' : Memory} → Neither l → KeepsHeld (M t) m' → HeldByPlace (M t) m' l R
  elsewhere l h k = stays (λ d. false≢true (sym h ∙ ap test d.0)) (λ d. false≢true (sym h ∙ ap test d.0)) k
    where
      test : Place → Bool
      test x = eqb (number x) 4 || eqb (number x) 7

  -- the row writes nothing
  still : (l : Place) → Neither l → HeldByPlace (M t) (written nothing (M t)) l R
  unfolding written
  still l h = elsewhere l h (rests_held (M t))

  -- the row swaps pred from curr to succ, curr marked
  unlinks : (l : Place) → Neither l → link_in (M t) (curr_in R) ≡ marked_to (succ_in R)
      → (link_in (M t) (pred_in R) ≡ plain_to (curr_in R) → On (M t) (pred_in R))
      → HeldByPlace (M t)
      (written (cond (eqb (link_in (M t) (pred_in R)) (plain_to (curr_in R))) (link_set (pred_in R) (plain_to (succ_in R))) nothing) (M t)) l R
  unlinks l h e o = if_eq (λ f. HeldByPlace (M t) (written f (M t)) l R) (link_in (M t) (pred_in R)) (plain_to (curr_in R))
      (λ q. elsewhere l h (cuts_held i (pred_in R) (curr_in R) (succ_in R) (o q) q e)) (λ q. still l h)

  -- the row swaps the deleter of x, which is marked
  signs_or_not : (l : Place) → Neither l → (x : ℕ) → Used (M t) x → Marked (M t) x
      → HeldByPlace (M t) (written (cond (eqb (deleter_in (M t) x) 0) (deleter_set x (p + 1)) nothing) (M t)) l R
  signs_or_not l h x u e = if_eq (λ f. HeldByPlace (M t) (written f (M t)) l R) (deleter_in (M t) x) 0
      (λ q. elsewhere l h (signs_held i p x u e q)) (λ q. still l h)

  insert_held : InsertKept M r t R.kept → (l : Place) → InsertAt M r t R l → HeldByPlace (M t) (written (writes_at l (M t) p R) (M t)) l R
  unfolding row word_met
  insert_held k l (insert_0 f e) = still p0 refl
  insert_held k l (insert_1 w x) = still p1 refl
  insert_held k l (insert_2 w x e) = unlinks p2 refl e (edge_on H k.small x.edge)
  insert_held k l (insert_3 w x new g) = elsewhere p3 refl
      (owns_held i (own_in R) (plain_to (curr_in R)) k.node.inner k.node.used (λ o. new.never (t, omega arith, o)) new.plain (omega arith))
  insert_held k l (insert_4 w x new g e) = if_eq (λ f. HeldByPlace (M t) (written f (M t)) p4 R) (link_in (M t) (pred_in R)) (plain_to (curr_in R))
      (λ q. added (refl, q) (rw named at (adds_held i (own_in R) (pred_in R) (curr_in R) (insertable H R k x new g e q))))
      (λ q. stays (λ d. q d.1) (λ d. false≢true (ap (λ x. eqb (number x) 7) d.0)) (unfold written in (rests_held (M t))))
    where
      named : address_in (M t) (own_in R) ≡ asked_in R
      named = omega (arith, rank_inner (M t) (own_in R) k.node.inner, k.named)
  insert_held k l (insert_13 z) = still p13 refl
  insert_held k l (insert_14 x) = still p14 refl
  insert_held k l (insert_18 x) = still p18 refl
  insert_held k l (insert_19 x) = still p19 refl

  delete_held : DeleteKept M r t p R.kept → (l : Place) → DeleteAt M r t p R l → HeldByPlace (M t) (written (writes_at l (M t) p R) (M t)) l R
  unfolding row word_met
  delete_held k l (delete_0 x) = still p0 refl
  delete_held k l (delete_1 x w z) = still p1 refl
  delete_held k l (delete_2 x w z e) = unlinks p2 refl e (edge_on H k.small z)
  delete_held k l (delete_5 x y z) = still p5 refl
  delete_held k l (delete_6 x) = still p6 refl
  delete_held k l (delete_7 x u) = if_eq (λ f. HeldByPlace (M t) (written f (M t)) p7 R) (link_in (M t) (curr_in R)) (plain_to (succ_in R))
      (λ q. removed (refl, q) (rw named at (strikes_held i (curr_in R) (succ_in R) two (on (omega arith)) q)))
      (λ q. stays (λ d. false≢true (ap (λ x. eqb (number x) 4) d.0)) (λ d. q d.1) (unfold written in (rests_held (M t))))
    where
      two : 2 ≤ curr_in R
      two = inner (M x.saw.w) (curr_in R) (asked_in R) x.saw.named k.small

      on : Plain (M t) (curr_in R) → On (M t) (curr_in R)
      on = on_now H x.saw.w x.saw.since.upto x.saw.on

      named : address_in (M t) (curr_in R) ≡ asked_in R
      named = omega (arith, rank_inner (M t) (curr_in R) two, rank_now H x.saw.w x.saw.since.upto x.saw.on, x.saw.named)
  delete_held k l (delete_8 x e) = unlinks p8 refl e (λ q. on_now H x.pred_on.0 x.pred_on.1 x.pred_on.2 (omega arith))
  delete_held k l (delete_9 x e) = signs_or_not p9 refl (curr_in R) (used_now H x.saw.w x.saw.since.upto x.saw.on) e
  delete_held k l (delete_10 x e) = still p10 refl
  delete_held k l delete_13 = still p13 refl
  delete_held k l (delete_15 x) = still p15 refl
  delete_held k l (delete_16 x e) = signs_or_not p16 refl (own_in R) (used_now H x.w x.since.upto x.on) e
  delete_held k l (delete_17 x e) = still p17 refl
  delete_held k l (delete_18 x) = still p18 refl
  delete_held k l (delete_19 x) = still p19 refl

  find_held : (l : Place) → FindAt M r t R l → HeldByPlace (M t) (written (writes_at l (M t) p R) (M t)) l R
  unfolding row word_met
  find_held l (find_11 w x y) = still p11 refl
  find_held l (find_12 w x y) = still p12 refl
  find_held l find_13 = still p13 refl
  find_held l (find_19 x) = still p19 refl

-- ---- an event of a run

module _ (ρ : Played) where
  abbrev M : ℕ → Memory
  M = memory_at ρ

  abbrev R : (t p : ℕ) → Record
  R = record_then ρ

  -- the process of event t, and its record
  abbrev P : ℕ → ℕ
  P = process_at ρ

  abbrev actor : ℕ → Record
  actor t = R t (P t)

  -- a step for the operation r
  pub record Acts (t r : ℕ) : Type 0 where
    pub busy : Busy ρ t (P t) r
    pub status : (actor t).kept.status ≡ running_status
    pub place : Place
    pub placed : place_of (actor t).lost.place ≡ place
    pub memory : M (suc t) ≡ written (writes_at place (M t) (P t) (actor t)) (M t)

  -- what event t does to the memory
  pub data Effect (t : ℕ) : Type 0 where
    leaves_it : M (suc t) ≡ M t → Effect t
    gives_out : (a : Address) → none_left (M t) ≡ false → M (suc t) ≡ given_out a (M t) → Effect t
    acts : (r : ℕ) → Acts t r → Effect t

  pub effect : (t : ℕ) → Effect t
  effect t = by_case (event (state_at ρ t) (ρ.events t)) refl (happens (state_at ρ t) (ρ.events t))
    where
      by_case : (d : Leaves) → event (state_at ρ t) (ρ.events t) ≡ d → Happens (state_at ρ t) (ρ.events t) d → Effect t
      by_case d left (refuses k) = leaves_it (memory_is ρ t left)
      by_case d left (inserts a is b spare) = gives_out a spare (memory_is ρ t left)
      by_case d left (steps is b ok l pl) = let w = working ρ t (invariant ρ t) (process_at ρ t) b.there (λ z. absurd (omega (arith, b.has))) in
          acts w.op (record { busy = w.busy; status = b.has; place = l; placed = pl; memory = memory_is ρ t left })
      by_case d left (alone Q b z) = leaves_it (memory_is ρ t left)

  pub acts_does : {t r : ℕ} (x : Acts t r) → Does (M t) (P t) (insert_node (ρ.events r).action (own_in (actor t)))
      (delete_node (ρ.events r).action (own_in (actor t))) (writes_at x.place (M t) (P t) (actor t))
  acts_does {t} {r} x = step_does ρ t (invariant ρ t) (P t) r x.placed x.status x.busy.known

  pub by_event : (t p r : ℕ) {x : Action} (l : Place) → place_of (R t p).lost.place ≡ l → (R t p).kept.status ≡ running_status → KnownOf M r t p (R t p) x
      → HeldByPlace (M t) (written (writes_at l (M t) p (R t p)) (M t)) l (R t p)
  by_event t p r l pl st (inserting o) = insert_held (course ρ t) r p (R t p) o.kept l (rw pl at (o.place st))
  by_event t p r l pl st (deleting o) = delete_held (course ρ t) r p (R t p) o.kept l (rw pl at (o.place st))
  by_event t p r l pl st (finding o) = find_held (course ρ t) r p (R t p) l (rw pl at (o.place st))

  -- an accepted step
  step_held : {t r : ℕ} (x : Acts t r) → HeldByPlace (M t) (M (suc t)) x.place (actor t)
  step_held {t} {r} x = rw x.memory (by_event t (P t) r x.place x.placed x.status x.busy.known)

  -- what event t does to the addresses held: an accepted step, by its place; any other event keeps them
  pub data EventHeld (t : ℕ) : Type 0 where
    by_step : (r : ℕ) (x : Acts t r) → HeldByPlace (M t) (M (suc t)) x.place (actor t) → EventHeld t
    no_step : KeepsHeld (M t) (M (suc t)) → EventHeld t

  pub event_held : (t : ℕ) → EventHeld t
  event_held t = elim (effect t) [
    | leaves_it q ↦ no_step (rw q (rests_held (M t)))
    | gives_out a spare q ↦ no_step (rw q (given_held (orderly ρ t) a spare))
    | acts r x ↦ by_step r x (step_held x)
  ]

  -- ---- with the operation to which the event belongs

  -- the node in the record of the process that event t belongs to
  abbrev pub actor_node : ℕ → ℕ
  actor_node t = own_in (actor t)

  -- the insert r puts its node in
  pub record PutBy (t r : ℕ) : Type 0 where
    pub busy : Busy ρ t (P t) r
    pub kind : kind_at ρ r ≡ insert_kind
    pub new : New M t (actor_node t)
    pub puts : PutsHeld (M t) (M (suc t)) (actor_node t) (asked_at ρ r)

  -- the delete r strikes its node n
  pub record StruckBy (t r n : ℕ) : Type 0 where
    pub busy : Busy ρ t (P t) r
    pub kind : kind_at ρ r ≡ delete_kind
    pub node : actor_node t ≡ n
    pub takes : TakesHeld (M t) (M (suc t)) n (asked_at ρ r)

  -- what event t does to the addresses held
  pub data Changes (t : ℕ) : Type 0 where
    keeps_all : KeepsHeld (M t) (M (suc t)) → Changes t
    inserted : (r : ℕ) → PutBy t r → Changes t
    struck : (r n : ℕ) → StruckBy t r n → Changes t

  by_kind : (t r : ℕ) (x : Action) → (ρ.events r).action ≡ x → Busy ρ t (P t) r → KnownOf M r t (P t) (actor t) x → (actor t).kept.status ≡ running_status
      → (l : Place) → place_of (actor t).lost.place ≡ l → HeldByPlace (M t) (M (suc t)) l (actor t) → Changes t
  by_kind t r x q b o st l pl (stays h4 h7 k) = keeps_all k
  by_kind t r x q b (inserting o) st l pl (added d h) = inserted r (record {
    busy = b;
    kind = ap kind_of q;
    new = new (rw (pl ∙ d.0) at (o.place st));
    puts = rw b.named at h;
  })
    where
      new : InsertAt M r t (actor t) p4 → New M t (actor_node t)
      new (insert_4 w x n g e) = n
  by_kind t r x q b (deleting o) st l pl (added d h) = elim (rw (pl ∙ d.0) at (o.place st)) [ ]
  by_kind t r x q b (finding o) st l pl (added d h) = elim (rw (pl ∙ d.0) at (o.place st)) [ ]
  by_kind t r x q b (inserting o) st l pl (removed d h) = elim (rw (pl ∙ d.0) at (o.place st)) [ ]
  by_kind t r x q b (deleting o) st l pl (removed d h) =
      struck r (curr_in (actor t)) (record {
        busy = b;
        kind = ap kind_of q;
        node = its_node (rw (pl ∙ d.0) at (o.place st));
        takes = rw b.named at h;
      })
    where
      its_node : DeleteAt M r t (P t) (actor t) p7 → actor_node t ≡ curr_in (actor t)
      its_node (delete_7 x u) = x.node
  by_kind t r x q b (finding o) st l pl (removed d h) = elim (rw (pl ∙ d.0) at (o.place st)) [ ]

  pub changes : (t : ℕ) → Changes t
  changes t = elim (event_held t) [
    | no_step k ↦ keeps_all k
    | by_step r x h ↦ by_kind t r (ρ.events r).action refl x.busy x.busy.known x.status x.place x.placed h
  ]
