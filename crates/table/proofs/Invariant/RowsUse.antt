-- The nodes that a row uses are in use: those that it names, the target of a link that it reads, and own at the end of a recovering search. This is
-- what is known of a process at its place. Rests on Moments, Known and KnownWrites.
use Rattle.table.proofs.Common.{◌≡◌, refl, sym, ◌∙◌, inl, inr, Bool, true, ◌&&◌, true≢false, ℕ, ◌≤◌, arith}
use Rattle.table.proofs.Common.{eqb, ne_eqb, process, insert_kind, Record, Memory, is_marked, in_use, below, Place, p1, Next}
use Rattle.table.proofs.Common.{row, search_ends, access_of, word_met}
use Rattle.table.specs.Places.{own}
use Rattle.table.specs.Steps.{usable, all_usable, all_used, own_usable}
use Rattle.basics.proofs.Tests.{if}
use Rattle.table.proofs.Laws.Reaching.{origin}
use Rattle.table.proofs.Laws.Numbered.{link_in, follows_in, Used, pred_in, curr_in, succ_in, own_in, asked_in, marked_to}
use Rattle.table.proofs.Invariant.Moments.{Course, inner, used_now, target_now}
use Rattle.table.proofs.Invariant.Known.{BeenOn, SawHeld, StruckOrNew, InsertSearch, InsertAt, insert_0, insert_1, insert_2, insert_3, insert_4}
use Rattle.table.proofs.Invariant.Known.{insert_13, insert_14, insert_18, insert_19, InsertKept, DeleteEdge, DeleteAt, delete_0}
use Rattle.table.proofs.Invariant.Known.{delete_1, delete_2, delete_5, delete_6, delete_7, delete_8, delete_9, delete_10, delete_13, delete_15}
use Rattle.table.proofs.Invariant.Known.{delete_16, delete_17, delete_18, delete_19, DeleteKept, FindAt, find_11, find_12, find_13}
use Rattle.table.proofs.Invariant.Known.{find_19}
use Rattle.table.proofs.Invariant.KnownWrites.{edge_curr}

-- whether a step of p at place l finds the nodes that it uses in use
abbrev pub nodes_fit : Place → Memory → (p : ℕ) → Record → Bool
nodes_fit l m p R =
    let a = access_of (process p) R (row m.addresses l R) in
    let w = word_met m R a.meets in
    all_usable (in_use m) R a.uses && all_used (in_use m) (a.leads w) && own_usable (in_use m) R (a.next w)

-- row 1 uses own only at the end of a recovering search
row_1_own : (m : Memory) (p : ℕ) (R : Record) → (R.lost.recovering ≡ true → usable (in_use m) R own ≡ true)
    → (w : ℕ) → own_usable (in_use m) R ((access_of (process p) R (row m.addresses p1 R)).next w) ≡ true
unfolding row search_ends
row_1_own m p R own_used w = if Fits (is_marked w) (λ e. refl)
    (λ e. if Fits (below m.addresses R.lost.curr R.kept.address) (λ e. refl)
    (λ e. if Fits R.lost.recovering own_used
    (λ e. if Fits (eqb R.kept.kind insert_kind) (λ e. refl) (λ e. refl))))
  where
    Fits : Next → Type 0
    Fits x = own_usable (in_use m) R x ≡ true

module _ {M : ℕ → Memory} {t : ℕ} (H : Course M t) where
  been_used : {n : ℕ} → BeenOn M t n → Used (M t) n
  been_used b = used_now H b.0 b.1 b.2

  been_leads : {n : ℕ} → BeenOn M t n → Used (M t) (follows_in (M t) n)
  been_leads b = target_now H b.0 b.1 b.2

  -- a marked word's target
  marked_leads : {n : ℕ} (s : ℕ) → BeenOn M t n → link_in (M t) n ≡ marked_to s → Used (M t) s
  marked_leads {n} s b e = let q : follows_in (M t) n ≡ s = omega arith in rw q at (been_leads b)

  own_usable_lem : (R : Record) → 2 ≤ own_in R → Used (M t) (own_in R) → usable (in_use (M t)) R own ≡ true
  own_usable_lem R inner used = rw (ne_eqb (own_in R) 0 (omega arith), used) refl

  -- ---- inserts

  module _ {r : ℕ} (p : ℕ) (R : Record) (k : InsertKept M r t R.kept) where
    own_used : usable (in_use (M t)) R own ≡ true
    own_used = own_usable_lem R k.node.inner k.node.used

    insert_pred : {w : ℕ} → InsertSearch M r t R w → BeenOn M t (pred_in R)
    insert_pred {w} s = (w, s.edge.since.upto, s.edge.on)

    insert_curr : {w : ℕ} → InsertSearch M r t R w → BeenOn M t (curr_in R)
    insert_curr {w} s = (w, s.edge.since.upto, edge_curr H k.small s.edge)

    new_leads : StruckOrNew M t (own_in R) → Used (M t) (follows_in (M t) (own_in R))
    new_leads (inl z) = been_leads z.1
    new_leads (inr z) = z.leads

    pub insert_uses : (l : Place) → InsertAt M r t R l → nodes_fit l (M t) p R ≡ true
    unfolding row word_met
    insert_uses l (insert_0 f b) = rw (been_leads {n = 0} (t, omega arith, origin refl)) refl
    insert_uses l (insert_1 w s) =
        rw (been_used (insert_curr s), been_leads (insert_curr s), row_1_own (M t) p R (λ z. own_used) (link_in (M t) (curr_in R))) refl
    insert_uses l (insert_2 w s m) = rw (been_used (insert_pred s), been_used (insert_curr s), marked_leads (succ_in R) (insert_curr s) m) refl
    insert_uses l (insert_3 w s n g) = rw (own_used, been_used (insert_curr s)) refl
    insert_uses l (insert_4 w s n g m) = rw (been_used (insert_pred s), been_used (insert_curr s), own_used) refl
    insert_uses l (insert_13 c) = refl
    insert_uses l (insert_14 x) = rw (own_used, new_leads x) refl
    insert_uses l (insert_18 x) = refl
    insert_uses l (insert_19 x) = refl

  -- ---- deletes

  module _ {r : ℕ} (p : ℕ) (R : Record) (k : DeleteKept M r t p R.kept) where
    saw_been : {n : ℕ} → SawHeld M r t (asked_in R) n → BeenOn M t n
    saw_been x = (x.w, x.since.upto, x.on)

    -- own, once it was seen held
    seen_own : SawHeld M r t (asked_in R) (own_in R) → usable (in_use (M t)) R own ≡ true
    seen_own x = own_usable_lem R (inner (M x.w) (own_in R) (asked_in R) x.named k.small) (been_used (saw_been x))

    delete_pred : {w : ℕ} → DeleteEdge M r t R w → BeenOn M t (pred_in R)
    delete_pred {w} s = (w, s.since.upto, s.on)

    delete_curr : {w : ℕ} → DeleteEdge M r t R w → BeenOn M t (curr_in R)
    delete_curr {w} s = (w, s.since.upto, edge_curr H k.small s)

    pub delete_uses : (l : Place) → DeleteAt M r t p R l → nodes_fit l (M t) p R ≡ true
    unfolding row word_met
    delete_uses l (delete_0 b) = rw (been_leads {n = 0} (t, omega arith, origin refl)) refl
    delete_uses l (delete_1 b w s) = rw (
      been_used (delete_curr s),
      been_leads (delete_curr s),
      row_1_own (M t) p R (λ z. absurd (true≢false (sym z ∙ b.first))) (link_in (M t) (curr_in R)),
    ) refl
    delete_uses l (delete_2 b w s m) = rw (been_used (delete_pred s), been_used (delete_curr s), marked_leads (succ_in R) (delete_curr s) m) refl
    delete_uses l (delete_5 b x y) = rw (been_used (saw_been x)) refl
    delete_uses l (delete_6 x) = rw (been_used (saw_been x.saw), been_leads (saw_been x.saw)) refl
    delete_uses l (delete_7 x u) = rw (been_used (saw_been x.saw), u) refl
    delete_uses l (delete_8 x m) =
        rw (been_used x.pred_on, been_used (saw_been x.saw), marked_leads (succ_in R) (saw_been x.saw) m) refl
    delete_uses l (delete_9 x m) = rw (been_used (saw_been x.saw)) refl
    delete_uses l (delete_10 x d) = rw (been_used (saw_been x.saw)) refl
    delete_uses l delete_13 = refl
    delete_uses l (delete_15 x) = rw (seen_own x, been_leads (saw_been x)) refl
    delete_uses l (delete_16 x m) = rw (seen_own x) refl
    delete_uses l (delete_17 x d) = rw (seen_own x) refl
    delete_uses l (delete_18 x) = refl
    delete_uses l (delete_19 x) = refl

  -- ---- finds

  pub find_uses : {r : ℕ} (p : ℕ) (R : Record) (l : Place) → FindAt M r t R l → nodes_fit l (M t) p R ≡ true
  unfolding row word_met
  find_uses p R l (find_11 w x y) =
      let b : BeenOn M t (curr_in R) = (w, x.since.upto, x.on) in rw (been_used b, been_leads b) refl
  find_uses p R l (find_12 w x y) =
      let b : BeenOn M t (curr_in R) = (w, x.since.upto, x.on) in rw (been_used b, been_leads b) refl
  find_uses p R l find_13 = refl
  find_uses p R l (find_19 x) = refl
