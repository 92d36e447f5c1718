-- What each row writes is one of the writes that keep the list orderly. Rests on Effects, Moments and Known.
use Rattle.table.proofs.Common.{◌≡◌, refl, sym, ap, ◌≢◌, Bool, cond, ℕ, suc, ◌+◌, ◌<◌, arith, process, Record, Outcome, Memory, above_all}
use Rattle.table.proofs.Common.{Write, nothing, written, Place, row, access_of, record_after, word_met}
use Rattle.basics.proofs.Tests.{if_eq}
use Rattle.table.proofs.Laws.Reaching.{further}
use Rattle.table.proofs.Laws.Numbered.{link_in, deleter_in, rank_in, pred_in, curr_in, succ_in, own_in, asked_in, plain_to, Plain, On, rank_tail}
use Rattle.table.proofs.Invariant.Effects.{Insertable, Does, rests, owns, adds, cuts, strikes, signs}
use Rattle.table.proofs.Invariant.Moments.{Course, inner, on_now, used_now, rank_now}
use Rattle.table.proofs.Invariant.Known.{New, Edge, InsertSearch, InsertAt, insert_0, insert_1, insert_2, insert_3, insert_4, insert_13}
use Rattle.table.proofs.Invariant.Known.{insert_14, insert_18, insert_19, InsertKept, DeleteAt, delete_0, delete_1, delete_2, delete_5}
use Rattle.table.proofs.Invariant.Known.{delete_6, delete_7, delete_8, delete_9, delete_10, delete_13, delete_15, delete_16, delete_17}
use Rattle.table.proofs.Invariant.Known.{delete_18, delete_19, DeleteKept, FindAt, find_11, find_12, find_13, find_19}

-- ---- a step's parts at a place: where the record goes and what is written

abbrev pub goes_at : Place → Memory → (p : ℕ) → Record → Record
goes_at l m p R = let a = access_of (process p) R (row m.addresses l R) in record_after (a.next (word_met m R a.meets))

abbrev pub writes_at : Place → Memory → (p : ℕ) → Record → Write
writes_at l m p R = let a = access_of (process p) R (row m.addresses l R) in a.writes (word_met m R a.meets)

abbrev pub says_at : Place → Memory → (p : ℕ) → Record → Outcome
says_at l m p R = (access_of (process p) R (row m.addresses l R)).says

-- what holds of the record after a swap that writes f if its test v says so, and then goes on with done, else with lost
abbrev pub AfterSwap : (M : ℕ → Memory) (t : ℕ) → (Known : Record → Type 0) → Write → (done lost : Record) → (v : Bool) → Type 0
AfterSwap M t Known f done lost v = M (suc t) ≡ written (cond v f nothing) (M t) → Known (cond v done lost)

module _ {M : ℕ → Memory} {t : ℕ} (H : Course M t) where
  -- what an edge gives of its two nodes
  module _ {r a b c w : ℕ} (s : a + 1 < above_all) (x : Edge M r t a b c w) where
    not_tail : b ≢ 1
    not_tail q = absurd (omega (arith, ap (rank_in (M w)) q, rank_tail (M w), x.low))

    pub edge_curr : On (M w) c
    edge_curr = further {y = c} x.on not_tail (omega (arith, x.word))

    pub edge_on : link_in (M t) b ≡ plain_to c → On (M t) b
    edge_on e = on_now H w x.since.upto x.on (omega arith)

    edge_low : rank_in (M t) b < a + 1
    edge_low = omega (arith, rank_now H w x.since.upto x.on, x.low)

    -- curr is on the chain while it is unmarked
    pub edge_curr_on : Plain (M t) c → On (M t) c
    edge_curr_on = on_now H w x.since.upto edge_curr

    pub edge_rank : rank_in (M t) c ≡ rank_in (M w) c
    edge_rank = rank_now H w x.since.upto edge_curr

  -- an insert at place 4 may put its node in, once its swap meets (curr, unmarked)
  pub insertable : {r : ℕ} (R : Record) → InsertKept M r t R.kept → {w : ℕ} → InsertSearch M r t R w → New M t (own_in R)
      → asked_in R + 1 < rank_in (M w) (curr_in R) → link_in (M t) (own_in R) ≡ plain_to (curr_in R)
      → link_in (M t) (pred_in R) ≡ plain_to (curr_in R) → Insertable (M t) (own_in R) (pred_in R) (curr_in R)
  insertable R k s new g l e = record {
    inner = k.node.inner;
    used = k.node.used;
    new = λ o. new.never (t, omega arith, o);
    unsigned = new.unsigned;
    word = l;
    on = edge_on k.small s.edge e;
    before = e;
    above = omega (arith, edge_low k.small s.edge, k.named);
    under = omega (arith, edge_rank k.small s.edge, k.named);
    small = omega (arith, k.named, k.small);
  }

  pub insert_does : {r : ℕ} (p : ℕ) {R : Record} → InsertKept M r t R.kept → {l : Place} → InsertAt M r t R l
      → Does (M t) p (own_in R) 0 (writes_at l (M t) p R)
  unfolding row word_met
  insert_does p {R} k (insert_0 f b) = rests
  insert_does p {R} k (insert_1 w s) = rests
  insert_does p {R} k (insert_2 w s m) = if_eq (Does (M t) p (own_in R) 0) (link_in (M t) (pred_in R)) (plain_to (curr_in R))
      (λ e. cuts (pred_in R) (curr_in R) (succ_in R) (edge_on k.small s.edge e) e m) (λ e. rests)
  insert_does p {R} k (insert_3 w s new g) = owns (plain_to (curr_in R)) k.node.inner k.node.used
      (λ o. new.never (t, omega arith, o)) new.plain (omega arith)
  insert_does p {R} k (insert_4 w s new g m) = if_eq (Does (M t) p (own_in R) 0) (link_in (M t) (pred_in R)) (plain_to (curr_in R))
      (λ e. adds (pred_in R) (curr_in R) (insertable R k s new g m e)) (λ e. rests)
  insert_does p {R} k (insert_13 c) = rests
  insert_does p {R} k (insert_14 x) = rests
  insert_does p {R} k (insert_18 x) = rests
  insert_does p {R} k (insert_19 x) = rests

  pub delete_does : {r : ℕ} (p : ℕ) {R : Record} → DeleteKept M r t p R.kept → {l : Place} → DeleteAt M r t p R l
      → Does (M t) p 0 (own_in R) (writes_at l (M t) p R)
  unfolding row word_met
  delete_does p {R} k (delete_0 b) = rests
  delete_does p {R} k (delete_1 b w s) = rests
  delete_does p {R} k (delete_2 b w s m) = if_eq (Does (M t) p 0 (own_in R)) (link_in (M t) (pred_in R)) (plain_to (curr_in R))
      (λ e. cuts (pred_in R) (curr_in R) (succ_in R) (edge_on k.small s e) e m) (λ e. rests)
  delete_does p {R} k (delete_5 b x y) = rests
  delete_does p {R} k (delete_6 x) = rests
  delete_does p {R} k (delete_7 x u) = if_eq (Does (M t) p 0 (own_in R)) (link_in (M t) (curr_in R)) (plain_to (succ_in R))
      (λ e. strikes (curr_in R) (succ_in R) (sym x.node)
      (inner (M x.saw.w) (curr_in R) (asked_in R) x.saw.named k.small)
      (on_now H x.saw.w x.saw.since.upto x.saw.on (omega arith)) e) (λ e. rests)
  delete_does p {R} k (delete_8 x m) = if_eq (Does (M t) p 0 (own_in R)) (link_in (M t) (pred_in R)) (plain_to (curr_in R))
      (λ e. cuts (pred_in R) (curr_in R) (succ_in R) (on_now H x.pred_on.0 x.pred_on.1 x.pred_on.2 (omega arith)) e m) (λ e. rests)
  delete_does p {R} k (delete_9 x m) = if_eq (Does (M t) p 0 (own_in R)) (deleter_in (M t) (curr_in R)) 0
      (λ e. signs (curr_in R) (sym x.node) (used_now H x.saw.w x.saw.since.upto x.saw.on) m e) (λ e. rests)
  delete_does p {R} k (delete_10 x d) = rests
  delete_does p {R} k delete_13 = rests
  delete_does p {R} k (delete_15 x) = rests
  delete_does p {R} k (delete_16 x m) = if_eq (Does (M t) p 0 (own_in R)) (deleter_in (M t) (own_in R)) 0
      (λ e. signs (own_in R) refl (used_now H x.w x.since.upto x.on) m e) (λ e. rests)
  delete_does p {R} k (delete_17 x d) = rests
  delete_does p {R} k (delete_18 x) = rests
  delete_does p {R} k (delete_19 x) = rests

pub find_does : {M : ℕ → Memory} {r t : ℕ} (p : ℕ) {R : Record} {l : Place} → FindAt M r t R l → Does (M t) p 0 0 (writes_at l (M t) p R)
unfolding row word_met
find_does p (find_11 w x y) = rests
find_does p (find_12 w x y) = rests
find_does p find_13 = rests
find_does p (find_19 x) = rests
