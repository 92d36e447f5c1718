-- What is known of a process between its request and its answer, place by place, and what its answer rests on. Rests on Moments.
-- Everything here speaks of the past of the run or of what only grows, so that no other process's step undoes it.
use Rattle.table.proofs.Common.{◌≡◌, ◌≢◌, ◌⊎◌, Bool, true, false, cond, ℕ, ◌+◌, ◌≤◌, ◌<◌, arith, eqb, running_status, insert_kind, delete_kind, find_kind}
use Rattle.table.proofs.Common.{no_answer, false_answer, true_answer, fail_answer, kind_of, Address, Kept, Record, Action, Insert, Delete, Find, Memory, above_all}
use Rattle.table.proofs.Common.{Place, p0, p1, p2, p3, p4, p5, p6, p7, p8, p9, p10, p11, p12, p13, p14, p15, p16, p17, p18, p19, place_of}
use Rattle.table.proofs.Laws.Numbered.{link_in, deleter_in, rank_in, pred_in, curr_in, succ_in, own_in, asked_in, plain_to, marked_to, Marked, Plain, On}
use Rattle.table.proofs.Laws.Numbered.{follows_in, Used, HeldIn}
use Rattle.table.proofs.Invariant.Moments.{GivenAt}

-- a moment after the request at r, up to now
pub record Since (r t w : ℕ) : Type 0 where
  pub after : r < w
  pub upto : w ≤ t

-- M is the memory at each moment
module _ (M : ℕ → Memory) where
  abbrev pub BeenOn : (t n : ℕ) → Type 0
  BeenOn t n = (w : ℕ) × (w ≤ t) × On (M w) n

  -- given out and never yet on the chain; its link leads to a node in use
  pub record New (t n : ℕ) : Type 0 where
    pub never : BeenOn t n → ⊥
    pub plain : Plain (M t) n
    pub leads : Used (M t) (follows_in (M t) n)
    pub unsigned : deleter_in (M t) n ≡ 0

  abbrev pub HeldSince : (r t a : ℕ) → Type 0
  HeldSince r t a = (w : ℕ) × Since r t w × HeldIn (M w) a

  abbrev pub GoneSince : (r t a : ℕ) → Type 0
  GoneSince r t a = (w : ℕ) × Since r t w × (HeldIn (M w) a → ⊥)

  -- a search's edge: at w, b stood on the chain below the address a, its word (c, unmarked)
  pub record Edge (r t a b c w : ℕ) : Type 0 where
    pub since : Since r t w
    pub on : On (M w) b
    pub word : link_in (M w) b ≡ plain_to c
    pub low : rank_in (M w) b < a + 1

  -- at w, n held the address a
  pub record SawHeld (r t a n : ℕ) : Type 0 where
    pub w : ℕ
    pub since : Since r t w
    pub on : On (M w) n
    pub plain : Plain (M w) n
    pub named : rank_in (M w) n ≡ a + 1

  -- ---- inserts

  -- what an answer v of an insert of a, with its node n, rests on
  pub record InsertSays (r t a n v : ℕ) : Type 0 where
    pub if_true : v ≡ true_answer → BeenOn t n
    pub if_false : v ≡ false_answer → New t n × HeldSince r t a
    pub if_fail : v ≡ fail_answer → New t n

  -- an insert's search, with its edge at w
  pub record Search (r t a n result b c w : ℕ) (recovering : Bool) : Type 0 where
    pub edge : Edge r t a b c w
    pub own : BeenOn w n ⊎ New t n
    pub first : recovering ≡ false → New t n
    pub blank : result ≡ no_answer

  abbrev pub InsertSearch : (r t : ℕ) → Record → (w : ℕ) → Type 0
  InsertSearch r t R w = Search r t (asked_in R) (own_in R) R.kept.result (pred_in R) (curr_in R) w R.lost.recovering

  -- a node that is struck after it was on the chain, or was never on it
  abbrev pub StruckOrNew : (t n : ℕ) → Type 0
  StruckOrNew t n = (Marked (M t) n × BeenOn t n) ⊎ New t n

  pub data InsertAt (r t : ℕ) (R : Record) : Place → Type 0 where
    insert_0 : (R.lost.recovering ≡ false → New t (own_in R)) → R.kept.result ≡ no_answer → InsertAt r t R p0
    insert_1 : (w : ℕ) → InsertSearch r t R w → InsertAt r t R p1
    insert_2 : (w : ℕ) → InsertSearch r t R w → link_in (M t) (curr_in R) ≡ marked_to (succ_in R) → InsertAt r t R p2
    insert_3 : (w : ℕ) → InsertSearch r t R w → New t (own_in R) → asked_in R + 1 < rank_in (M w) (curr_in R) → InsertAt r t R p3
    insert_4 : (w : ℕ) → InsertSearch r t R w → New t (own_in R) → asked_in R + 1 < rank_in (M w) (curr_in R)
        → link_in (M t) (own_in R) ≡ plain_to (curr_in R) → InsertAt r t R p4
    insert_13 : R.lost.recovering ≡ true → InsertAt r t R p13
    insert_14 : StruckOrNew t (own_in R) → InsertAt r t R p14
    insert_18 : InsertSays r t (asked_in R) (own_in R) R.lost.pending → InsertAt r t R p18
    insert_19 : InsertSays r t (asked_in R) (own_in R) R.lost.pending → InsertAt r t R p19

  -- its node n is the one given out at its request
  pub record InsertKeeps (r t kind a n result : ℕ) : Type 0 where
    pub kind_is : kind ≡ insert_kind
    pub node : GivenAt M r t n
    pub named : rank_in (M t) n ≡ a + 1
    pub small : a + 1 < above_all
    pub own : BeenOn t n ⊎ New t n
    pub said : InsertSays r t a n result
    pub no_fail : result ≢ fail_answer

  abbrev pub InsertKept : (r t : ℕ) → Kept → Type 0
  InsertKept r t k = InsertKeeps r t k.kind k.address.0 k.node.0 k.result

  -- ---- deletes

  -- what an answer v of p's delete of a, with the node n in its record, rests on
  pub record DeleteSays (r t p a n v : ℕ) : Type 0 where
    pub if_true : v ≡ true_answer → SawHeld r t a n × (deleter_in (M t) n ≡ p + 1)
    pub if_false : v ≡ false_answer → ((n ≡ 0) ⊎ ((deleter_in (M t) n ≢ 0) × (deleter_in (M t) n ≢ p + 1))) × GoneSince r t a
    pub if_fail : v ≡ fail_answer → (n ≡ 0) ⊎ (deleter_in (M t) n ≢ p + 1)

  -- before place 5
  pub record Blank (n result : ℕ) (recovering : Bool) : Type 0 where
    pub node : n ≡ 0
    pub first : recovering ≡ false
    pub blank : result ≡ no_answer

  abbrev pub DeleteBlank : Record → Type 0
  DeleteBlank R = Blank (own_in R) R.kept.result R.lost.recovering

  abbrev pub DeleteEdge : (r t : ℕ) → Record → (w : ℕ) → Type 0
  DeleteEdge r t R w = Edge r t (asked_in R) (pred_in R) (curr_in R) w

  -- past place 5: the node n in the record is curr, c; pred is b
  pub record Past (r t a n b c : ℕ) : Type 0 where
    pub node : n ≡ c
    pub saw : SawHeld r t a c
    pub pred_on : BeenOn t b

  abbrev pub DeletePast : (r t : ℕ) → Record → Type 0
  DeletePast r t R = Past r t (asked_in R) (own_in R) (pred_in R) (curr_in R)

  pub data DeleteAt (r t p : ℕ) (R : Record) : Place → Type 0 where
    delete_0 : DeleteBlank R → DeleteAt r t p R p0
    delete_1 : DeleteBlank R → (w : ℕ) → DeleteEdge r t R w → DeleteAt r t p R p1
    delete_2 : DeleteBlank R → (w : ℕ) → DeleteEdge r t R w → link_in (M t) (curr_in R) ≡ marked_to (succ_in R) → DeleteAt r t p R p2
    delete_5 : DeleteBlank R → SawHeld r t (asked_in R) (curr_in R) → BeenOn t (pred_in R) → DeleteAt r t p R p5
    delete_6 : DeletePast r t R → DeleteAt r t p R p6
    delete_7 : DeletePast r t R → Used (M t) (succ_in R) → DeleteAt r t p R p7
    delete_8 : DeletePast r t R → link_in (M t) (curr_in R) ≡ marked_to (succ_in R) → DeleteAt r t p R p8
    delete_9 : DeletePast r t R → Marked (M t) (curr_in R) → DeleteAt r t p R p9
    delete_10 : DeletePast r t R → deleter_in (M t) (curr_in R) ≢ 0 → DeleteAt r t p R p10
    delete_13 : DeleteAt r t p R p13
    delete_15 : SawHeld r t (asked_in R) (own_in R) → DeleteAt r t p R p15
    delete_16 : SawHeld r t (asked_in R) (own_in R) → Marked (M t) (own_in R) → DeleteAt r t p R p16
    delete_17 : SawHeld r t (asked_in R) (own_in R) → deleter_in (M t) (own_in R) ≢ 0 → DeleteAt r t p R p17
    delete_18 : DeleteSays r t p (asked_in R) (own_in R) R.lost.pending → DeleteAt r t p R p18
    delete_19 : DeleteSays r t p (asked_in R) (own_in R) R.lost.pending → DeleteAt r t p R p19

  pub record DeleteKeeps (r t p kind a n result : ℕ) : Type 0 where
    pub kind_is : kind ≡ delete_kind
    pub small : a + 1 < above_all
    pub saw : (n ≡ 0) ⊎ SawHeld r t a n
    pub said : DeleteSays r t p a n result
    pub no_fail : result ≢ fail_answer

  abbrev pub DeleteKept : (r t p : ℕ) → Kept → Type 0
  DeleteKept r t p k = DeleteKeeps r t p k.kind k.address.0 k.node.0 k.result

  -- ---- finds

  pub record FindSays (r t a v : ℕ) : Type 0 where
    pub if_true : v ≡ true_answer → HeldSince r t a
    pub if_false : v ≡ false_answer → GoneSince r t a

  -- curr was on the chain
  pub record Walked (r t c w : ℕ) : Type 0 where
    pub since : Since r t w
    pub on : On (M w) c

  pub data FindAt (r t : ℕ) (R : Record) : Place → Type 0 where
    find_11 : (w : ℕ) → Walked r t (curr_in R) w → rank_in (M w) (curr_in R) < asked_in R + 1 → FindAt r t R p11
    find_12 : (w : ℕ) → Walked r t (curr_in R) w → rank_in (M w) (curr_in R) ≡ asked_in R + 1 → FindAt r t R p12
    find_13 : FindAt r t R p13
    find_19 : FindSays r t (asked_in R) R.lost.pending → FindAt r t R p19

  pub record FindKeeps (kind a result : ℕ) : Type 0 where
    pub kind_is : kind ≡ find_kind
    pub small : a + 1 < above_all
    pub blank : result ≡ no_answer

  abbrev pub FindKept : Kept → Type 0
  FindKept k = FindKeeps k.kind k.address.0 k.result

  -- ---- a process between its request and its answer: what its kept part says always, and its place while it runs

  pub record InsertKnown (r t : ℕ) (R : Record) : Type 0 where
    pub kept : InsertKept r t R.kept
    pub place : R.kept.status ≡ running_status → InsertAt r t R (place_of R.lost.place)

  pub record DeleteKnown (r t p : ℕ) (R : Record) : Type 0 where
    pub kept : DeleteKept r t p R.kept
    pub place : R.kept.status ≡ running_status → DeleteAt r t p R (place_of R.lost.place)

  pub record FindKnown (r t : ℕ) (R : Record) : Type 0 where
    pub kept : FindKept R.kept
    pub place : R.kept.status ≡ running_status → FindAt r t R (place_of R.lost.place)

  -- by the action that requested the operation
  pub data KnownOf (r t p : ℕ) (R : Record) : Action → Type 0 where
    inserting : {a : Address} → InsertKnown r t R → KnownOf r t p R (Insert a)
    deleting : {a : Address} → DeleteKnown r t p R → KnownOf r t p R (Delete a)
    finding : {a : Address} → FindKnown r t R → KnownOf r t p R (Find a)

-- an insert's own node, a delete's node
abbrev pub insert_node : Action → ℕ → ℕ
insert_node x n = cond (eqb (kind_of x) insert_kind) n 0

abbrev pub delete_node : Action → ℕ → ℕ
delete_node x n = cond (eqb (kind_of x) delete_kind) n 0

module _ {M : ℕ → Memory} {r t : ℕ} {R : Record} where
  pub insert_known : {p : ℕ} {x : Action} → kind_of x ≡ insert_kind → KnownOf M r t p R x → InsertKnown M r t R
  insert_known k (inserting o) = o
  insert_known k (deleting o) = absurd (omega arith)
  insert_known k (finding o) = absurd (omega arith)

  pub delete_known : {p : ℕ} {x : Action} → kind_of x ≡ delete_kind → KnownOf M r t p R x → DeleteKnown M r t p R
  delete_known k (inserting o) = absurd (omega arith)
  delete_known k (deleting o) = o
  delete_known k (finding o) = absurd (omega arith)

  pub find_known : {p : ℕ} {x : Action} → kind_of x ≡ find_kind → KnownOf M r t p R x → FindKnown M r t R
  find_known k (inserting o) = absurd (omega arith)
  find_known k (deleting o) = absurd (omega arith)
  find_known k (finding o) = o

  -- at place 19: what the pending answer rests on
  pub insert_says : place_of R.lost.place ≡ p19 → R.kept.status ≡ running_status → InsertKnown M r t R
      → InsertSays M r t (asked_in R) (own_in R) R.lost.pending
  insert_says pl st o = says (rw pl at (o.place st))
    where
      says : InsertAt M r t R p19 → InsertSays M r t (asked_in R) (own_in R) R.lost.pending
      says (insert_19 x) = x

  pub delete_says : {p : ℕ} → place_of R.lost.place ≡ p19 → R.kept.status ≡ running_status → DeleteKnown M r t p R
      → DeleteSays M r t p (asked_in R) (own_in R) R.lost.pending
  delete_says {p} pl st o = says (rw pl at (o.place st))
    where
      says : DeleteAt M r t p R p19 → DeleteSays M r t p (asked_in R) (own_in R) R.lost.pending
      says (delete_19 x) = x

  pub find_says : place_of R.lost.place ≡ p19 → R.kept.status ≡ running_status → FindKnown M r t R → FindSays M r t (asked_in R) R.lost.pending
  find_says pl st o = says (rw pl at (o.place st))
    where
      says : FindAt M r t R p19 → FindSays M r t (asked_in R) R.lost.pending
      says (find_19 x) = x

-- ---- answers: what there is to be shown of each

module _ {M : ℕ → Memory} where
  pub insert_says_true : {r t a n : ℕ} → BeenOn M t n → InsertSays M r t a n true_answer
  insert_says_true been = record { if_true = λ v. been; if_false = λ v. absurd (omega arith); if_fail = λ v. absurd (omega arith) }

  pub insert_says_false : {r t a n : ℕ} → New M t n → HeldSince M r t a → InsertSays M r t a n false_answer
  insert_says_false new held = record { if_true = λ v. absurd (omega arith); if_false = λ v. (new, held); if_fail = λ v. absurd (omega arith) }

  pub insert_says_fail : {r t a n : ℕ} → New M t n → InsertSays M r t a n fail_answer
  insert_says_fail new = record { if_true = λ v. absurd (omega arith); if_false = λ v. absurd (omega arith); if_fail = λ v. new }

  pub insert_says_nothing : {r t a n : ℕ} → InsertSays M r t a n no_answer
  insert_says_nothing = record { if_true = λ v. absurd (omega arith); if_false = λ v. absurd (omega arith); if_fail = λ v. absurd (omega arith) }

  pub delete_says_true : {r t p a n : ℕ} → SawHeld M r t a n → deleter_in (M t) n ≡ p + 1 → DeleteSays M r t p a n true_answer
  delete_says_true saw mine = record { if_true = λ v. (saw, mine); if_false = λ v. absurd (omega arith); if_fail = λ v. absurd (omega arith) }

  pub delete_says_false : {r t p a n : ℕ} → (n ≡ 0) ⊎ ((deleter_in (M t) n ≢ 0) × (deleter_in (M t) n ≢ p + 1)) → GoneSince M r t a
      → DeleteSays M r t p a n false_answer
  delete_says_false other gone = record { if_true = λ v. absurd (omega arith); if_false = λ v. (other, gone); if_fail = λ v. absurd (omega arith) }

  pub delete_says_fail : {r t p a n : ℕ} → (n ≡ 0) ⊎ (deleter_in (M t) n ≢ p + 1) → DeleteSays M r t p a n fail_answer
  delete_says_fail other = record { if_true = λ v. absurd (omega arith); if_false = λ v. absurd (omega arith); if_fail = λ v. other }

  pub delete_says_nothing : {r t p a n : ℕ} → DeleteSays M r t p a n no_answer
  delete_says_nothing = record { if_true = λ v. absurd (omega arith); if_false = λ v. absurd (omega arith); if_fail = λ v. absurd (omega arith) }

  pub find_says_true : {r t a : ℕ} → HeldSince M r t a → FindSays M r t a true_answer
  find_says_true held = record { if_true = λ v. held; if_false = λ v. absurd (omega arith) }

  pub find_says_false : {r t a : ℕ} → GoneSince M r t a → FindSays M r t a false_answer
  find_says_false gone = record { if_true = λ v. absurd (omega arith); if_false = λ v. gone }
