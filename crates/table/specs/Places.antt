-- 01's place table, row by row: a row is its one access, and what follows from what the access meets. Rests on Words and the record's changes.
use Rattle.std.specs.Prelude.{Bool, true, false, cond, not, ◌&&◌, List, [], ◌∷◌, ℕ, eqb, get_or}
use Rattle.record.specs.Record.{◌▸◌, ◌with◌, to, pred≔, curr≔, succ≔, node≔, result≔, status≔, head_node, idle_status, insert_kind, delete_kind}
use Rattle.record.specs.Record.{no_node, no_answer, false_answer, true_answer, fail_answer}
use Rattle.record.specs.declared.Node.{Node}
use Rattle.record.specs.declared.Record.{Record}
use Rattle.table.specs.Words.{link_word, below, equal}

-- ---- the words of the table

-- A node as a row names it: head, or a field of the record. "Own" is the record's node.
pub data Field : Type 0 where
  head pred curr succ own : Field

abbrev pub node_of : Record → Field → Node
node_of r f =
    elim f [ head ↦ head_node | pred ↦ r.lost.pred | curr ↦ r.lost.curr | succ ↦ r.lost.succ | own ↦ r.kept.node ]

-- a link word as a row names it: "(curr, unmarked)"
pub data Link : Type 0 where
  unmarked marked : Field → Link

abbrev pub link_of : Record → Link → ℕ
link_of r l = elim l [ unmarked f ↦ link_word (node_of r f) false | marked f ↦ link_word (node_of r f) true ]

-- what follows: the record goes on; or it goes on if own, which is used only now, is in use
pub data Next : Type 0 where
  goes uses_own : Record → Next

-- a row: its access, then the record that follows from what the access meets
pub data Row : Type 0 where
  read_link : Field → (Node → Bool → Next) → Row  -- from target and mark
  write_link : Field → Link → Record → Row
  swap_link : Field → Link → Link → Record → Record → Row  -- "(curr, unmarked) to (succ, unmarked)"; done; lost
  read_deleter : Field → (Bool → Record) → Row  -- from whether it is p
  swap_deleter : Field → Record → Row  -- "none to p"; either way
  write_node : Field → Record → Row  -- a field of the record itself: no link or deleter word
  own_record : Record → Row  -- no access
  hand_out : ℕ → Record → Row  -- the answer handed out; no access

-- a place by its number; `off` past 19
pub data Place : Type 0 where
  p0 p1 p2 p3 p4 p5 p6 p7 p8 p9 p10 p11 p12 p13 p14 p15 p16 p17 p18 p19 off : Place

unfoldable pub place_of : ℕ → Place
place_of n =
    get_or
    (p0 ∷ p1 ∷ p2 ∷ p3 ∷ p4 ∷ p5 ∷ p6 ∷ p7 ∷ p8 ∷ p9 ∷ p10 ∷ p11 ∷ p12 ∷ p13 ∷ p14 ∷ p15 ∷ p16 ∷ p17 ∷ p18 ∷ p19 ∷ [])
    n off

-- ---- the place table, over the address words

module _ (addresses : List ℕ) where
  -- "End of search."
  unfoldable pub search_ends : Record → Next
  search_ends r =
      cond r.lost.recovering
      (uses_own (cond (eqb (node_of r curr).0 (node_of r own).0) (r ▸ 18 with true_answer) (r ▸ to 14)))
      (cond (eqb r.kept.kind insert_kind)
      (goes (cond (equal addresses (node_of r curr) r.kept.address) (r ▸ 18 with false_answer) (r ▸ to 3)))
      (goes (cond (equal addresses (node_of r curr) r.kept.address) (r ▸ to 5) (r ▸ 18 with false_answer))))

  unfoldable pub row : Place → Record → Row
  row p0 r = read_link head λ target mark. goes (r ▸ pred≔ (node_of r head) ▸ curr≔ target ▸ to 1)
  row p1 r = read_link curr λ target mark.
      cond mark (goes (r ▸ succ≔ target ▸ to 2))
      (cond (below addresses (node_of r curr) r.kept.address)
      (goes (r ▸ succ≔ target ▸ pred≔ (node_of r curr) ▸ curr≔ target ▸ to 1))
      (search_ends (r ▸ succ≔ target)))
  row p2 r = swap_link pred (unmarked curr) (unmarked succ)
      (r ▸ curr≔ (node_of r succ) ▸ to 1)
      (r ▸ to 0)
  row p3 r = write_link own (unmarked curr) (r ▸ to 4)
  row p4 r = swap_link pred (unmarked curr) (unmarked own)
      (r ▸ 18 with true_answer)
      (r ▸ to 0)
  row p5 r = write_node curr (r ▸ node≔ (node_of r curr) ▸ to 6)
  row p6 r = read_link curr λ target mark. goes (cond mark (r ▸ succ≔ target ▸ to 8) (r ▸ succ≔ target ▸ to 7))
  row p7 r = swap_link curr (unmarked succ) (marked succ)
      (r ▸ to 6)
      (r ▸ to 6)
  row p8 r = swap_link pred (unmarked curr) (unmarked succ)
      (r ▸ to 9)
      (r ▸ to 9)
  row p9 r = swap_deleter curr (r ▸ to 10)
  row p10 r = read_deleter curr λ mine. cond mine (r ▸ 18 with true_answer) (r ▸ 18 with false_answer)
  row p11 r = read_link curr λ target mark. goes
      (cond (below addresses target r.kept.address) (r ▸ curr≔ target ▸ to 11)
      (cond (equal addresses target r.kept.address) (r ▸ curr≔ target ▸ to 12)
      (r ▸ curr≔ target ▸ 19 with false_answer)))
  row p12 r = read_link curr λ target mark. goes (cond mark (r ▸ 19 with false_answer) (r ▸ 19 with true_answer))
  row p13 r = own_record
      (cond (not (eqb r.kept.result no_answer)) (r ▸ 19 with r.kept.result)
      (cond (eqb r.kept.kind insert_kind) (r ▸ to 0)
      (cond (eqb r.kept.kind delete_kind && not (eqb (node_of r own).0 no_node.0)) (r ▸ to 15)
      (r ▸ 19 with fail_answer))))
  row p14 r = read_link own λ target mark. goes (cond mark (r ▸ 18 with true_answer) (r ▸ 19 with fail_answer))
  row p15 r = read_link own λ target mark. goes (cond mark (r ▸ to 16) (r ▸ 19 with fail_answer))
  row p16 r = swap_deleter own (r ▸ to 17)
  row p17 r = read_deleter own λ mine. cond mine (r ▸ 18 with true_answer) (r ▸ 19 with fail_answer)
  row p18 r = own_record (r ▸ result≔ r.lost.pending ▸ to 19)
  row p19 r = hand_out r.lost.pending (r ▸ status≔ idle_status)
  row off r = own_record r
