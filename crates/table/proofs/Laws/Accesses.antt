-- "Each accepted step makes at most one access to a link or deleter word": which word, for each row; that a step depends on no other and writes
-- no other; and 01's sentence on the nodes that a row uses. Rests on Tests.
use mathlib.Core.Path.{◌≡◌, refl}
use mathlib.Core.List.{List, [], ◌∷◌, map}
use Prim.Native.Nat.{ℕ}
use lib.Dec.{eqb}
use Rattle.record.specs.declared.Node.{Node}
use Rattle.record.specs.declared.Process.{Process}
use Rattle.record.specs.declared.Record.{Record}
use Rattle.table.specs.Words.{Memory, in_use, Write, nothing, link_is, deleter_is, no_deleter}
use Rattle.table.specs.Places.{Field, head, pred, curr, succ, own, node_of, link_of, Row, read_link, write_link, swap_link, read_deleter, swap_deleter}
use Rattle.table.specs.Places.{write_node, own_record, hand_out, Place, place_of, row, p0, p1, p2, p3, p4, p5, p6, p7, p8, p9, p10, p11, p12, p13}
use Rattle.table.specs.Places.{p14, p15, p16, p17, p18, p19}
use Rattle.table.specs.Steps.{Meets, link, deleter, no_word, word_met, access_of, access_in, turn, turn_in}
use Rattle.basics.proofs.Tests.{if}

abbrev pub places : List Place
places = p0 ∷ p1 ∷ p2 ∷ p3 ∷ p4 ∷ p5 ∷ p6 ∷ p7 ∷ p8 ∷ p9 ∷ p10 ∷ p11 ∷ p12 ∷ p13 ∷ p14 ∷ p15 ∷ p16 ∷ p17 ∷ p18 ∷ p19 ∷ []

-- the word that each row meets, from place 0 to 19
pub words_met : (addresses : List ℕ) (p : Process) (r : Record)
    → map (λ place. (access_of p r (row addresses place r)).meets) places
    ≡ (link head ∷ link curr ∷ link pred ∷ link own ∷ link pred ∷ no_word ∷ link curr ∷ link curr ∷ link pred ∷ deleter curr ∷ deleter curr
    ∷ link curr ∷ link curr ∷ no_word ∷ link own ∷ link own ∷ deleter own ∷ deleter own ∷ no_word ∷ no_word ∷ [])
unfolding row
words_met addresses p r = refl

-- "Used are own in rows 3, 4, 14 to 17 and at the end of a recovering search; curr in 1 to 12; pred in 2, 4, 8; succ in 2, 7, 8. Row 13 tests
-- no node." (Row 7 names succ twice.)
pub nodes_used : (addresses : List ℕ) (p : Process) (r : Record)
    → map (λ place. (access_of p r (row addresses place r)).uses) places
    ≡ ((head ∷ []) ∷ (curr ∷ []) ∷ (pred ∷ curr ∷ succ ∷ []) ∷ (own ∷ curr ∷ []) ∷ (pred ∷ curr ∷ own ∷ []) ∷ (curr ∷ []) ∷ (curr ∷ [])
    ∷ (curr ∷ succ ∷ succ ∷ []) ∷ (pred ∷ curr ∷ succ ∷ []) ∷ (curr ∷ []) ∷ (curr ∷ []) ∷ (curr ∷ []) ∷ (curr ∷ []) ∷ [] ∷ (own ∷ [])
    ∷ (own ∷ []) ∷ (own ∷ []) ∷ (own ∷ []) ∷ [] ∷ [] ∷ [])
unfolding row
nodes_used addresses p r = refl

-- two memories with the same addresses and the same nodes in use that differ only in other link and deleter words give the same outcome, record
-- and write
pub step_sees_one_word : (m m' : Memory) (p : Process) (r : Record) → m.addresses ≡ m'.addresses → ((n : Node) → in_use m n ≡ in_use m' n)
    → word_met m r (access_in m p r).meets ≡ word_met m' r (access_in m' p r).meets → turn_in m p r ≡ turn_in m' p r
unfolding turn_in
step_sees_one_word m m' p r addresses used word =
    λ i. turn (λ n. used n i) (word i) (access_of p r (row (addresses i) (place_of r.lost.place) r)) r

-- ---- what is written is the word met, if anything

-- a write to that word, or none
pub data At (r : Record) : Meets → Write → Type 0 where
  writes_nothing : {x : Meets} {w : Write} → w ≡ nothing → At r x w
  writes_link : {x : Meets} {w : Write} (f : Field) (word : ℕ) → x ≡ link f → w ≡ link_is (node_of r f) word → At r x w
  writes_deleter : {x : Meets} {w : Write} (f : Field) (word : ℕ) → x ≡ deleter f → w ≡ deleter_is (node_of r f) word → At r x w

access_writes_its_word : (p : Process) (r : Record) (x : Row) (w : ℕ) → At r (access_of p r x).meets ((access_of p r x).writes w)
access_writes_its_word p r (read_link f follows) w = writes_nothing refl
access_writes_its_word p r (write_link f new after) w = writes_link f (link_of r new) refl refl
access_writes_its_word p r (swap_link f old new done lost) w =
    if (At r (link f)) (eqb w (link_of r old)) (λ done. writes_link f (link_of r new) refl refl) (λ lost. writes_nothing refl)
access_writes_its_word p r (read_deleter f follows) w = writes_nothing refl
access_writes_its_word p r (swap_deleter f after) w =
    if (At r (deleter f)) (eqb w no_deleter) (λ done. writes_deleter f _ refl refl) (λ lost. writes_nothing refl)
access_writes_its_word p r (write_node f after) w = writes_nothing refl
access_writes_its_word p r (own_record after) w = writes_nothing refl
access_writes_its_word p r (hand_out answer after) w = writes_nothing refl

pub step_writes_the_word_met : (m : Memory) (p : Process) (r : Record) → At r (access_in m p r).meets (turn_in m p r).writes
unfolding turn_in
step_writes_the_word_met m p r = access_writes_its_word p r (row m.addresses (place_of r.lost.place) r) (word_met m r (access_in m p r).meets)
