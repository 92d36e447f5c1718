-- The laws of nodes in use: head and tail are, a node in use lies within the tables and stays in use, the next node is none and then is one, and
-- longer tables have the same. No other file of this crate looks into `in_use`. Rests on Fitting.
use mathlib.Core.Path.{◌≡◌, refl, ap, ◌∙◌}
use mathlib.Core.Logic.{◌≢◌}
use mathlib.Core.Bool.{true, false}
use Prim.Native.Nat.{◌≤◌, ◌<◌}
use native.Mathlib.Omega.{arith}
use lib.Dec.{ltb}
use borrow.Author.Tests.{ltb-true, lt-ltb, eqb-false}
use Rattle.record.specs.Record.{head_node, tail_node}
use Rattle.record.specs.declared.Node.{Node}
use Rattle.record.specs.declared.Address.{Address}
use Rattle.table.specs.Words.{Memory, in_use, Write, written, next_node, none_left, given_out}
use Rattle.table.proofs.Laws.Fitting.{Beyond, longer, count_written, count_given, Room}

pub used_below : (m : Memory) (n : Node) → in_use m n ≡ true → n.0 < m.count
unfolding in_use
used_below m n u = ltb-true n.0 m.count u

pub head_in_use : {m : Memory} → Room m → in_use m head_node ≡ true
unfolding in_use
head_in_use {m} o = lt-ltb 0 m.count (omega (arith, o.least))

pub tail_in_use : {m : Memory} → Room m → in_use m tail_node ≡ true
unfolding in_use
tail_in_use {m} o = lt-ltb 1 m.count (omega (arith, o.least))

-- a node in use is one of the stated nodes
pub among_stated : (m : Memory) → m.count ≤ m.nodes → (n : Node) → in_use m n ≡ true → n.0 < m.nodes
among_stated m most n u = omega (arith, used_below m n u, most)

pub within : {m : Memory} → Room m → (n : Node) → in_use m n ≡ true → n.0 < m.nodes
within {m} o n u = among_stated m o.most n u

-- a write takes no node out of use and brings none into it
pub same_written : (f : Write) (m : Memory) (n : Node) → in_use (written f m) n ≡ in_use m n
unfolding in_use
same_written f m n = ap (ltb n.0) (count_written f m)

pub used_written : (f : Write) (m : Memory) (n : Node) → in_use m n ≡ true → in_use (written f m) n ≡ true
used_written f m n u = same_written f m n ∙ u

-- words past the ends of the tables bring none into use
pub same_longer : {m : Memory} (b : Beyond) → Room m → (n : Node) → in_use (longer b m) n ≡ in_use m n
unfolding in_use
same_longer b o n = refl

-- ---- a node is given out

-- the next node lies between head and tail and the end of the stated nodes
pub next_inner : {m : Memory} → Room m → 2 ≤ (next_node m).0
next_inner o = o.least

pub next_within : {m : Memory} → Room m → none_left m ≡ false → (next_node m).0 < m.nodes
next_within {m} o spare = omega (arith, o.most, eqb-false m.count m.nodes spare)

-- a node in use is not the next one
pub not_next : (m : Memory) (n : Node) → in_use m n ≡ true → n ≢ next_node m
not_next m n u q = absurd (omega (arith, used_below m n u, ap (λ (k : Node). k.0) q))

module _ (a : Address) (m : Memory) where
  pub given_used : in_use (given_out a m) (next_node m) ≡ true
  unfolding in_use
  given_used = lt-ltb m.count (given_out a m).count (omega (arith, count_given a m))

  pub given_keeps_used : (n : Node) → in_use m n ≡ true → in_use (given_out a m) n ≡ true
  unfolding in_use
  given_keeps_used n u = lt-ltb n.0 (given_out a m).count (omega (arith, used_below m n u, count_given a m))
