-- The walk along the chain goes onto the node that follows where that is not tail, is in use and sorts above; before tail it stops; and it never runs
-- out of steps. Rests on Chain and InUse.
use mathlib.Core.Path.{◌≡◌, refl, sym, ap, subst}
use mathlib.Core.Logic.{◌≢◌}
use mathlib.Core.Bool.{Bool, true, false, cond}
use mathlib.Core.List.{List, [], ◌∷◌}
use Prim.Native.Nat.{ℕ, zero, suc, ◌+◌, ◌≤◌, ◌<◌}
use native.Mathlib.Omega.{arith}
use native.Mathlib.Decide.{ℕ_discrete}
use lib.Dec.{ltb, eqb}
use borrow.Author.Tests.{eq-eqb, ne_eqb, lt-ltb, le-ltb, ltb-true, eqb-false}
use Rattle.basics.proofs.Tests.{if_lt}
use Rattle.record.specs.Record.{node, tail_node}
use Rattle.record.specs.declared.Node.{Node}
use Rattle.table.specs.Words.{Memory, in_use, rank}
use Rattle.table.specs.Chain.{follows, Ahead, onto, tail_ahead, not_in_use, not_above, ahead_of, ahead, walk, nodes_after}
use Rattle.table.proofs.Laws.InUse.{used_below}

-- ---- what lies ahead

-- what lets the walk go on from n to y
pub record Onward (m : Memory) (n y : Node) : Type 0 where
  pub target : follows m n ≡ y
  pub not_tail : y ≢ tail_node
  pub used : in_use m y ≡ true
  pub above : rank m.addresses n < rank m.addresses y

-- whatever lies ahead: a next node, or one of the three that stop the walk
pub goes_or_stops : (P : Ahead → Type 0) (x : Ahead) → ((y : Node) → x ≡ onto y → P (onto y)) → P tail_ahead → P not_in_use → P not_above → P x
goes_or_stops P (onto y) goes t u a = goes y refl
goes_or_stops P tail_ahead goes t u a = t
goes_or_stops P not_in_use goes t u a = u
goes_or_stops P not_above goes t u a = a

-- what a walk with k steps left has after a node, from what lies ahead
abbrev pub walk_on : ℕ → Memory → Ahead → List Node
walk_on k m x = elim x [ onto y ↦ y ∷ walk k m y | tail_ahead ↦ [] | not_in_use ↦ [] | not_above ↦ [] ]

module _ (m : Memory) (n : Node) where
  pub goes_onward : Onward m n (follows m n) → ahead m n ≡ onto (follows m n)
  unfolding ahead
  goes_onward o = rw (
    ne_eqb (follows m n).0 tail_node.0 (λ q. o.not_tail (ap node q)),
    o.used,
    lt-ltb (rank m.addresses n) (rank m.addresses (follows m n)) o.above,
  ) refl

  -- it goes on where all three tests tell so, and to the node that follows
  all_tell : (y : Node) (tail used above : Bool) → let target = follows m n in
      eqb target.0 tail_node.0 ≡ tail → in_use m target ≡ used → ltb (rank m.addresses n) (rank m.addresses target) ≡ above
      → ahead_of target tail used above ≡ onto y → Onward m n y
  all_tell y true used above t u a e = absurd (let z : ◌≡◌ {A = ℕ} 0 1 = cc in omega arith)
  all_tell y false false above t u a e = absurd (let z : ◌≡◌ {A = ℕ} 0 1 = cc in omega arith)
  all_tell y false true false t u a e = absurd (let z : ◌≡◌ {A = ℕ} 0 1 = cc in omega arith)
  all_tell y false true true t u a e =
      let is : follows m n ≡ y = cc in
      subst (Onward m n) is (record {
        target = refl;
        not_tail = λ q. eqb-false _ _ t (ap (λ k. k.0) q);
        used = u;
        above = ltb-true _ _ a;
      })

  pub ahead_onto : (y : Node) → ahead m n ≡ onto y → Onward m n y
  unfolding ahead
  ahead_onto y e = all_tell y (eqb (follows m n).0 tail_node.0) _ _ refl refl refl e

  pub walk_onward : (k : ℕ) (y : Node) → ahead m n ≡ onto y → walk (suc k) m n ≡ y ∷ walk k m y
  unfolding walk
  walk_onward k y q = ap (walk_on k m) q

  -- before tail it stops
  pub meets_tail : follows m n ≡ tail_node → ahead m n ≡ tail_ahead
  unfolding ahead
  meets_tail q = rw (eq-eqb (follows m n).0 tail_node.0 (ap (λ k. k.0) q)) refl

  pub walk_ended : ahead m n ≡ tail_ahead → (k : ℕ) → walk k m n ≡ []
  unfolding walk
  walk_ended q zero = refl
  walk_ended q (suc k) = ap (walk_on k m) q

-- ---- the walk ends by itself: of the nodes in use, fewer sort above each node that it goes on to

-- whether the node numbered c sorts above a rank, as a number; and how many of those numbered below c do
abbrev sorts_above : List ℕ → (r c : ℕ) → ℕ
sorts_above addresses r c = cond (ltb r (rank addresses (node c))) 1 0

abbrev higher : List ℕ → (r c : ℕ) → ℕ
higher addresses r zero = 0
higher addresses r (suc c) = sorts_above addresses r c + higher addresses r c

higher_most : (addresses : List ℕ) (r c : ℕ) → higher addresses r c ≤ c
higher_most addresses r zero = omega arith
higher_most addresses r (suc c) =
    if_lt (λ k. k + higher addresses r c ≤ suc c) r (rank addresses (node c))
    (λ _. omega (arith, higher_most addresses r c)) (λ _. omega (arith, higher_most addresses r c))

-- above a higher rank no more do, and fewer where a node lies between
module _ (addresses : List ℕ) (r s : ℕ) (up : r ≤ s) where
  above_falls : (c : ℕ) → sorts_above addresses s c ≤ sorts_above addresses r c
  above_falls c =
      if_lt (λ k. k ≤ sorts_above addresses r c) s (rank addresses (node c))
      (λ l. rw (lt-ltb r (rank addresses (node c)) (omega arith)) (omega arith)) (λ _. omega arith)

  higher_falls : (c : ℕ) → higher addresses s c ≤ higher addresses r c
  higher_falls zero = omega arith
  higher_falls (suc c) = omega (arith, above_falls c, higher_falls c)

  fewer_higher : (x c : ℕ) → x < c → r < rank addresses (node x) → rank addresses (node x) ≤ s → higher addresses s c < higher addresses r c
  fewer_higher x zero l above most = absurd (omega arith)
  fewer_higher x (suc c) l above most = elim (ℕ_discrete x c) [
    | yes q ↦
        let same : rank addresses (node x) ≡ rank addresses (node c) = ap (λ k. rank addresses (node k)) q in
        let counts : sorts_above addresses r c ≡ 1 = rw (lt-ltb r (rank addresses (node c)) (omega arith)) in
        let not_now : sorts_above addresses s c ≡ 0 = rw (le-ltb s (rank addresses (node c)) (omega arith)) in
        omega (arith, higher_falls c)
    | no q ↦ omega (arith, above_falls c, fewer_higher x c (omega arith) above most)
  ]

-- how many nodes in use sort above n
abbrev to_pass : Memory → Node → ℕ
to_pass m n = higher m.addresses (rank m.addresses n) m.count

fewer_to_pass : (m : Memory) (n y : Node) → ahead m n ≡ onto y → to_pass m y < to_pass m n
fewer_to_pass m n y on =
    let goes = ahead_onto m n y on in
    fewer_higher m.addresses (rank m.addresses n) (rank m.addresses y) (omega (arith, goes.above)) y.0 m.count
    (used_below m y goes.used) goes.above (omega arith)

enough : (k steps : ℕ) (m : Memory) (n : Node) → to_pass m n ≤ k → k ≤ steps → walk steps m n ≡ walk k m n
unfolding walk
enough zero zero m n few more = refl
enough zero (suc j) m n few more =
    goes_or_stops (λ x. walk_on j m x ≡ []) (ahead m n) (λ y on. absurd (omega (arith, fewer_to_pass m n y on))) refl refl refl
enough (suc k) zero m n few more = absurd (omega arith)
enough (suc k) (suc j) m n few more =
    goes_or_stops (λ x. walk_on j m x ≡ walk_on k m x) (ahead m n)
    (λ y on. ap (λ ns. y ∷ ns) (enough k j m y (omega (arith, fewer_to_pass m n y on)) (omega arith))) refl refl refl

module _ (m : Memory) (n : Node) where
  -- more steps than the walk is given change nothing
  pub walk_ends_by_itself : (steps : ℕ) → m.count ≤ steps → walk steps m n ≡ nodes_after m n
  walk_ends_by_itself steps more = enough m.count steps m n (higher_most m.addresses (rank m.addresses n) m.count) more

  -- so it goes on from node to node without counting steps
  pub nodes_after_lem : nodes_after m n ≡ walk_on m.count m (ahead m n)
  unfolding walk
  nodes_after_lem = sym (walk_ends_by_itself (suc m.count) (omega arith))
