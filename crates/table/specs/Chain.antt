-- The chain of 01: the nodes on it, "held", and the walk along it that the `keys` line shows. Rests on Words.
use Rattle.std.specs.Prelude.{◌≡◌, ◌≢◌, Bool, true, false, cond, List, [], ◌∷◌, map, ℕ, zero, suc, ltb, eqb}
use Rattle.record.specs.Record.{address, head_node, tail_node}
use Rattle.record.specs.declared.Node.{Node}
use Rattle.record.specs.declared.Address.{Address}
use Rattle.table.specs.Words.{Memory, address_at, link_at, target_of, is_marked, in_use, rank}

-- ---- "Held" means: on the chain from head, not head or tail, and unmarked.

-- the node after a node
abbrev pub follows : Memory → Node → Node
follows m n = target_of (link_at m n)

-- n is reached from h along f, never stepping on from tail
pub data Reach (f : Node → Node) (h : Node) : Node → Type 0 where
  here : {n : Node} → h ≡ n → Reach f h n
  next : {n o : Node} → Reach f h n → n ≢ tail_node → f n ≡ o → Reach f h o

abbrev pub OnChain : Memory → Node → Type 0
OnChain m n = Reach (follows m) head_node n

-- a node whose link is marked
abbrev pub Struck : Memory → Node → Type 0
Struck m n = is_marked (link_at m n) ≡ true

-- the node n holds the address a
pub record HeldBy (m : Memory) (a : Address) (n : Node) : Type 0 where
  pub on : OnChain m n
  pub not_head : n ≢ head_node
  pub not_tail : n ≢ tail_node
  pub plain : is_marked (link_at m n) ≡ false
  pub named : address (address_at m n) ≡ a

abbrev pub Held : Memory → Address → Type 0
Held m a = (n : Node) × HeldBy m a n

-- ---- "the address of every node on the chain between head and tail, rising"

-- what the walk along the chain meets after a node: the next node; or it stops, before tail, before a node not in use, or before one that does not
-- sort above the node it stands on
pub data Ahead : Type 0 where
  onto : Node → Ahead
  tail_ahead not_in_use not_above : Ahead

-- of a target: whether it is tail, is in use, sorts above
abbrev pub ahead_of : (target : Node) → (tail used above : Bool) → Ahead
ahead_of target tail used above = cond tail tail_ahead (cond used (cond above (onto target) not_above) not_in_use)

unfoldable pub ahead : Memory → Node → Ahead
ahead m n =
    let target = follows m n in
    ahead_of target (eqb target.0 tail_node.0) (in_use m target) (ltb (rank m.addresses n) (rank m.addresses target))

-- the nodes after n, for at most so many steps
unfoldable pub walk : (steps : ℕ) → Memory → Node → List Node
walk zero m n = []
walk (suc k) m n = elim (ahead m n) [ onto x ↦ x ∷ walk k m x | tail_ahead ↦ [] | not_in_use ↦ [] | not_above ↦ [] ]

-- the nodes after n: each is in use and sorts above the one before it, so that none comes twice, and the walk ends by itself within the count
abbrev pub nodes_after : Memory → Node → List Node
nodes_after m n = walk m.count m n

-- the nodes between head and tail
unfoldable pub chain : Memory → List Node
chain m = nodes_after m head_node

-- the node that a walk from a node along a list stands on at its end
abbrev pub last_of : Node → List Node → Node
last_of from [] = from
last_of from (n ∷ l) = last_of n l

unfoldable pub chain_addresses : Memory → List Address
chain_addresses m = map (λ n. address (address_at m n)) (chain m)
