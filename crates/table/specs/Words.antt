-- The words of 01, "What is stored" and "Sizes": the three tables, the count and the stated sizes; links, deleters, the order of nodes, nodes in use.
-- Rests on the record.
use Rattle.std.specs.Prelude.{Bool, false, cond, List, ◌∷◌, ℕ, ◌+◌, ◌-◌, ◌*◌, ◌/◌, ◌%◌, ltb, eqb, length, get_or, set, replicate}
use Rattle.record.specs.Record.{node, head_node, tail_node}
use Rattle.record.specs.declared.Node.{Node}
use Rattle.record.specs.declared.Process.{Process}
use Rattle.record.specs.declared.Address.{Address}

-- "Each node has three words: address, link, deleter." "Nodes are given out in rising number; a count says how many". Beside them the stated sizes:
-- the number of nodes and the number of processes.
pub record Memory : Type 0 where
  pub addresses : List ℕ
  pub links : List ℕ
  pub deleters : List ℕ
  pub count : ℕ
  pub nodes : ℕ
  pub processes : ℕ

abbrev pub memory : (addresses links deleters : List ℕ) → (count nodes processes : ℕ) → Memory
memory addresses links deleters count nodes processes =
    record { addresses = addresses; links = links; deleters = deleters; count = count; nodes = nodes; processes = processes }

-- the same but for one part
abbrev pub addresses≔ : List ℕ → Memory → Memory
addresses≔ words m = memory words m.links m.deleters m.count m.nodes m.processes

abbrev pub links≔ : List ℕ → Memory → Memory
links≔ words m = memory m.addresses words m.deleters m.count m.nodes m.processes

abbrev pub deleters≔ : List ℕ → Memory → Memory
deleters≔ words m = memory m.addresses m.links words m.count m.nodes m.processes

abbrev pub count≔ : ℕ → Memory → Memory
count≔ count m = memory m.addresses m.links m.deleters count m.nodes m.processes

-- how many words each table has
pub record Lengths : Type 0 where
  pub addresses : ℕ
  pub links : ℕ
  pub deleters : ℕ

unfoldable pub lengths : Memory → Lengths
lengths m = record { addresses = length m.addresses; links = length m.links; deleters = length m.deleters }

unfoldable pub address_at : Memory → Node → ℕ
address_at m n = get_or m.addresses n.0 0

unfoldable pub link_at : Memory → Node → ℕ
link_at m n = get_or m.links n.0 0

unfoldable pub deleter_at : Memory → Node → ℕ
deleter_at m n = get_or m.deleters n.0 0

-- "A link word is 2 × target + mark."
abbrev pub link_word : Node → Bool → ℕ
link_word target mark = 2 * target.0 + cond mark 1 0

abbrev pub target_of : ℕ → Node
target_of word = node (word / 2)

abbrev pub is_marked : ℕ → Bool
is_marked word = eqb (word % 2) 1

-- "A deleter word is 0 for none, else process number + 1."
abbrev pub no_deleter : ℕ
no_deleter = 0

abbrev pub deleter_word : Process → ℕ
deleter_word p = p.0 + 1

-- A node in use is one that was given out: "not below the count" is not in use. What is needed of it beyond this line are the laws of
-- proofs/Laws/InUse.
unfoldable pub in_use : Memory → Node → Bool
in_use m n = ltb n.0 m.count

-- "Addresses: 0 to 4,294,967,295, all usable."
abbrev pub address_limit : ℕ
address_limit = 4294967296

-- "Head sorts below and tail above every address, by node number": head 0, an address a as a + 1, tail past the largest of these
abbrev pub above_all : ℕ
above_all = address_limit + 1

abbrev pub rank_of : Address → ℕ
rank_of a = a.0 + 1

unfoldable pub rank : List ℕ → Node → ℕ
rank addresses n = cond (eqb n.0 head_node.0) 0 (cond (eqb n.0 tail_node.0) above_all (get_or addresses n.0 0 + 1))

-- a node sorts below an address, or has it
abbrev pub below : List ℕ → Node → Address → Bool
below addresses n a = ltb (rank addresses n) (rank_of a)

abbrev pub equal : List ℕ → Node → Address → Bool
equal addresses n a = eqb (rank addresses n) (rank_of a)

-- ---- one word written

-- "A swap compares the whole link or deleter word and writes only if equal."
abbrev pub swaps : (met expected : ℕ) → Bool
swaps met expected = eqb met expected

pub data Write : Type 0 where
  nothing : Write
  link_is : Node → ℕ → Write
  deleter_is : Node → ℕ → Write

unfoldable pub written : Write → Memory → Memory
written nothing m = m
written (link_is n word) m = links≔ (set m.links n.0 word) m
written (deleter_is n word) m = deleters≔ (set m.deleters n.0 word) m

-- ---- a node given out

-- "Insert also takes the next node"
abbrev pub next_node : Memory → Node
next_node m = node m.count

-- there is none: "the count equals the number of nodes"
abbrev pub none_left : Memory → Bool
none_left m = eqb m.count m.nodes

-- "sets its address, links it unmarked to tail, deleter none"
unfoldable pub given_out : Address → Memory → Memory
given_out a m =
    let n = (next_node m).0 in
    addresses≔ (set m.addresses n a.0)
    (links≔ (set m.links n (link_word tail_node false)) (deleters≔ (set m.deleters n no_deleter) (count≔ (m.count + 1) m)))

-- ---- fresh

-- "Fresh: head links to tail, tail to itself, both unmarked; their address words are 0 and never read; all deleters are 0. Nodes not yet
-- given out are all zero words." "a count .., starting at 2"
unfoldable pub fresh_memory : (nodes processes : ℕ) → Memory
fresh_memory nodes processes =
    memory
    (replicate nodes 0)
    (link_word tail_node false ∷ link_word tail_node false ∷ replicate (nodes - 2) 0)
    (replicate nodes no_deleter)
    2 nodes processes
