-- Reached states: those that a run from a quiet state comes to, processes busy or idle; what is promised of the chain in each of them; and the run
-- that follows one. Rests on Chain, Events and Demand3.
use Rattle.std.specs.Prelude.{◌≡◌, ◌≢◌, ◌↔◌, ℕ, ◌+◌, ◌<◌}
use mathlib.Core.List.{List, [], ◌∷◌, Memᴰ}
use Rattle.record.specs.Record.{address, head_node, tail_node}
use Rattle.record.specs.declared.Node.{Node}
use Rattle.record.specs.declared.Address.{Address}
use Rattle.record.specs.declared.Event.{Event}
use Rattle.table.specs.Words.{Memory, address_at, rank, rank_of}
use Rattle.table.specs.Chain.{OnChain, tail_ahead, ahead, chain, last_of, chain_addresses}
use Rattle.table.specs.Events.{State}
use Rattle.table.specs.Demand3.{Quiet, at, AddressesFit}

-- the state at some moment of a run from a quiet state, in which the addresses requested are 32-bit numbers
pub record Reached (σ : State) : Type 0 where
  pub start : State
  pub events : ℕ → Event
  pub quiet : Quiet start
  pub fit : AddressesFit events
  pub time : ℕ
  pub is : at start events time ≡ σ

-- ---- the chain

-- on the chain, between head and tail
pub record Between (m : Memory) (n : Node) : Type 0 where
  pub on : OnChain m n
  pub not_head : n ≢ head_node
  pub not_tail : n ≢ tail_node

-- a list whose elements, by their heights, each stand above the one before, and the first above `from`
abbrev pub RisesAbove : {A : Type 0} → (height : A → ℕ) → (from : ℕ) → List A → Type 0
RisesAbove height from [] = Unit {0}
RisesAbove height from (x ∷ l) = (from < height x) × RisesAbove height (height x) l

-- none stands in the list twice
abbrev pub EachOnce : {A : Type 0} → List A → Type 0
EachOnce [] = Unit {0}
EachOnce (x ∷ l) = (Memᴰ x l → ⊥) × EachOnce l

-- "the address of every node on the chain between head and tail, rising": `chain` lists exactly these nodes, each once, strictly rising from head
-- on, and stops because it meets tail, in which the chain ends; `chain_addresses` lists exactly their addresses, strictly rising
pub record ChainListed (m : Memory) : Type 0 where
  pub nodes : (n : Node) → Memᴰ n (chain m) ↔ Between m n
  pub once : EachOnce (chain m)
  pub rising : RisesAbove (rank m.addresses) (rank m.addresses head_node) (chain m)
  pub stops : ahead m (last_of head_node (chain m)) ≡ tail_ahead
  pub ends : OnChain m tail_node
  pub named : (a : Address) → Memᴰ a (chain_addresses m) ↔ ((n : Node) × Between m n × (address (address_at m n) ≡ a))
  pub addresses_rising : RisesAbove rank_of (rank m.addresses head_node) (chain_addresses m)

-- ---- what follows

-- the events from moment k on
abbrev pub events_from : (k : ℕ) → (ℕ → Event) → ℕ → Event
events_from k e t = e (k + t)
