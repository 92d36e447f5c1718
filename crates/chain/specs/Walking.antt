-- What the walk along the chain meets after a node, spelt with this crate's types. Rests on the table's `ahead`.
use Rattle.record.specs.Record.{address}
use Rattle.record.specs.declared.Node.{Node}
use Rattle.table.specs.Words.{Memory, addresses≔, links≔, address_at}
use Rattle.table.specs.Chain as table
use Rattle.table.specs.Chain.{onto, tail_ahead, not_in_use, not_above, ahead}
use Rattle.words.specs.LentMemory.{sized}
use Rattle.chain.specs.declared.Chain.{Chain}
use Rattle.chain.specs.declared.Ahead.{Ahead}
use Rattle.chain.specs.declared.Ahead.TheVariants.{Next, Tail, NotInUse, NotAbove}

-- a memory in which the lent addresses and links stand, of these sizes
abbrev pub memory_with : Chain → Memory → Memory
memory_with chain m = sized chain.sizes (links≔ chain.links.now (addresses≔ chain.addresses.now m))

-- "Where an answer is an enum, a definition sets out this paper's number and values for each of its cases." 01 has no numbers for these. In its
-- words: there is a next node "on the chain", with its address, for "the address of every node" is told; the walk is "between head and tail", so it
-- stops before tail; it stops before a node "not below the count"; it is "rising", so it stops before a node that does not sort above the one it
-- stands on
abbrev pub ahead_in : Memory → table.Ahead → Ahead
ahead_in m (onto n) = Next n (address (address_at m n))
ahead_in m tail_ahead = Tail
ahead_in m not_in_use = NotInUse
ahead_in m not_above = NotAbove

-- the walk's step from a node
abbrev pub ahead_from : Memory → Node → Ahead
ahead_from m from = ahead_in m (ahead m from)
