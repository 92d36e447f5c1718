-- What is lent, as the place table's memory: the one place where the tables, the count and the stated sizes are put together. Rests on the
-- table's Words.
use Rattle.std.specs.Prelude.{◌≡◌, List, ℕ, length}
use Rattle.table.specs.Words.{Memory, memory}
use Rattle.words.specs.declared.Sizes.{Sizes}
use Rattle.words.specs.declared.Tables.{Tables}

-- the lent tables, with the sizes and the count that are stated
abbrev pub lent_memory : (addresses links deleters : List ℕ) → Sizes → Memory
lent_memory addresses links deleters sizes = memory addresses links deleters sizes.count sizes.nodes sizes.processes

abbrev pub memory_in : Tables → Sizes → Memory
memory_in t sizes = lent_memory t.addresses.now t.links.now t.deleters.now sizes

-- the tables that were lent, as long as they were, whatever words they have now
pub record SameTables (old new : Tables) : Type 0 where
  pub addresses : new.addresses.ghost_name ≡ old.addresses.ghost_name
  pub addresses_long : length new.addresses.now ≡ length old.addresses.now
  pub links : new.links.ghost_name ≡ old.links.ghost_name
  pub links_long : length new.links.now ≡ length old.links.now
  pub deleters : new.deleters.ghost_name ≡ old.deleters.ghost_name
  pub deleters_long : length new.deleters.now ≡ length old.deleters.now

-- a memory with these sizes and this count
abbrev pub sized : Sizes → Memory → Memory
sized sizes m = lent_memory m.addresses m.links m.deleters sizes

-- the stated sizes of a memory, and its count
abbrev pub sizes_of : Memory → Sizes
sizes_of m = record { nodes = m.nodes; processes = m.processes; count = m.count }
