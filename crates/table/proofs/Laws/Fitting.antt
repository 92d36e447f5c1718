-- Sizes within the limits and tables that fit, as inequalities and back; the lengths of tables, longer tables, and what a write or a giving out
-- leaves of all this. Rests on Events.
use mathlib.Core.Path.{◌≡◌, refl, sym, ◌∙◌, subst}
use mathlib.Core.Bool.{Bool, true, false}
use mathlib.Core.List.{List, [], ◌∷◌, ◌++◌}
use Prim.Native.Nat.{ℕ, ◌+◌, ◌-◌, ◌≤◌}
use native.Mathlib.Omega.{arith}
use lib.Dec.{leb}
use lib.ListN.{length-set, length-append, length-replicate}
use borrow.Author.Tests.{leb-true, le-leb, eqb-false}
use Rattle.record.specs.declared.Address.{Address}
use Rattle.table.specs.Words.{Memory, addresses≔, links≔, deleters≔, Lengths, lengths, Write, nothing, link_is, deleter_is, written, none_left}
use Rattle.table.specs.Words.{given_out, fresh_memory}
use Rattle.table.specs.Events.{sizes_fit, long_enough, tables_fit}
use Rattle.basics.proofs.Tests.{each_true}

-- "Nodes: 2 to 4,096 .. Processes: 1 to 64"
pub record Limits (nodes processes : ℕ) : Type 0 where
  pub two : 2 ≤ nodes
  pub few : nodes ≤ 4096
  pub some : 1 ≤ processes
  pub few_processes : processes ≤ 64

pub limits_of : (nodes processes : ℕ) → sizes_fit nodes processes ≡ true → Limits nodes processes
unfolding sizes_fit
limits_of nodes processes h =
    let c = each_true (leb 2 nodes) (leb nodes 4096 ∷ leb 1 processes ∷ leb processes 64 ∷ []) h in
    record {
      two = leb-true 2 nodes (c 0);
      few = leb-true nodes 4096 (c 1);
      some = leb-true 1 processes (c 2);
      few_processes = leb-true processes 64 (c 3);
    }

-- ---- lengths

-- each table has a word for each of so many nodes
pub record LongEnough (nodes : ℕ) (long : Lengths) : Type 0 where
  pub addresses : nodes ≤ long.addresses
  pub links : nodes ≤ long.links
  pub deleters : nodes ≤ long.deleters

pub long_of : (nodes : ℕ) (long : Lengths) → long_enough nodes long ≡ true → LongEnough nodes long
long_of nodes long h =
    let c = each_true (leb nodes long.addresses) (leb nodes long.links ∷ leb nodes long.deleters ∷ []) h in
    record {
      addresses = leb-true nodes long.addresses (c 0);
      links = leb-true nodes long.links (c 1);
      deleters = leb-true nodes long.deleters (c 2);
    }

pub long_is : (nodes : ℕ) (long : Lengths) → LongEnough nodes long → long_enough nodes long ≡ true
long_is nodes long o =
    rw (le-leb nodes long.addresses o.addresses, le-leb nodes long.links o.links, le-leb nodes long.deleters o.deleters)

-- long enough for more is long enough
pub long_for_fewer : (nodes more : ℕ) (long : Lengths) → nodes ≤ more → LongEnough more long → LongEnough nodes long
long_for_fewer nodes more long few o =
    record { addresses = omega (arith, o.addresses); links = omega (arith, o.links); deleters = omega (arith, o.deleters) }

-- no table grows or shrinks
abbrev pub AsLong : Memory → Memory → Type 0
AsLong m m' = lengths m' ≡ lengths m

pub written_as_long : (f : Write) (m : Memory) → AsLong m (written f m)
unfolding written lengths
written_as_long nothing m = refl
written_as_long (link_is n w) m = rw (length-set m.links n.0 w)
written_as_long (deleter_is n w) m = rw (length-set m.deleters n.0 w)

pub given_as_long : (a : Address) (m : Memory) → AsLong m (given_out a m)
unfolding given_out lengths
given_as_long a m = rw (length-set m.addresses _ _, length-set m.links _ _, length-set m.deleters _ _)

-- nor do the stated sizes change
pub record SameSizes (m m' : Memory) : Type 0 where
  pub nodes : m'.nodes ≡ m.nodes
  pub processes : m'.processes ≡ m.processes
  pub tables : AsLong m m'

pub same_sizes : (m : Memory) → SameSizes m m
same_sizes m = record { nodes = refl; processes = refl; tables = refl }

pub sizes_onward : {m m' m'' : Memory} → SameSizes m m' → SameSizes m' m'' → SameSizes m m''
sizes_onward s s' = record { nodes = s'.nodes ∙ s.nodes; processes = s'.processes ∙ s.processes; tables = s'.tables ∙ s.tables }

pub written_sizes : (f : Write) (m : Memory) → SameSizes m (written f m)
unfolding written
written_sizes nothing m = same_sizes m
written_sizes (link_is n w) m = record { nodes = refl; processes = refl; tables = written_as_long (link_is n w) m }
written_sizes (deleter_is n w) m = record { nodes = refl; processes = refl; tables = written_as_long (deleter_is n w) m }

pub given_sizes : (a : Address) (m : Memory) → SameSizes m (given_out a m)
unfolding given_out
given_sizes a m = record { nodes = refl; processes = refl; tables = given_as_long a m }

-- ---- longer tables

-- words past the ends of the tables
pub record Beyond : Type 0 where
  pub addresses : List ℕ
  pub links : List ℕ
  pub deleters : List ℕ

-- the same memory with these words after its tables
abbrev pub longer : Beyond → Memory → Memory
longer b m =
    addresses≔ (m.addresses ++ b.addresses) (links≔ (m.links ++ b.links) (deleters≔ (m.deleters ++ b.deleters) m))

pub long_longer : (b : Beyond) (m : Memory) (nodes : ℕ) → LongEnough nodes (lengths m) → LongEnough nodes (lengths (longer b m))
unfolding lengths
long_longer b m nodes o = record {
  addresses = omega (arith, length-append m.addresses b.addresses, o.addresses);
  links = omega (arith, length-append m.links b.links, o.links);
  deleters = omega (arith, length-append m.deleters b.deleters, o.deleters);
}

-- ---- the count

pub count_written : (f : Write) (m : Memory) → (written f m).count ≡ m.count
unfolding written
count_written nothing m = refl
count_written (link_is n w) m = refl
count_written (deleter_is n w) m = refl

pub count_given : (a : Address) (m : Memory) → (given_out a m).count ≡ m.count + 1
unfolding given_out
count_given a m = refl

-- ---- room: the tables reach over the nodes, and the count lies within

pub record Room (m : Memory) : Type 0 where
  pub long : LongEnough m.nodes (lengths m)
  pub least : 2 ≤ m.count
  pub most : m.count ≤ m.nodes

room_after : {m m' : Memory} → SameSizes m m' → 2 ≤ m'.count → m'.count ≤ m'.nodes → Room m → Room m'
room_after {m} {m'} s least most o = record {
  long = subst (LongEnough m'.nodes) (sym s.tables) (rw s.nodes o.long);
  least = least;
  most = most;
}

pub room_written : {m : Memory} (f : Write) → Room m → Room (written f m)
room_written {m} f o = let s = written_sizes f m in
    room_after s (omega (arith, count_written f m, o.least)) (omega (arith, count_written f m, s.nodes, o.most)) o

pub room_given : {m : Memory} (a : Address) → Room m → none_left m ≡ false → Room (given_out a m)
room_given {m} a o spare = let s = given_sizes a m in
    room_after s (omega (arith, count_given a m, o.least))
    (omega (arith, count_given a m, s.nodes, o.most, eqb-false m.count m.nodes spare)) o

pub room_fresh : (nodes processes : ℕ) → 2 ≤ nodes → Room (fresh_memory nodes processes)
unfolding fresh_memory lengths
room_fresh nodes processes two = record {
  long = record {
    addresses = omega (arith, length-replicate {A = ℕ} nodes 0);
    links = omega (arith, length-replicate {A = ℕ} (nodes - 2) 0);
    deleters = omega (arith, length-replicate {A = ℕ} nodes 0);
  };
  least = omega arith;
  most = two;
}

module _ (m : Memory) where
  abbrev fits : Bool
  fits = sizes_fit m.nodes m.processes

  abbrev reaches : Bool
  reaches = long_enough m.nodes (lengths m)

  pub room_of : tables_fit m ≡ true → Room m
  unfolding tables_fit
  room_of h = let c = each_true fits (reaches ∷ leb 2 m.count ∷ leb m.count m.nodes ∷ []) h in record {
    long = long_of m.nodes (lengths m) (c 1);
    least = leb-true 2 m.count (c 2);
    most = leb-true m.count m.nodes (c 3);
  }

  pub sizes_of_lem : tables_fit m ≡ true → sizes_fit m.nodes m.processes ≡ true
  unfolding tables_fit
  sizes_of_lem h = each_true fits (reaches ∷ leb 2 m.count ∷ leb m.count m.nodes ∷ []) h 0

  pub limits : tables_fit m ≡ true → Limits m.nodes m.processes
  limits h = limits_of m.nodes m.processes (sizes_of_lem h)

  pub fit_of : sizes_fit m.nodes m.processes ≡ true → Room m → tables_fit m ≡ true
  unfolding tables_fit
  fit_of s o = rw (s, long_is m.nodes (lengths m) o.long, le-leb 2 m.count o.least, le-leb m.count m.nodes o.most)
