-- What holds of every run from a quiet state, for others to cite: what never changes, hindsight, what a running process's place says of it, and
-- how the nodes of two open inserts differ. What changes the addresses held is HeldByPlace's `event_held`. Rests on OpenOperations.
use Rattle.table.proofs.Common.{◌≡◌, ◌≢◌, ◌⊎◌, ℕ, ◌≤◌, ◌<◌, arith, idle_status, running_status, insert_kind, delete_kind, find_kind, place_of}
use Rattle.table.proofs.Laws.Numbered.{link_in, deleter_in, address_in, rank_in, follows_in, Used, own_in, Marked, On, rank_inner}
use Rattle.table.proofs.Invariant.Moments.{Later, OnSince, later, hindsight}
use Rattle.table.proofs.Invariant.Known.{InsertAt, InsertKept, DeleteAt, FindAt, insert_known, delete_known, find_known}
use Rattle.table.proofs.Invariant.Played.{Played, memory_at, record_then, kind_at}
use Rattle.table.proofs.Invariant.RunInvariant.{Busy, Working, working, nodes_differ, invariant}
use Rattle.table.proofs.Invariant.OpenOperations.{course, orderly}

module _ (ρ : Played) where
  from_to : (s t : ℕ) → s ≤ t → Later (memory_at ρ s) (memory_at ρ t)
  from_to s t l = later (course ρ t) s l

  -- ---- what never changes of a node in use

  module _ (s t n : ℕ) (l : s ≤ t) (u : Used (memory_at ρ s) n) where
    pub stays_in_use : Used (memory_at ρ t) n
    stays_in_use = (from_to s t l).used n u

    pub rank_fixed : rank_in (memory_at ρ t) n ≡ rank_in (memory_at ρ s) n
    rank_fixed = (from_to s t l).ranks n u

    pub address_fixed : 2 ≤ n → address_in (memory_at ρ t) n ≡ address_in (memory_at ρ s) n
    address_fixed h = omega (arith, rank_fixed, rank_inner (memory_at ρ t) n h, rank_inner (memory_at ρ s) n h)

    pub marked_word_frozen : Marked (memory_at ρ s) n → link_in (memory_at ρ t) n ≡ link_in (memory_at ρ s) n
    marked_word_frozen = (from_to s t l).frozen n u

    pub deleter_fixed : deleter_in (memory_at ρ s) n ≢ 0 → deleter_in (memory_at ρ t) n ≡ deleter_in (memory_at ρ s) n
    deleter_fixed = (from_to s t l).signed n u

  -- ---- the chain

  pub chain_rises : (t n : ℕ) → On (memory_at ρ t) n → n ≢ 1 → rank_in (memory_at ρ t) n < rank_in (memory_at ρ t) (follows_in (memory_at ρ t) n)
  chain_rises t = (orderly ρ t).rise

  pub chain_in_use : (t n : ℕ) → On (memory_at ρ t) n → Used (memory_at ρ t) n
  chain_in_use t = (orderly ρ t).used

  -- a node that has been on the chain is on it or struck
  pub on_or_marked : (s t n : ℕ) → s ≤ t → On (memory_at ρ s) n → On (memory_at ρ t) n ⊎ Marked (memory_at ρ t) n
  on_or_marked s t n l = (from_to s t l).stays n

  -- a node that was on the chain at s was on it at some moment since with the word that it has now
  pub in_hindsight : (s t n : ℕ) → s ≤ t → On (memory_at ρ s) n → OnSince (memory_at ρ) s t n
  in_hindsight s t n l o = hindsight (course ρ t) s l o

  -- ---- processes

  -- a process that is not idle works on one operation
  pub working_on : (t p : ℕ) → p < (memory_at ρ t).processes → (record_then ρ t p).kept.status ≢ idle_status → Working ρ t p
  working_on t p = working ρ t (invariant ρ t) p

  -- what the place of a running process says of it, by its operation
  module _ (t p r : ℕ) (b : Busy ρ t p r) where
    pub insert_place : kind_at ρ r ≡ insert_kind → (record_then ρ t p).kept.status ≡ running_status
        → InsertAt (memory_at ρ) r t (record_then ρ t p) (place_of (record_then ρ t p).lost.place)
    insert_place k = (insert_known k b.known).place

    pub delete_place : kind_at ρ r ≡ delete_kind → (record_then ρ t p).kept.status ≡ running_status
        → DeleteAt (memory_at ρ) r t p (record_then ρ t p) (place_of (record_then ρ t p).lost.place)
    delete_place k = (delete_known k b.known).place

    pub find_place : kind_at ρ r ≡ find_kind → (record_then ρ t p).kept.status ≡ running_status
        → FindAt (memory_at ρ) r t (record_then ρ t p) (place_of (record_then ρ t p).lost.place)
    find_place k = (find_known k b.known).place

    -- what the kept part of an open insert says, running or down
    pub insert_keeps : kind_at ρ r ≡ insert_kind → InsertKept (memory_at ρ) r t (record_then ρ t p).kept
    insert_keeps k = (insert_known k b.known).kept

  -- two open inserts have two nodes
  pub open_inserts_differ : (t p q r r' : ℕ) → p ≢ q → Busy ρ t p r → Busy ρ t q r' → kind_at ρ r ≡ insert_kind → kind_at ρ r' ≡ insert_kind
      → own_in (record_then ρ t p) ≢ own_in (record_then ρ t q)
  open_inserts_differ t p q r r' ne b b' k k' = let x = insert_keeps t p r b k in let y = insert_keeps t q r' b' k' in
      nodes_differ ρ t (invariant ρ t) p q r r' (own_in (record_then ρ t p)) (own_in (record_then ρ t q)) ne b b' x.node y.node
