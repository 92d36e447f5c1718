-- The words of a memory, the nodes of a record, the chain and what is held, by number; and what a write or a giving out leaves of the words. Rests
-- on Fitting, InUse and Reaching.
use Rattle.table.proofs.Common.{◌≡◌, refl, ap, ◌≢◌, true, false, ℕ, ◌+◌, ◌%◌, ◌≤◌, arith, get_or, get_or-set_same, get_or-set_other, eqb-true}
use Rattle.table.proofs.Common.{eqb-false, ne_eqb, node, address, Node, Address, Record, Memory, link_word, is_marked, in_use, above_all, Write}
use Rattle.table.proofs.Common.{nothing, link_is, deleter_is, next_node, none_left, address_at, link_at, deleter_at, rank, written, given_out, Struck}
use Rattle.table.proofs.Common.{Held}
use Rattle.table.specs.Words.{lengths}
use Rattle.table.specs.Chain.{follows, OnChain, HeldBy}
use Rattle.table.proofs.Laws.Fitting.{Room}
use Rattle.table.proofs.Laws.InUse.{within, next_within, not_next}
use Rattle.table.proofs.Laws.Reaching.{Along, along, reach}

-- ---- nodes by their numbers

abbrev pub link_in : Memory → ℕ → ℕ
link_in m n = link_at m (node n)

abbrev pub deleter_in : Memory → ℕ → ℕ
deleter_in m n = deleter_at m (node n)

abbrev pub address_in : Memory → ℕ → ℕ
address_in m n = address_at m (node n)

abbrev pub rank_in : Memory → ℕ → ℕ
rank_in m n = rank m.addresses (node n)

abbrev pub follows_in : Memory → ℕ → ℕ
follows_in m n = (follows m (node n)).0

abbrev pub Used : Memory → ℕ → Type 0
Used m n = in_use m (node n) ≡ true

-- the nodes of a record and the address that it asks for
abbrev pub pred_in : Record → ℕ
pred_in R = R.lost.pred.0

abbrev pub curr_in : Record → ℕ
curr_in R = R.lost.curr.0

abbrev pub succ_in : Record → ℕ
succ_in R = R.lost.succ.0

abbrev pub own_in : Record → ℕ
own_in R = R.kept.node.0

abbrev pub asked_in : Record → ℕ
asked_in R = R.kept.address.0

-- a link word to node c
abbrev pub plain_to : ℕ → ℕ
plain_to c = link_word (node c) false

abbrev pub marked_to : ℕ → ℕ
marked_to c = link_word (node c) true

abbrev pub link_set : ℕ → ℕ → Write
link_set n word = link_is (node n) word

abbrev pub deleter_set : ℕ → ℕ → Write
deleter_set n word = deleter_is (node n) word

-- marks as remainders, for `omega`
abbrev pub Marked : Memory → ℕ → Type 0
Marked m n = link_in m n % 2 ≡ 1

abbrev pub Plain : Memory → ℕ → Type 0
Plain m n = link_in m n % 2 ≡ 0

pub struck_marked : (m : Memory) (n : ℕ) → Struck m (node n) → Marked m n
struck_marked m n s = eqb-true (link_in m n % 2) 1 s

pub unmarked_plain : (m : Memory) (n : ℕ) → is_marked (link_in m n) ≡ false → Plain m n
unmarked_plain m n e = let ne = eqb-false (link_in m n % 2) 1 e in omega (arith, ne)

pub plain_unmarked : (m : Memory) (n : ℕ) → Plain m n → is_marked (link_in m n) ≡ false
plain_unmarked m n e = ne_eqb (link_in m n % 2) 1 (λ q. absurd (omega arith))

-- ---- the chain, and what is held

abbrev pub On : Memory → ℕ → Type 0
On m n = Along (follows_in m) 0 n

pub on_number : (m : Memory) {n : Node} → OnChain m n → On m n.0
on_number m o = along o

pub on_node : (m : Memory) (n : Node) → On m n.0 → OnChain m n
on_node m n o = reach (follows m) (node 0) o

-- node n holds the address a
pub record Holder (m : Memory) (a n : ℕ) : Type 0 where
  pub on : On m n
  pub inner : 2 ≤ n
  pub plain : Plain m n
  pub named : address_in m n ≡ a

abbrev pub HeldIn : Memory → ℕ → Type 0
HeldIn m a = Held m (address a)

pub held_number : {m : Memory} {a : Address} {n : Node} → HeldBy m a n → Holder m a.0 n.0
held_number {m} {a} {n} h =
    let not_0 : n.0 ≢ 0 = λ q. h.not_head (ap node q) in
    let not_1 : n.0 ≢ 1 = λ q. h.not_tail (ap node q) in
    record {
      on = on_number m h.on;
      inner = omega arith;
      plain = unmarked_plain m n.0 h.plain;
      named = ap (λ a. a.0) h.named;
    }

pub held_node : {m : Memory} {a n : ℕ} → Holder m a n → HeldBy m (address a) (node n)
held_node {m} {a} {n} h = record {
  on = on_node m (node n) h.on;
  not_head = λ q. absurd (omega (arith, h.inner, ap (λ n. n.0) q));
  not_tail = λ q. absurd (omega (arith, h.inner, ap (λ n. n.0) q));
  plain = plain_unmarked m n h.plain;
  named = ap address h.named;
}

-- ---- ranks

pub rank_inner : (m : Memory) (x : ℕ) → 2 ≤ x → rank_in m x ≡ address_in m x + 1
unfolding rank address_at
rank_inner m x h = rw (ne_eqb x 0 (omega arith), ne_eqb x 1 (omega arith)) refl

pub rank_head : (m : Memory) → rank_in m 0 ≡ 0
unfolding rank
rank_head m = refl

pub rank_tail : (m : Memory) → rank_in m 1 ≡ above_all
unfolding rank
rank_tail m = refl

-- ---- the words after a write

pub link_at_lem : {m : Memory} → Room m → (n w : ℕ) → Used m n → link_in (written (link_set n w) m) n ≡ w
unfolding link_at written lengths
link_at_lem {m} o n w u = get_or-set_same m.links n w 0 (omega (arith, within o (node n) u, o.long.links))

pub link_else : (m : Memory) (n w x : ℕ) → x ≢ n → link_in (written (link_set n w) m) x ≡ link_in m x
unfolding link_at written
link_else m n w x h = get_or-set_other m.links n x w 0 h

pub link_signed : (m : Memory) (n w x : ℕ) → link_in (written (deleter_set n w) m) x ≡ link_in m x
unfolding link_at written
link_signed m n w x = refl

pub deleter_at_lem : {m : Memory} → Room m → (n w : ℕ) → Used m n → deleter_in (written (deleter_set n w) m) n ≡ w
unfolding deleter_at written lengths
deleter_at_lem {m} o n w u = get_or-set_same m.deleters n w 0 (omega (arith, within o (node n) u, o.long.deleters))

pub deleter_else : (m : Memory) (n w x : ℕ) → x ≢ n → deleter_in (written (deleter_set n w) m) x ≡ deleter_in m x
unfolding deleter_at written
deleter_else m n w x h = get_or-set_other m.deleters n x w 0 h

pub deleter_linked : (m : Memory) (n w x : ℕ) → deleter_in (written (link_set n w) m) x ≡ deleter_in m x
unfolding deleter_at written
deleter_linked m n w x = refl

addresses_written : (f : Write) (m : Memory) → (written f m).addresses ≡ m.addresses
unfolding written
addresses_written nothing m = refl
addresses_written (link_is n w) m = refl
addresses_written (deleter_is n w) m = refl

pub address_written : (f : Write) (m : Memory) (x : ℕ) → address_in (written f m) x ≡ address_in m x
unfolding address_at
address_written f m x = ap (λ l. get_or l x 0) (addresses_written f m)

pub rank_written : (f : Write) (m : Memory) (x : ℕ) → rank_in (written f m) x ≡ rank_in m x
rank_written f m x = ap (λ l. rank l (node x)) (addresses_written f m)

-- ---- a node is given out

-- the node that the next insert takes, by its number
abbrev pub next_in : Memory → ℕ
next_in m = (next_node m).0

pub used_not_next : (m : Memory) (n : ℕ) → Used m n → n ≢ next_in m
used_not_next m n u q = not_next m (node n) u (ap node q)

module _ (a : Address) (m : Memory) where
  module _ (o : Room m) (spare : none_left m ≡ false) where
    pub given_link : link_in (given_out a m) (next_in m) ≡ plain_to 1
    unfolding link_at given_out lengths
    given_link = get_or-set_same m.links (next_in m) (plain_to 1) 0 (omega (arith, next_within o spare, o.long.links))

    pub given_address : address_in (given_out a m) (next_in m) ≡ a.0
    unfolding address_at given_out lengths
    given_address = get_or-set_same m.addresses (next_in m) a.0 0 (omega (arith, next_within o spare, o.long.addresses))

    pub given_deleter : deleter_in (given_out a m) (next_in m) ≡ 0
    unfolding deleter_at given_out lengths
    given_deleter = get_or-set_same m.deleters (next_in m) 0 0 (omega (arith, next_within o spare, o.long.deleters))

  -- the words of another node stay
  module _ (x : ℕ) (h : x ≢ next_in m) where
    pub given_link_else : link_in (given_out a m) x ≡ link_in m x
    unfolding link_at given_out
    given_link_else = get_or-set_other m.links (next_in m) x (plain_to 1) 0 h

    pub given_address_else : address_in (given_out a m) x ≡ address_in m x
    unfolding address_at given_out
    given_address_else = get_or-set_other m.addresses (next_in m) x a.0 0 h

    pub given_deleter_else : deleter_in (given_out a m) x ≡ deleter_in m x
    unfolding deleter_at given_out
    given_deleter_else = get_or-set_other m.deleters (next_in m) x 0 0 h

    pub given_rank_else : rank_in (given_out a m) x ≡ rank_in m x
    unfolding rank given_out
    given_rank_else = rw (get_or-set_other m.addresses (next_in m) x a.0 0 h)
