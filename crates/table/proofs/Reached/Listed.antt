-- The chain of an orderly memory: the walk from head meets exactly the nodes between head and tail, each once, rising, and stops at tail. Rests on
-- the laws Ahead and Reaching, and on Effects.
use mathlib.Core.List.Memᴰ
use mathlib.Core.List.{map, Memᴰ}
use Rattle.table.proofs.Common.{◌≡◌, refl, sym, ap, subst, ◌≢◌, inl, inr, List, [], ◌∷◌, ℕ, zero, suc, ◌+◌, ◌≤◌, ◌<◌, arith}
use Rattle.table.proofs.Common.{ℕ_discrete, node, address, Node, Address, Memory, above_all, rank}
use Rattle.table.specs.Words.{address_at, rank_of}
use Rattle.table.specs.Chain.{last_of, tail_ahead, ahead, walk, chain, chain_addresses}
use Rattle.table.specs.Reached.{Between, RisesAbove, EachOnce, ChainListed}
use Rattle.table.proofs.Laws.Lists.{mapped_from, mapped}
use Rattle.table.proofs.Laws.Reaching.{Along, origin, further, front}
use Rattle.table.proofs.Laws.Numbered.{rank_in, follows_in, On, on_number, on_node, rank_inner, rank_head}
use Rattle.table.proofs.Laws.Ahead.{goes_onward, walk_onward, meets_tail, walk_ended, walk_ends_by_itself}
use Rattle.table.proofs.Invariant.Effects.{Orderly}

-- ---- lists that rise

module _ {A : Type 0} (height : A → ℕ) where
  -- every element of a list that rises above a number stands above it
  above : {x : A} (from : ℕ) (l : List A) → RisesAbove height from l → Memᴰ x l → from < height x
  above from [] r i = absurd (Memᴰ.not-nil i)
  above from (y ∷ l) r i = elim (Memᴰ.cases_cons i) [
    | inl q ↦ omega (arith, r.0, ap height q)
    | inr j ↦ omega (arith, r.0, above (height y) l r.1 j)
  ]

  rising_once : (from : ℕ) (l : List A) → RisesAbove height from l → EachOnce l
  rising_once from [] r = tt
  rising_once from (x ∷ l) r = ((λ i. absurd (omega (arith, above (height x) l r.1 i))), rising_once (height x) l r.1)

-- their names rise with them
module _ {A B : Type 0} (f : A → B) where
  names_rise : (height : A → ℕ) (height' : B → ℕ) (from : ℕ) (l : List A) → ((a : A) → Memᴰ a l → height' (f a) ≡ height a)
      → RisesAbove height from l → RisesAbove height' from (map f l)
  names_rise height height' from [] same r = tt
  names_rise height height' from (x ∷ l) same r = let q = same x (Memᴰ.head refl) in (
    omega (arith, r.0, q),
    rw q (names_rise height height' (height x) l (λ a i. same a (Memᴰ.tail i)) r.1),
  )

-- ---- the walk

module _ {m : Memory} (i : Orderly m) where
  rank_low : (n : ℕ) → On m n → n ≢ 1 → rank_in m n < above_all
  rank_low n o t = elim (ℕ_discrete n 0) [
    | yes q ↦ omega (arith, ap (rank_in m) q, rank_head m)
    | no q ↦ omega (arith, rank_inner m n (omega arith), i.small n o)
  ]

  -- a node between head and tail, by number
  between_ends : (x : ℕ) → On m x → x ≢ 0 → x ≢ 1 → Between m (node x)
  between_ends x o h t = record { on = on_node m (node x) o; not_head = λ q. h (ap (λ n. n.0) q); not_tail = λ q. t (ap (λ n. n.0) q) }

  -- what a list says of the chain from n on
  record Lists (n : ℕ) (l : List Node) : Type 0 where
    pub meets : (x : ℕ) → Along (follows_in m) n x → x ≢ n → x ≢ 1 → Memᴰ (node x) l
    pub only : (x : Node) → Memᴰ x l → Between m x
    pub rises : RisesAbove (rank m.addresses) (rank_in m n) l
    pub stops : ahead m (last_of (node n) l) ≡ tail_ahead
    pub ends : On m 1

  module _ (n : ℕ) (o : On m n) (t : n ≢ 1) where
    tail_next : follows_in m n ≡ 1 → Lists n []
    tail_next q = record {
      meets = λ x r d e. elim (front r) [
        | inl z ↦ absurd (d (sym z))
        | inr s ↦ elim (front (rw q at s.1)) [ inl z ↦ absurd (e (sym z)) | inr z ↦ absurd (z.0 refl) ]
      ];
      only = λ x j. absurd (Memᴰ.not-nil j);
      rises = tt;
      stops = meets_tail m (node n) (ap node q);
      ends = further o t q;
    }

    node_next : {l : List Node} → follows_in m n ≢ 1 → Lists (follows_in m n) l → Lists n (node (follows_in m n) ∷ l)
    node_next e z = record {
      meets = λ x r d g. elim (front r) [
        | inl q ↦ absurd (d (sym q))
        | inr s ↦ elim (ℕ_discrete x (follows_in m n)) [ yes q ↦ Memᴰ.head (ap node q) | no q ↦ Memᴰ.tail (z.meets x s.1 q g) ]
      ];
      only = λ x j. elim (Memᴰ.cases_cons j) [
        | inl q ↦ rw q (between_ends (follows_in m n) (further o t refl) (λ h. absurd (omega (arith, i.rise n o t, ap (rank_in m) h, rank_head m))) e)
        | inr k ↦ z.only x k
      ];
      rises = (i.rise n o t, z.rises);
      stops = z.stops;
      ends = z.ends;
    }

  walk_lists : (k n : ℕ) → On m n → n ≢ 1 → above_all ≤ rank_in m n + k → Lists n (walk k m (node n))
  walk_lists zero n o t l = absurd (omega (arith, rank_low n o t))
  walk_lists (suc k) n o t l = elim (ℕ_discrete (follows_in m n) 1) [
    | yes q ↦ rw (walk_ended m (node n) (meets_tail m (node n) (ap node q)) (suc k)) (tail_next n o t q)
    | no q ↦ rw (walk_onward m (node n) k (node (follows_in m n)) (goes_onward m (node n) (record {
      target = refl;
      not_tail = λ e. q (ap (λ n. n.0) e);
      used = i.used (follows_in m n) (further o t refl);
      above = i.rise n o t;
    }))) (node_next n o t q (walk_lists k (follows_in m n) (further o t refl) q (omega (arith, i.rise n o t))))
  ]

  chain_lists : Lists 0 (chain m)
  unfolding chain
  chain_lists =
      let steps = above_all + m.count in
      subst (Lists 0) (walk_ends_by_itself m (node 0) steps (omega arith))
      (walk_lists steps 0 (origin refl) (λ q. absurd (omega arith)) (omega arith))

  pub orderly_listed : ChainListed m
  unfolding chain_addresses
  orderly_listed = record {
    nodes = λ n. (z.only n, met n);
    once = rising_once (rank m.addresses) _ (chain m) z.rises;
    rising = z.rises;
    stops = z.stops;
    ends = on_node m (node 1) z.ends;
    named = λ a. (
      (λ j. let x = mapped_from name_of (chain m) j in (x.0, z.only x.0 x.1, x.2)),
      (λ x. mapped name_of (chain m) (met x.0 x.1) x.2),
    );
    addresses_rising = names_rise name_of (rank m.addresses) rank_of _ (chain m) ranked z.rises;
  }
    where
      z : Lists 0 (chain m)
      z = chain_lists

      name_of : Node → Address
      name_of n = address (address_at m n)

      met : (n : Node) → Between m n → Memᴰ n (chain m)
      met n b = z.meets n.0 (on_number m b.on) (λ q. b.not_head (ap node q)) (λ q. b.not_tail (ap node q))

      ranked : (n : Node) → Memᴰ n (chain m) → address_at m n + 1 ≡ rank m.addresses n
      ranked n j =
          let b = z.only n j in
          let not_0 : n.0 ≢ 0 = λ q. b.not_head (ap node q) in
          let not_1 : n.0 ≢ 1 = λ q. b.not_tail (ap node q) in
          sym (rank_inner m n.0 (omega arith))
