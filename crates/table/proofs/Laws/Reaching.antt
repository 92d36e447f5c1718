-- Reachability along a next-function of node numbers: the chain's reachability by number, and what the writes of the list do to it. Rests on Chain.
use Rattle.table.proofs.Common.{◌≡◌, refl, sym, ◌∙◌, ap, ◌≢◌, ◌⊎◌, inl, inr, ℕ, ◌≤◌, ◌<◌, arith, ℕ_discrete, node, Node}
use Rattle.table.specs.Chain.{Reach, here, next}

-- x is reached from h along f, never going on from tail, node 1
pub data Along (f : ℕ → ℕ) (h : ℕ) : ℕ → Type 0 where
  origin : {x : ℕ} → h ≡ x → Along f h x
  further : {x y : ℕ} → Along f h x → x ≢ 1 → f x ≡ y → Along f h y

-- nodes and their numbers
pub along : {f : Node → Node} {h n : Node} → Reach f h n → Along (λ x. (f (node x)).0) h.0 n.0
along (here e) = origin (ap (λ n. n.0) e)
along (next r ne e) = further (along r) (λ q. ne (ap node q)) (ap (λ n. n.0) e)

pub reach : (f : Node → Node) (h : Node) {x : ℕ} → Along (λ x. (f (node x)).0) h.0 x → Reach f h (node x)
reach f h (origin e) = here (ap node e)
reach f h (further r ne e) = next (reach f h r) (λ q. ne (ap (λ n. n.0) q)) (ap node e)

-- the index moves along an equation by clauses, not by subst
pub cast : {f : ℕ → ℕ} {h x y : ℕ} → Along f h x → x ≡ y → Along f h y
cast (origin e) q = origin (e ∙ q)
cast (further r n e) q = further r n (e ∙ q)

-- h is x, or the first step can be taken off the front
pub front : {f : ℕ → ℕ} {h x : ℕ} → Along f h x → (h ≡ x) ⊎ ((h ≢ 1) × Along f (f h) x)
front (origin e) = inl e
front {f} {h} (further r n e) = inr (elim (front r) [ inl q ↦ ((λ w. n (sym q ∙ w)), origin (ap f q ∙ e)) | inr s ↦ (s.0, further s.1 n e) ])

-- of two nodes reached from one, one is reached from the other
total : {f : ℕ → ℕ} {h x y : ℕ} → Along f h x → Along f h y → Along f x y ⊎ Along f y x
total (origin e) s = inl (move s e)
  where
    move : {f : ℕ → ℕ} {h x y : ℕ} → Along f h y → h ≡ x → Along f x y
    move (origin e) q = origin (sym q ∙ e)
    move (further r n e) q = further (move r q) n e
total {f} {y = y} (further {x = z} {y = x} r n e) s = elim (total r s) [
  | inl u ↦ elim (front u) [ inl q ↦ inr (further (origin (sym q)) n e) | inr v ↦ inl (rw e at v.1) ]
  | inr u ↦ inr (further u n e)
]

-- the ranks rise at each step from head, node 0
module _ (f : ℕ → ℕ) (rank : ℕ → ℕ) (rise : (x : ℕ) → Along f 0 x → x ≢ 1 → rank x < rank (f x)) where
  join : {x y : ℕ} → Along f 0 x → Along f x y → Along f 0 y
  join r (origin e) = cast r e
  join r (further s n e) = further (join r s) n e

  rank_le : {x y : ℕ} → Along f 0 x → Along f x y → rank x ≤ rank y
  rank_le r (origin e) = omega (arith, ap rank e)
  rank_le r (further {x = z} s n e) = omega (arith, rank_le r s, rise z (join r s) n, ap rank e)

  -- no rank stands between that of a node and that of the next
  pub gap : {x y : ℕ} → Along f 0 x → Along f 0 y → (rank y ≤ rank x) ⊎ (rank (f x) ≤ rank y)
  gap {x} {y} r s = elim (total r s) [
    | inl u ↦ elim (front u) [ inl e ↦ inl (omega (arith, ap rank e)) | inr v ↦ inr (rank_le (further r v.0 refl) v.1) ]
    | inr u ↦ inl (rank_le s u)
  ]

  -- a rank stands once on the chain
  pub once : {x y : ℕ} → Along f 0 x → Along f 0 y → rank x ≡ rank y → x ≡ y
  once {x} {y} r s q = elim (total r s) [ inl u ↦ first r q (front u) | inr u ↦ sym (first s (sym q) (front u)) ]
    where
      first : {u v : ℕ} → Along f 0 u → rank u ≡ rank v → (u ≡ v) ⊎ ((u ≢ 1) × Along f (f u) v) → u ≡ v
      first c k (inl e) = e
      first {u} {v} c k (inr w) = absurd (omega (arith, rank_le (further c w.0 refl) w.1, rise u c w.0))

-- a next-function that agrees on the chain has the same chain
pub same_chain : (f g : ℕ → ℕ) → ((x : ℕ) → Along f 0 x → g x ≡ f x) → {x : ℕ} → Along f 0 x → Along g 0 x
same_chain f g a (origin e) = origin e
same_chain f g a (further {x = z} r n e) = further (same_chain f g a r) n (a z r ∙ e)

pub same_chain_back : (f g : ℕ → ℕ) → ((x : ℕ) → Along f 0 x → g x ≡ f x) → {x : ℕ} → Along g 0 x → Along f 0 x
same_chain_back f g a (origin e) = origin e
same_chain_back f g a (further {x = z} r n e) = let s = same_chain_back f g a r in further s n (sym (a z s) ∙ e)

-- node c is put in behind p
module _ (f g : ℕ → ℕ) (p c : ℕ) (cn : c ≢ 1) (gp : g p ≡ c) (gc : g c ≡ f p)
    (same : (x : ℕ) → x ≢ p → x ≢ c → g x ≡ f x) (off : (x : ℕ) → Along f 0 x → x ≢ c) where
  pub put_keeps : {x : ℕ} → Along f 0 x → Along g 0 x
  put_keeps (origin e) = origin e
  put_keeps (further {x = z} r n e) = elim (ℕ_discrete z p) [
    | yes q ↦ further (further (put_keeps r) n (ap g q ∙ gp)) cn (gc ∙ ap f (sym q) ∙ e)
    | no q ↦ further (put_keeps r) n (same z q (off z r) ∙ e)
  ]

  pub put_brings : Along f 0 p → p ≢ 1 → {x : ℕ} → Along g 0 x → Along f 0 x ⊎ (x ≡ c)
  put_brings b pn (origin e) = inl (origin e)
  put_brings b pn (further {x = z} r n e) = elim (ℕ_discrete z c) [
    | yes q ↦ inl (further b pn (sym gc ∙ ap g (sym q) ∙ e))
    | no k ↦ elim (ℕ_discrete z p) [
      | yes q ↦ inr (sym e ∙ ap g q ∙ gp)
      | no q ↦ elim (put_brings b pn r) [ inl s ↦ inl (further s n (sym (same z q k) ∙ e)) | inr s ↦ absurd (k s) ]
    ]
  ]

-- node c, behind p, is taken out
module _ (f g : ℕ → ℕ) (p c : ℕ) (fp : f p ≡ c) (pn : p ≢ 1) (cn : c ≢ 1) (gp : g p ≡ f c) (same : (x : ℕ) → x ≢ p → g x ≡ f x) where
  pub cut_keeps : {x : ℕ} → Along f 0 x → Along g 0 x ⊎ ((x ≡ c) × Along g 0 p)
  cut_keeps (origin e) = inl (origin e)
  cut_keeps (further {x = z} r n e) = elim (cut_keeps r) [
    | inl s ↦ elim (ℕ_discrete z p) [ yes q ↦ inr (sym e ∙ ap f q ∙ fp, cast s q) | no q ↦ inl (further s n (same z q ∙ e)) ]
    | inr s ↦ inl (further s.1 pn (gp ∙ ap f (sym s.0) ∙ e))
  ]

  pub cut_brings : Along f 0 p → {x : ℕ} → Along g 0 x → Along f 0 x
  cut_brings b (origin e) = origin e
  cut_brings b (further {x = z} r n e) = elim (ℕ_discrete z p) [
    | yes q ↦ further (further b pn fp) cn (sym gp ∙ ap g (sym q) ∙ e)
    | no q ↦ further (cut_brings b r) n (sym (same z q) ∙ e)
  ]
