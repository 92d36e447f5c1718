-- Every state that a run from a quiet state comes to: fresh and quiet states are among them, the chain is listed whole by `chain`, and what is held
-- is a plain set. Rests on OpenOperations, Listed and Start.
use mathlib.Core.Bool.{or-true}
use mathlib.Core.List.Memᴰ
use mathlib.Core.List.{Memᴰ}
use Rattle.table.proofs.Common.{◌≡◌, refl, sym, ◌∙◌, ap, subst, inl, inr, Bool, true, false, not, ◌&&◌, ◌||◌, false≢true, List, [], ◌∷◌}
use Rattle.table.proofs.Common.{ℕ, ℕ_discrete, eqb, eq-eqb, ne_eqb, process, address, Node, Address, Memory, is_marked, address_at, link_at, State}
use Rattle.table.proofs.Common.{at, Set, Quiet, IsHeld}
use mathlib.Core.Option.{some-ne-none}
use Rattle.record.specs.Record.{tail_node}
use Rattle.record.specs.Event.{event_of}
use Rattle.record.specs.declared.Action.TheVariants.{Stop}
use Rattle.table.specs.Chain.{OnChain, chain}
use Rattle.table.specs.Events.{sizes_fit, fresh}
use Rattle.table.specs.Reached.{Reached, ChainListed}
use Rattle.basics.proofs.Tests.{by-test}
use Rattle.table.proofs.Invariant.Effects.{Orderly}
use Rattle.table.proofs.Invariant.Played.{Played}
use Rattle.table.proofs.Invariant.OpenOperations.{orderly}
use Rattle.table.proofs.History.Start.{fresh_quiet}
use Rattle.table.proofs.Reached.Listed.{orderly_listed}

-- ---- which states are reached

-- a quiet state, before any event
pub quiet_reached : {σ : State} → Quiet σ → Reached σ
unfolding at
quiet_reached {σ} quiet = record {
  start = σ;
  events = λ t. event_of (process 0) Stop;
  quiet = quiet;
  fit = λ t a q. absurd (some-ne-none a (sym q));
  time = 0;
  is = refl;
}

pub fresh_reached : (nodes processes : ℕ) → sizes_fit nodes processes ≡ true → Reached (fresh nodes processes)
fresh_reached nodes processes fit = quiet_reached (fresh_quiet nodes processes fit)

-- the run that came there
abbrev pub played_to : {σ : State} → Reached σ → Played
played_to r = record { start = r.start; events = r.events; quiet = r.quiet; fit = r.fit }

-- ---- the chain

module _ {σ : State} (r : Reached σ) where
  pub reached_orderly : Orderly σ.memory
  reached_orderly = subst (λ s. Orderly s.memory) r.is (orderly (played_to r) r.time)

  pub chain_listed : ChainListed σ.memory
  chain_listed = orderly_listed reached_orderly

  pub chain_ends_in_tail : OnChain σ.memory tail_node
  chain_ends_in_tail = chain_listed.ends

-- ---- what is held, as a plain set

-- an unmarked node of the list has the address
unfoldable pub holds_among : Memory → Address → List Node → Bool
holds_among m a [] = false
holds_among m a (n ∷ l) = (not (is_marked (link_at m n)) && eqb (address_at m n) a.0) || holds_among m a l

module _ (m : Memory) (a : Address) where
  -- such a node
  record Names (n : Node) : Type 0 where
    pub plain : is_marked (link_at m n) ≡ false
    pub named : address_at m n ≡ a.0

  found : (n : Node) (l : List Node) → Memᴰ n l → Names n → holds_among m a l ≡ true
  unfolding holds_among
  found n [] i h = absurd (Memᴰ.not-nil i)
  found n (x ∷ l) i h = elim (Memᴰ.cases_cons i) [
    | inl q ↦ rw (ap (λ y. is_marked (link_at m y)) (sym q) ∙ h.plain, eq-eqb (address_at m x) a.0 (ap (address_at m) (sym q) ∙ h.named)) refl
    | inr j ↦ rw (found n l j h) (or-true (not (is_marked (link_at m x)) && eqb (address_at m x) a.0))
  ]

  holder : (l : List Node) → holds_among m a l ≡ true → (n : Node) × Memᴰ n l × Names n
  unfolding holds_among
  holder [] h = absurd (false≢true h)
  holder (x ∷ l) h =
      let later : holds_among m a l ≡ true → (n : Node) × Memᴰ n (x ∷ l) × Names n =
      λ h'. let z = holder l h' in (z.0, Memᴰ.tail z.1, z.2) in
      by-test (is_marked (link_at m x)) (λ q. later (rw q at h)) (λ q. elim (ℕ_discrete (address_at m x) a.0) [
        | yes z ↦ (x, Memᴰ.head refl, record { plain = q; named = z })
        | no z ↦ later (rw (q, ne_eqb (address_at m x) a.0 z) at h)
      ])

-- the addresses held
abbrev pub held_set : Memory → Set
held_set m = λ a. holds_among m a (chain m)

-- what a reached state holds, a quiet one for example, so that demand 3 always has a start
pub held_set_lem : {σ : State} → Reached σ → IsHeld σ.memory (held_set σ.memory)
held_set_lem {σ} r a = (
  (λ q. let z = holder σ.memory a (chain σ.memory) q in
      let b = (listed.nodes z.0).0 z.1 in
      (z.0, record { on = b.on; not_head = b.not_head; not_tail = b.not_tail; plain = z.2.plain; named = ap address z.2.named })),
  (λ h. let b = h.1 in
      found σ.memory a h.0 (chain σ.memory)
      ((listed.nodes h.0).1 (record { on = b.on; not_head = b.not_head; not_tail = b.not_tail }))
      (record { plain = b.plain; named = ap (λ x. x.0) b.named })),
)
  where
    listed : ChainListed σ.memory
    listed = chain_listed r
