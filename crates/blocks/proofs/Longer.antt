-- Longer tables and a longer row give the same lines and the same last line. Rests on the place table's `beyond_untouched` and on what lies ahead.
use Prim.Native.Nat.{ℕ, zero, suc, ◌+◌, ◌≤◌}
use mathlib.Core.List.{List, [], ◌∷◌, ◌++◌, map}
use mathlib.Core.Path.{◌≡◌, refl, ap, sym, ◌∙◌}
use mathlib.Core.Bool.{Bool, true, false}
use lib.Dec.{ltb, eqb}
use lib.ListN.{length}
use Rattle.basics.proofs.Tests.{by-test}
use Rattle.record.specs.Record.{address, head_node, tail_node}
use Rattle.record.specs.declared.Node.{Node}
use Rattle.record.specs.declared.Address.{Address}
use Rattle.record.specs.declared.Record.{Record}
use Rattle.record.specs.declared.Event.{Event}
use Rattle.record.specs.declared.Outcome.{Outcome}
use Rattle.table.specs.Words.{Memory, address_at, in_use, rank, target_of}
use Rattle.table.specs.Chain.{follows, Ahead, onto, tail_ahead, not_in_use, not_above, ahead_of, ahead, walk, chain, chain_addresses}
use Rattle.table.specs.Events.{State, Leaves, event, runs, outcomes}
use Rattle.table.proofs.Laws.Fitting.{Room, Beyond, longer}
use Rattle.table.proofs.Laws.Ahead.{walk_on, ahead_onto}
use Rattle.table.proofs.Laws.Sizes.{Agree, ranks_agree, longer_agrees, HoldsSizes, holds_stays, room_stays, longer_state, beyond_untouched}
use Rattle.text.specs.Text.{keys_line}
use Rattle.run.specs.Output.{lines, stop_line, played}

-- ---- the stated sizes are held, and stay so

-- the lent tables and the row hold the stated sizes, and the count is within them
pub record Sound (σ : State) : Type 0 where
  pub room : Room σ.memory
  pub row : σ.memory.processes ≤ length σ.row

holds : {σ : State} → Sound σ → HoldsSizes σ
holds s = record { tables = s.room.long; row = s.row }

sound_stays : (σ : State) (e : Event) → Sound σ → Sound (event σ e).after
sound_stays σ e s = record { room = room_stays σ e s.room; row = (holds_stays σ e (holds s)).row }

-- ---- the same events

module _ (b : Beyond) (rs : List Record) where
  outcomes_longer : (es : List Event) (σ : State) → Sound σ → outcomes (longer_state b rs σ) es ≡ outcomes σ es
  unfolding outcomes
  outcomes_longer [] σ s = refl
  outcomes_longer (e ∷ es) σ s =
      ap (λ (x : Leaves). x.outcome ∷ outcomes x.after es) (beyond_untouched b rs σ (holds s) e)
      ∙ ap (λ (os : List Outcome). (event σ e).outcome ∷ os) (outcomes_longer es (event σ e).after (sound_stays σ e s))

  runs_longer : (es : List Event) (σ : State) → Sound σ → (runs (longer_state b rs σ) es ≡ longer_state b rs (runs σ es)) × Sound (runs σ es)
  unfolding runs
  runs_longer [] σ s = (refl, s)
  runs_longer (e ∷ es) σ s =
      let t = runs_longer es (event σ e).after (sound_stays σ e s) in
      (ap (λ (x : Leaves). runs x.after es) (beyond_untouched b rs σ (holds s) e) ∙ t.0, t.1)

-- ---- the same walk

-- where a target is not in use, how it sorts does not matter
unused_alike : (target : Node) (tail above above' : Bool) → ahead_of target tail false above ≡ ahead_of target tail false above'
unused_alike target true above above' = refl
unused_alike target false above above' = refl

abbrev addresses_of : Memory → List Node → List Address
addresses_of m nodes = map (λ n. address (address_at m n)) nodes

module _ (m m' : Memory) (agree : Agree m m') where
  -- what lies ahead of a node, of a target that both name
  abbrev sorts_above : Memory → (n target : Node) → Bool
  sorts_above k n target = ltb (rank k.addresses n) (rank k.addresses target)

  abbrev from : Memory → (n target : Node) → Ahead
  from k n target = ahead_of target (eqb target.0 tail_node.0) (in_use k target) (sorts_above k n target)

  from_agrees : (n target : Node) → in_use m n ≡ true → from m n target ≡ from m' n target
  from_agrees n target u = by-test (in_use m target)
      (λ t. rw (← agree.used target, ranks_agree agree n u, ranks_agree agree target t))
      (λ t. rw (← agree.used target, t) (unused_alike target (eqb target.0 tail_node.0) (sorts_above m n target) (sorts_above m' n target)))

  ahead_agrees : (n : Node) → in_use m n ≡ true → ahead m n ≡ ahead m' n
  unfolding ahead
  ahead_agrees n u = from_agrees n (follows m n) u ∙ ap (λ word. from m' n (target_of word)) (agree.links n u)

  walk_agrees : (steps : ℕ) (n : Node) → in_use m n ≡ true → addresses_of m (walk steps m n) ≡ addresses_of m' (walk steps m' n)
  unfolding walk
  walk_agrees zero n u = refl
  walk_agrees (suc steps) n u =
      by (walk_agrees steps) (ahead m n) refl ∙ ap (λ x. addresses_of m' (walk_on steps m' x)) (ahead_agrees n u)
    where
      by : ((y : Node) → in_use m y ≡ true → addresses_of m (walk steps m y) ≡ addresses_of m' (walk steps m' y))
          → (x : Ahead) → ahead m n ≡ x → addresses_of m (walk_on steps m x) ≡ addresses_of m' (walk_on steps m' x)
      by again (onto y) e =
          let used = (ahead_onto m n y e).used in
          λ i. address (agree.addresses y used i) ∷ again y used i
      by again tail_ahead e = refl
      by again not_in_use e = refl
      by again not_above e = refl

  chain_agrees : m.count ≡ m'.count → chain_addresses m ≡ chain_addresses m'
  unfolding chain_addresses chain
  chain_agrees same = walk_agrees m.count head_node agree.head ∙ ap (λ steps. addresses_of m' (walk steps m' head_node)) same

-- ---- the same lines and the same last line

pub played_longer : (b : Beyond) (rs : List Record) (number : ℕ) (σ : State) (es : List Event) (ended : ℕ) → Sound σ
    → played number (longer_state b rs σ) es ended ≡ played number σ es ended
unfolding played
played_longer b rs number σ es ended s =
    let t = runs_longer b rs es σ s in
    let m = (runs σ es).memory in
    let keys = ap (λ (σ : State). chain_addresses σ.memory) t.0 ∙ sym (chain_agrees m (longer b m) (longer_agrees m t.1.room b) refl) in
    λ i. lines number (outcomes_longer b rs es σ s i) ++ (stop_line (number + length es) ended ++ keys_line (keys i))
