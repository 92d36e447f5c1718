-- How the walk goes on by what it was told. Rests on the table's laws of the walk.
use mathlib.Core.Path.{◌≡◌, refl, sym, ◌∙◌, ap, subst}
use mathlib.Core.List.{[], ◌∷◌}
use Prim.Native.Nat.{ℕ}
use native.Mathlib.Omega.{arith}
use Rattle.record.specs.Record.{address}
use Rattle.record.specs.declared.Node.{Node}
use Rattle.record.specs.declared.Address.{Address}
use Rattle.table.specs.Words.{Memory, address_at}
use Rattle.table.specs.Chain as table
use Rattle.table.specs.Chain.{onto, tail_ahead, not_in_use, not_above, ahead_of, ahead, nodes_after}
use Rattle.table.proofs.Laws.Ahead.{walk_on, nodes_after_lem}
use Rattle.chain.specs.declared.Ahead.{Ahead}
use Rattle.chain.specs.declared.Ahead.TheVariants.{Next}
use Rattle.chain.specs.Walking.{ahead_in, ahead_from}

-- ---- what the code was told of a node

-- any answer but a next node
abbrev pub Stops : Ahead → Type 0
Stops x = (n : Node) (a : Address) → x ≡ Next n a → ⊥

module _ (m : Memory) where
  -- a next node is told of a next node alone, with its address
  next_onto : (x : table.Ahead) (n : Node) (a : Address) → ahead_in m x ≡ Next n a → (x ≡ onto n) × (a ≡ address (address_at m n))
  next_onto (onto o) n a e = (cc, cc)
  next_onto tail_ahead n a e = absurd (let z : ◌≡◌ {A = ℕ} 0 1 = cc in omega arith)
  next_onto not_in_use n a e = absurd (let z : ◌≡◌ {A = ℕ} 0 1 = cc in omega arith)
  next_onto not_above n a e = absurd (let z : ◌≡◌ {A = ℕ} 0 1 = cc in omega arith)

  stops_meet : (P : table.Ahead → Type 0) (x : table.Ahead) → Stops (ahead_in m x) → P tail_ahead → P not_in_use → P not_above → P x
  stops_meet P (onto n) stops t u a = absurd (stops n (address (address_at m n)) refl)
  stops_meet P tail_ahead stops t u a = t
  stops_meet P not_in_use stops t u a = u
  stops_meet P not_above stops t u a = a

  module _ (from : Node) (x : Ahead) (told : x ≡ ahead_from m from) where
    pub told_next : (next : Node) (a : Address) → x ≡ Next next a → (ahead m from ≡ onto next) × (a ≡ address (address_at m next))
    told_next next a e = next_onto (ahead m from) next a (sym told ∙ e)

    pub told_stops : (P : table.Ahead → Type 0) → Stops x → P tail_ahead → P not_in_use → P not_above → P (ahead m from)
    told_stops P stops t u a = stops_meet P (ahead m from) (subst Stops told stops) t u a

    -- so the walk goes on, or ends
    pub goes_to : (next : Node) (a : Address) → x ≡ Next next a → nodes_after m from ≡ next ∷ nodes_after m next
    goes_to next a e = nodes_after_lem m from ∙ ap (walk_on m.count m) (told_next next a e).0

    pub ends_at : Stops x → nodes_after m from ≡ []
    ends_at stops = nodes_after_lem m from ∙ told_stops (λ y. walk_on m.count m y ≡ []) stops refl refl refl
