-- Two outcomes that meet a promise of this crate for the same entry are equal. Rests on the definitions' being functions, and on
-- Reading for a name.
use mathlib.Core.Path.{◌≡◌, sym, ◌∙◌}
use mathlib.Core.List.{List}
use Prim.Native.Nat.{ℕ}
use Rattle.record.specs.declared.Node.{Node}
use Rattle.table.specs.Words.{Memory, fresh_memory}
use Rattle.words.specs.declared.Sizes.{Sizes}
use Rattle.chain.specs.declared.Ahead.{Ahead}
use Rattle.chain.specs.Walking.{ahead_from}
use Rattle.chain.specs.Keys.{Keys, buffer_left, keys_of}
use Rattle.chain.proofs.Reading.{lent_in}

-- what is promised of every memory is promised of a fresh one
module _ (addresses links : List ℕ) (sizes : Sizes) (from : Node) where
  abbrev Lent : Memory → Memory
  Lent = lent_in addresses links sizes

  pub onward_unique : {a b : Ahead} → ((m : Memory) → a ≡ ahead_from (Lent m) from) → ((m : Memory) → b ≡ ahead_from (Lent m) from) → a ≡ b
  onward_unique e h = let m = fresh_memory 2 1 in e m ∙ sym (h m)

pub chain_addresses_unique : (m : Memory) (buffer : List ℕ) {xs ys : List ℕ} {a b : Keys}
    → buffer_left xs a ≡ keys_of m buffer → buffer_left ys b ≡ keys_of m buffer → (xs ≡ ys) × (a ≡ b)
chain_addresses_unique m buffer e h = let same = e ∙ sym h in (λ j. (same j).buffer, λ j. (same j).answer)
