-- The promise of `act` leaves one outcome: any two that meet it for the same entry are equal, table by table. Rests on Acting.
use mathlib.Core.Path.{◌≡◌, sym, ◌∙◌}
use mathlib.Core.List.{List}
use Prim.Native.Nat.{ℕ}
use Rattle.table.specs.Events.{Left}
use Rattle.words.specs.LentMemory.{lent_memory, sizes_of}
use Rattle.list.specs.declared.Acted.{Acted}
use Rattle.list.specs.Acting.{left}

module _ (d : Left) (addresses' links' deleters' addresses'' links'' deleters'' : List ℕ) (answer' answer'' : Acted) where
  pub act_unique : left (lent_memory addresses' links' deleters' answer'.sizes) answer' ≡ d →
      left (lent_memory addresses'' links'' deleters'' answer''.sizes) answer'' ≡ d →
      (addresses' ≡ addresses'') × (links' ≡ links'') × (deleters' ≡ deleters'') × (answer' ≡ answer'')
  act_unique one other =
      let same = one ∙ sym other in (
        λ i. (same i).memory.addresses,
        λ i. (same i).memory.links,
        λ i. (same i).memory.deleters,
        λ i. record { advanced = (same i).advanced; sizes = sizes_of (same i).memory; outcome = (same i).outcome },
      )
