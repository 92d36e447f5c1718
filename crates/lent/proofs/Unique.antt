-- The promise of each public function fixes its answer and every lent word and record afterwards: two outcomes that meet it are equal, part by part.
-- Rests on the definitions' being functions alone.
use mathlib.Core.Path.{◌≡◌, sym, ◌∙◌}
use mathlib.Core.List.{List}
use Rattle.record.specs.declared.Process.{Process}
use Rattle.record.specs.declared.Record.{Record}
use Rattle.record.specs.declared.Action.{Action}
use Rattle.record.specs.declared.Event.{Event}
use Rattle.record.specs.declared.Outcome.{Outcome}
use Rattle.table.specs.Words.{Memory}
use Rattle.table.specs.Events.{act, state_of, leaves_in, event}
use Rattle.words.specs.LentMemory.{sized, sizes_of}
use Rattle.words.specs.declared.Sizes.{Sizes}
use Rattle.list.specs.Acting.{left}
use Rattle.lent.specs.declared.Said.{Said}
use Rattle.lent.specs.Lent.{acted_of}

abbrev said : Sizes → Outcome → Said
said sizes outcome = record { sizes = sizes; outcome = outcome }

-- the memory lent, and the memories that two outcomes leave, with the sizes that are said
module _ (m m₁ m₂ : Memory) (s₁ s₂ : Said) where
  abbrev SameMemory : Type 0
  SameMemory = sized s₁.sizes m₁ ≡ sized s₂.sizes m₂

  pub act_on_unique : (p : Process) (r r₁ r₂ : Record) (x : Action)
      → left m₁ (acted_of r₁ s₁) ≡ act m p r x → left m₂ (acted_of r₂ s₂) ≡ act m p r x → SameMemory × (r₁ ≡ r₂) × (s₁ ≡ s₂)
  act_on_unique p r r₁ r₂ x f g =
      let same = f ∙ sym g in
      (λ j. (same j).memory, λ j. (same j).advanced, λ j. said (sizes_of (same j).memory) (same j).outcome)

  pub act_in_unique : (row row₁ row₂ : List Record) (e : Event)
      → leaves_in (state_of (sized s₁.sizes m₁) row₁) s₁.outcome ≡ event (state_of m row) e
      → leaves_in (state_of (sized s₂.sizes m₂) row₂) s₂.outcome ≡ event (state_of m row) e → SameMemory × (row₁ ≡ row₂) × (s₁ ≡ s₂)
  act_in_unique row row₁ row₂ e f g =
      let same = f ∙ sym g in
      (λ j. (same j).after.memory, λ j. (same j).after.row, λ j. said (sizes_of (same j).after.memory) (same j).outcome)
