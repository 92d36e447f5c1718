-- The promise of each public function fixes its answer and every lent word and record afterwards: two outcomes that meet it are equal, part by part.
-- Rests on the definitions' being functions alone.
use mathlib.Core.Path.{◌≡◌, sym, ◌∙◌}
use mathlib.Core.List.{List}
use Rattle.record.specs.declared.Record.{Record}
use Rattle.table.specs.Words.{Memory}
use Rattle.table.specs.Events.{state_of}
use Rattle.fresh.specs.Fresh.{Made, tables_left, fresh_tables, list_left, fresh_list}

-- the memory lent, and what two outcomes leave of it
module _ (m m₁ m₂ : Memory) (a₁ a₂ : Made) where
  pub fresh_tables_unique : tables_left m₁ a₁ ≡ fresh_tables m → tables_left m₂ a₂ ≡ fresh_tables m → (m₁ ≡ m₂) × (a₁ ≡ a₂)
  fresh_tables_unique f g = let same = f ∙ sym g in (λ j. (same j).memory, λ j. (same j).answer)

  pub fresh_list_unique : (row row₁ row₂ : List Record) → list_left (state_of m₁ row₁) a₁ ≡ fresh_list (state_of m row)
      → list_left (state_of m₂ row₂) a₂ ≡ fresh_list (state_of m row) → (m₁ ≡ m₂) × (row₁ ≡ row₂) × (a₁ ≡ a₂)
  fresh_list_unique row row₁ row₂ f g =
      let same = f ∙ sym g in (λ j. (same j).state.memory, λ j. (same j).state.row, λ j. (same j).answer)
