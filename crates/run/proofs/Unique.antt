-- What `begin`, `fill` and `in_phase` promise fixes what they leave: every lent word, the block and the run. Rests on Pieces.
use mathlib.Core.List.{List}
use mathlib.Core.Path.{◌≡◌, sym, ◌∙◌}
use Prim.Native.Nat.{ℕ}
use Rattle.table.specs.Words.{Memory}
use Rattle.words.specs.LentMemory.{lent_memory}
use Rattle.run.specs.declared.Phase.{Phase}
use Rattle.run.specs.declared.Run.{Run}
use Rattle.run.specs.Filling.{stop}
use Rattle.run.specs.Pieces.{World, world, phase≔, begins, fills}

-- two outcomes: the lent tables and the run that each leaves
module _ (a₁ a₂ l₁ l₂ d₁ d₂ : List ℕ) (r₁ r₂ : Run) where
  abbrev one : World
  one = world (lent_memory a₁ l₁ d₁ r₁.sizes) r₁

  abbrev other : World
  other = world (lent_memory a₂ l₂ d₂ r₂.sizes) r₂

  abbrev Same : Type 0
  Same = (a₁ ≡ a₂) × (l₁ ≡ l₂) × (d₁ ≡ d₂) × (r₁ ≡ r₂)

  same_world : one ≡ other → Same
  same_world e = (λ i. (e i).memory.addresses, λ i. (e i).memory.links, λ i. (e i).memory.deleters, λ i. (e i).run)

  pub begin_is_unique : (file : List ℕ) (m : Memory) → one ≡ begins file m → other ≡ begins file m → Same
  begin_is_unique file m p q = same_world (p ∙ sym q)

  pub fill_is_unique : (file : List ℕ) (w : World) (block b₁ b₂ : List ℕ) (n₁ n₂ : ℕ) → stop one b₁ n₁ ≡ fills file w block
      → stop other b₂ n₂ ≡ fills file w block → Same × (b₁ ≡ b₂) × (n₁ ≡ n₂)
  fill_is_unique file w block b₁ b₂ n₁ n₂ p q = let e = p ∙ sym q in (same_world (λ i. (e i).state), λ i. (e i).block, λ i. (e i).count)

pub in_phase_is_unique : (run : Run) (phase : Phase) (r₁ r₂ : Run) → r₁ ≡ phase≔ phase run → r₂ ≡ phase≔ phase run → r₁ ≡ r₂
in_phase_is_unique run phase r₁ r₂ p q = p ∙ sym q
