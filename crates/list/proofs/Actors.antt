-- Who may act: what follows of tables that fit and of a process that is there. Rests on the table's Events and on Rows.
use mathlib.Core.Path.{◌≡◌, sym, ◌∙◌}
use mathlib.Core.Bool.{Bool, true, false, not}
use mathlib.Core.List.{List}
use Prim.Native.Nat.{ℕ, ◌<◌}
use native.Mathlib.Omega.{arith}
use borrow.Author.Tests.{not-false}
use Rattle.record.specs.declared.Process.{Process}
use Rattle.table.specs.Words.{Memory}
use Rattle.table.specs.Events.{tables_fit}
use Rattle.table.proofs.Laws.Fitting.{limits, room_of}
use Rattle.table.proofs.Laws.InUse.{among_stated}
use Rattle.words.specs.LentMemory.{lent_memory, sized}
use Rattle.words.specs.declared.Sizes.{Sizes}
use Rattle.list.specs.Rows.{Within}

-- what tables that fit hold
module _ (m : Memory) (sizes : Sizes) (fits : tables_fit (sized sizes m) ≡ true) where
  within : Within sizes
  within =
      record {
        few = (limits (sized sizes m) fits).few;
        given = (room_of (sized sizes m) fits).most;
        stated = λ k n used. among_stated (sized sizes k) (room_of (sized sizes m) fits).most n used;
      }

-- where the tables fit and the process is there, the sizes hold and the process is one of few
pub able : (addresses links deleters : List ℕ) (sizes : Sizes) (p : Process) (fits : Bool) →
    fits ≡ tables_fit (lent_memory addresses links deleters sizes) → not fits ≡ false → p.0 < sizes.processes → Within sizes × (p.0 < 64)
able addresses links deleters sizes p fits is told there =
    let m : Memory = lent_memory addresses links deleters sizes in
    let fit : tables_fit m ≡ true = sym is ∙ not-false fits told in
    (within m sizes fit, omega (arith, there, (limits m fit).few_processes))
