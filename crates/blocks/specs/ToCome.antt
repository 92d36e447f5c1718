-- What is still to come of a run's output, wherever the run stands, and what its blocks give one after the other. Rests on the run.
use Rattle.std.specs.Prelude.{List, [], ◌∷◌, ◌++◌, map, ℕ, zero, suc, take}
use Rattle.record.specs.Record.{address}
use Rattle.record.specs.declared.Outcome.TheVariants.{Refused}
use Rattle.table.specs.Words.{address_at}
use Rattle.table.specs.Chain.{nodes_after}
use Rattle.files.specs.Comes.{comes, ends}
use Rattle.text.specs.Text.{line, addresses_text, newline}
use Rattle.run.specs.declared.Phase.TheVariants.{Refusing, Acting, Walking, Over}
use Rattle.run.specs.Output.{played}
use Rattle.run.specs.Filling.{Stop}
use Rattle.run.specs.Pieces.{World, memory_of, table_of, fills}

unfoldable pub to_come : (file : List ℕ) → World → List ℕ
to_come file w =
    elim w.run.phase [
      | Refusing n ↦ line 0 (Refused n)
      | Acting ↦ played w.run.number (table_of w) (comes file w.run.cursor) (ends file w.run.cursor)
      | Walking n ↦ addresses_text (map (λ n. address (address_at (memory_of w) n)) (nodes_after (memory_of w) n)) ++ (newline ∷ [])
      | Over ↦ []
    ]

-- the bytes filled of a block
abbrev pub filled : Stop World → List ℕ
filled x = take x.count x.block

-- the bytes of so many blocks, one after the other
unfoldable pub blocks_written : (turns : ℕ) → (file : List ℕ) → (blocks : ℕ → List ℕ) → World → List ℕ
blocks_written zero file blocks w = []
blocks_written (suc turns) file blocks w =
    let x = fills file w (blocks 0) in
    filled x ++ blocks_written turns file (λ i. blocks (suc i)) x.state
