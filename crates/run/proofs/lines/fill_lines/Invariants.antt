-- The lines put so far, and filling on from here, come to filling from the start. Rests on Fills.
use Rattle.std.proofs.Common.{ℕ, ◌≡◌, ◌≤◌, ◌-◌, length}
use Rattle.words.specs.LentMemory.{memory_in, SameTables}
use Rattle.run.specs.declared.Phase.{Phase}
use Rattle.run.specs.declared.Phase.TheVariants.{Acting}
use Rattle.run.specs.Pieces.{world, next_piece, fills}
use Rattle.run.proofs.Fills.{FillsTo}
use Rattle.run.proofs.lines.fill_lines.Given as goal

-- what the loop keeps
pub record LoopKeeps (T : Type 0) (block block₀ at : ℕ) (phase : Phase) (R : Type 0) : Type 0 where
  pub tables : T
  pub block_is : block ≡ block₀
  pub within : at ≤ block
  pub acting : phase ≡ Acting
  pub reached : R

abbrev pub invariant-loop-block : goal.invariant-loop-block
invariant-loop-block l =
    LoopKeeps (SameTables l.fn.tables l.tables) (length l.block) (length l.fn.block) l.at l.run.phase
    (FillsTo (next_piece l.file) (world (memory_in l.tables l.run.sizes) l.run) l.block l.at
    (fills l.file (world (memory_in l.fn.tables l.fn.run.sizes) l.fn.run) l.fn.block))

abbrev pub decreases-loop-block : goal.decreases-loop-block
decreases-loop-block l = length l.block - l.at
