-- The pieces put so far, and filling on from here, come to filling from the start. Rests on Fills.
use Rattle.std.proofs.Common.{ℕ, ◌≡◌, ◌≤◌, ◌-◌, ◌<◌, List, length}
use Rattle.table.specs.Words.{Memory, addresses≔, links≔}
use Rattle.run.specs.Filling.{fill_from}
use Rattle.run.specs.Pieces.{world, phase≔, next_piece}
use Rattle.run.specs.PrivatePromises.{Ready}
use Rattle.run.proofs.Fills.{FillsTo}
use Rattle.run.proofs.rest.fill_rest.Given as goal

-- what the loop keeps
pub record LoopKeeps (block block₀ at : ℕ) (R S : Type 0) : Type 0 where
  pub block_is : block ≡ block₀
  pub within : at ≤ block
  pub ready : R
  pub reached : S

abbrev pub invariant-loop-chain : goal.invariant-loop-chain
invariant-loop-chain l =
    LoopKeeps (length l.block) (length l.fn.block) l.at (Ready l.phase (length l.block - l.at))
    ((file : List ℕ) (m : Memory) (turns : ℕ) → length l.fn.block - l.initial.at < turns
    → FillsTo (next_piece file) (world (links≔ l.links (addresses≔ l.addresses m)) (phase≔ l.phase l.fn.run)) l.block l.at
    (fill_from (next_piece file) turns (world (links≔ l.links (addresses≔ l.addresses m)) l.fn.run) l.fn.block l.initial.at))

abbrev pub decreases-loop-chain : goal.decreases-loop-chain
decreases-loop-chain l = length l.block - l.at
