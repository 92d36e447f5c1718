-- The blocks of a run, of any sizes of 64 bytes or more, one after the other, are the run program's output. Rests on Blocks and Begins.
use Prim.Native.Nat.{ℕ, ◌≤◌}
use mathlib.Core.Bool.{true}
use mathlib.Core.List.{List}
use mathlib.Core.Path.{◌≡◌, ap, ◌∙◌}
use native.Mathlib.Omega.{arith}
use lib.ListN.{length}
use Rattle.table.specs.Words.{Memory, lengths}
use Rattle.table.specs.Events.{long_enough}
use Rattle.table.proofs.Laws.Fitting.{long_of}
use Rattle.run.specs.Output.{output}
use Rattle.run.specs.Pieces.{begins}
use Rattle.blocks.specs.ToCome.{blocks_written}
use Rattle.blocks.proofs.Blocks.{written_is}
use Rattle.blocks.proofs.Begins.{begin_numbered, begin_comes}

-- Lent tables of 4,096 words or more are long enough for any header.
pub blocks_are_output : (file : List ℕ) (m : Memory) → long_enough 4096 (lengths m) ≡ true
    → (blocks : ℕ → List ℕ) → ((i : ℕ) → 64 ≤ length (blocks i)) → (turns : ℕ) → length (output file) ≤ turns
    → blocks_written turns file blocks (begins file m) ≡ output file
blocks_are_output file m long blocks room turns enough =
    let whole = begin_comes file m (long_of 4096 (lengths m) long) in
    written_is turns file blocks (begins file m) room (begin_numbered file m) (omega (arith, ap length whole)) ∙ whole
