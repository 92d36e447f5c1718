-- Demand 2 for a whole file: the lines are those of the events that its bytes encode, worked in order from fresh tables by the place table; and so
-- are the blocks that the code fills. Rests on Theorem and on the files' laws.
use Prim.Native.Nat.{ℕ, ◌≤◌}
use mathlib.Core.Bool.{true}
use mathlib.Core.List.{List, []}
use mathlib.Core.Path.{◌≡◌, ◌∙◌}
use lib.ListN.{length}
use Rattle.table.specs.Words.{Memory, lengths}
use Rattle.table.specs.Events.{long_enough, fresh}
use Rattle.schedule.specs.declared.Header.{Header}
use Rattle.schedule.specs.Encoding.{Item, events_of}
use Rattle.schedule.specs.Reading.{Reading, reading, file}
use Rattle.files.specs.Stands.{Encodes, Holds}
use Rattle.files.proofs.Files.{says_read}
use Rattle.files.proofs.Accepted.{encoding_read}
use Rattle.run.specs.Output.{played, output}
use Rattle.run.specs.Pieces.{begins}
use Rattle.blocks.specs.ToCome.{blocks_written}
use Rattle.blocks.proofs.Begins.{output_file}
use Rattle.blocks.proofs.Theorem.{blocks_are_output}

-- of an encoding: its events, worked to the end
pub lines_of_encoding : (s : List ℕ) (h : Header) (items : List Item) → Encodes s h items
    → output s ≡ played 0 (fresh h.nodes h.processes) (events_of items) 0
lines_of_encoding s h items e = output_file s h (reading items [] 0) (encoding_read s h items e)

-- of bytes that hold a header and items, and then their end or what is refused: the events before it, then the refusal
pub lines_of_file : (s : List ℕ) (h : Header) (x : Reading) → Holds s h x
    → output s ≡ played 0 (fresh h.nodes h.processes) (events_of x.items) x.ended
lines_of_file s h x holds = output_file s h x (says_read s (file h x) holds)

-- the blocks that the code fills are these lines
pub blocks_of_file : (s : List ℕ) (h : Header) (x : Reading) → Holds s h x → (m : Memory) → long_enough 4096 (lengths m) ≡ true
    → (blocks : ℕ → List ℕ) → ((i : ℕ) → 64 ≤ length (blocks i)) → (turns : ℕ) → length (output s) ≤ turns
    → blocks_written turns s blocks (begins s m) ≡ played 0 (fresh h.nodes h.processes) (events_of x.items) x.ended
blocks_of_file s h x holds m long blocks room turns enough = blocks_are_output s m long blocks room turns enough ∙ lines_of_file s h x holds
