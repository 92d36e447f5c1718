-- The last line lists the addresses of exactly the nodes on the chain of the state in which the order of `demand_3_files` ends. Rests on the files'
-- Demand3 and the table's reached states.
use mathlib.Core.Path.{◌≡◌, ◌∙◌}
use mathlib.Core.List.{List, ◌++◌, append_assoc}
use Prim.Native.Nat.{ℕ, ◌+◌}
use lib.ListN.{length}
use Rattle.table.specs.Events.{fresh, runs, outcomes}
use Rattle.table.proofs.Reached.States.{chain_listed}
use Rattle.schedule.specs.declared.Header.{Header}
use Rattle.schedule.specs.Encoding.{events_of}
use Rattle.schedule.specs.Reading.{Reading, file, read_file}
use Rattle.files.specs.Fits.{Bytes}
use Rattle.files.proofs.Demand3.{demand_3_files, file_reached}
use Rattle.run.specs.Output.{lines, stop_line, played}
use Rattle.blocks.specs.LastLine.{LastLine}
use Rattle.blocks.proofs.Begins.{output_file}

pub last_line_lists_the_chain : (s : List ℕ) → Bytes s → (h : Header) (x : Reading) → read_file s ≡ file h x → LastLine s h x
unfolding played
last_line_lists_the_chain s bytes h x e =
    let events = events_of x.items in
    let start = fresh h.nodes h.processes in
    record {
      end = runs start events;
      is = (demand_3_files s bytes h x e).end;
      before = lines 0 (outcomes start events) ++ stop_line (0 + length events) x.ended;
      lines = output_file s h x e ∙ rw append_assoc;
      listed = chain_listed (file_reached s bytes h x e);
    }
