-- The last line of a run's output: it lists the chain of the state in which the order of the run's operations ends. Rests on the run's output, on the
-- order of a file's run and on what holds of a chain.
use Rattle.std.specs.Prelude.{◌≡◌, List, ◌++◌, ℕ, length}
use Rattle.table.specs.Events.{State, fresh}
use Rattle.table.specs.Chain.{chain_addresses}
use Rattle.table.specs.Demand3.{at}
use Rattle.table.specs.Reached.{ChainListed}
use Rattle.schedule.specs.declared.Header.{Header}
use Rattle.schedule.specs.Encoding.{events_of}
use Rattle.schedule.specs.Reading.{Reading}
use Rattle.files.specs.Orders.{numbered}
use Rattle.text.specs.Text.{keys_line}
use Rattle.run.specs.Output.{output}

-- of the bytes s, read as a header and items
pub record LastLine (s : List ℕ) (h : Header) (x : Reading) : Type 0 where
  -- the state in which the history of the file's run ends, and the order of its operations with it
  pub end : State
  pub is : at (fresh h.nodes h.processes) (numbered (events_of x.items)) (length (events_of x.items)) ≡ end
  -- the output is other lines, then `keys` with the addresses of the chain there
  pub before : List ℕ
  pub lines : output s ≡ before ++ keys_line (chain_addresses end.memory)
  -- "the address of every node on the chain between head and tail, rising"
  pub listed : ChainListed end.memory
