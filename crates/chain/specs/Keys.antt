-- What reading the chain's addresses into a lent buffer leaves: "the address of every node on the chain between head and tail, rising".
-- Rests on the table's `chain` and on Walking.
use Rattle.std.specs.Prelude.{cond, List, map, ℕ, length, take, Result, Ok, Err}
use Rattle.std.proofs.Math.Option.{Option, none, some}
use Rattle.record.specs.Record.{head_node}
use Rattle.basics.specs.Over.{over}
use Rattle.record.specs.declared.Address.{Address}
use Rattle.table.specs.Words.{Memory}
use Rattle.table.specs.Events.{tables_fit}
use Rattle.table.specs.Chain.{chain, last_of, chain_addresses}
use Rattle.record.specs.declared.Refusal.{Refusal}
use Rattle.record.specs.declared.Refusal.TheVariants.{BadSizes}
use Rattle.chain.specs.declared.Ahead.{Ahead}
use Rattle.chain.specs.Walking.{ahead_from}

-- how many addresses were read and what lies ahead of the last of them, or why none were
abbrev pub Keys : Type 0
Keys = Result (ℕ × Ahead) Refusal

-- "Where an answer is an enum, a definition sets out this paper's number and values for each of its cases.": how many addresses were read and what
-- lies ahead of the last of them; where none were, 7: "sizes outside the limits, a lent table too short, count below 2 or above the nodes"
abbrev pub keys_from : Option (ℕ × Ahead) → Keys
keys_from none = Err BadSizes
keys_from (some (read, ahead)) = Ok (read, ahead)

-- the buffer afterwards, and the answer
pub record BufferLeft : Type 0 where
  pub buffer : List ℕ
  pub answer : Keys

abbrev pub buffer_left : List ℕ → Keys → BufferLeft
buffer_left buffer answer = record { buffer = buffer; answer = answer }

-- addresses as a buffer has them: their numbers
abbrev pub numbers : List Address → List ℕ
numbers addresses = map (λ a. a.0) addresses

-- As many of the chain's addresses as there is room for, the rest of the buffer as it was; how many they are, and what lies ahead of the last of
-- them: tail, a target not in use, one not above, or, where the buffer is full, a next node with its address.
unfoldable pub read_keys : Memory → (buffer : List ℕ) → BufferLeft
read_keys m buffer =
    let keys = take (length buffer) (numbers (chain_addresses m)) in
    buffer_left (over keys buffer)
    (keys_from (some (length keys, ahead_from m (last_of head_node (take (length buffer) (chain m))))))

-- "7 | sizes outside the limits, a lent table too short, count below 2 or above the nodes | nothing changed"
unfoldable pub keys_of : Memory → (buffer : List ℕ) → BufferLeft
keys_of m buffer = cond (tables_fit m) (read_keys m buffer) (buffer_left buffer (keys_from none))
