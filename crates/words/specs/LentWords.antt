-- What is asked of lent words, spelt with this crate's types. Rests on the table's Words.
use Rattle.std.specs.Prelude.{Bool, cond, List, ℕ, ltb, get_or, set, Option, Some, None}
use Rattle.std.specs.declared.cmp.Ordering.{Ordering}
use Rattle.std.specs.declared.cmp.Ordering.TheVariants.{Less, Equal, Greater}
use Rattle.record.specs.declared.Node.{Node}
use Rattle.record.specs.declared.Address.{Address}
use Rattle.table.specs.Words.{Memory, link_at, target_of, is_marked, in_use, swaps, below, equal}
use Rattle.words.specs.declared.LinkRead.{LinkRead}
use Rattle.words.specs.declared.Swapped.{Swapped}

-- The place of a process's record in a row of 64, by the stated number of processes. A process that is not there is refused; it has the first place.
unfoldable pub slot_of : (processes process : ℕ) → ℕ
slot_of processes p = cond (ltb p processes) (cond (ltb p 64) p 0) 0

-- how a node stands to an address: it sorts below, has it, or sorts above
unfoldable pub compared_of : List ℕ → Node → Address → Ordering
compared_of addresses n a = cond (below addresses n a) Less (cond (equal addresses n a) Equal Greater)

-- target and mark of a node's link, if the target is in use: "the target of a link read by the row"
unfoldable pub link_met : Memory → Node → Option LinkRead
link_met m n =
    let word = link_at m n in
    cond (in_use m (target_of word)) (Some (record { target = target_of word; mark = is_marked word })) None

-- the table after a swap, and its answer: whether it wrote, and the word found
pub record SwapLeft : Type 0 where
  pub words : List ℕ
  pub answer : Swapped

abbrev pub swap_left : List ℕ → Swapped → SwapLeft
swap_left words answer = record { words = words; answer = answer }

abbrev pub swapped : (wrote : Bool) → (found : ℕ) → Swapped
swapped wrote found = record { wrote = wrote; found = found }

-- a swap of a node's word
unfoldable pub swap_of : List ℕ → Node → (expected new : ℕ) → SwapLeft
swap_of words n expected new =
    let found = get_or words n.0 0 in
    let wrote = swaps found expected in
    swap_left (cond wrote (set words n.0 new) words) (swapped wrote found)
