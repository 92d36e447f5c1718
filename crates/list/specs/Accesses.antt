-- What the accesses of the rows promise, spelt with the list's types: the place table's fields, links and words. A reader of the public promises needs
-- none of this. Rests on the table's Steps and the words' LentWords.
use Rattle.std.specs.Prelude.{Bool, cond, List, ℕ, eqb, set, Option, Some, None, option_and_then}
use Rattle.record.specs.declared.Node.{Node}
use Rattle.record.specs.declared.Process.{Process}
use Rattle.record.specs.declared.Record.{Record}
use Rattle.table.specs.Words.{Memory, deleter_at, in_use, no_deleter, deleter_word}
use Rattle.table.specs.Places.{Field, head, pred, curr, succ, own, node_of, Link, unmarked, marked, link_of}
use Rattle.table.specs.Steps.{usable, field_of}
use Rattle.words.specs.LentWords.{link_met, SwapLeft, swap_of}
use Rattle.words.specs.declared.LinkRead.{LinkRead}
use Rattle.words.specs.declared.Swapped.{Swapped}
use Rattle.list.specs.declared.access.Field as code
use Rattle.list.specs.declared.access.Field.TheVariants as named

infixl 10 ◌>>=◌
abbrev pub ◌>>=◌ : {A B : Type 0} → Option A → (A → Option B) → Option B
o >>= f = option_and_then f o

-- the place table's field of that name
abbrev pub field_named : code.Field → Field
field_named named.Head = head
field_named named.Pred = pred
field_named named.Curr = curr
field_named named.Succ = succ
field_named named.Own = own

-- a link to a field's node, marked or not
abbrev pub link_named : Field → (mark : Bool) → Link
link_named f mark = cond mark (marked f) (unmarked f)

-- the node that a field names, if a row may use it
unfoldable pub usable_node : Memory → Record → Field → Option Node
usable_node m r f = cond (usable (in_use m) r f) (Some (node_of r f)) None

-- ---- reads

unfoldable pub link_read : Memory → Record → Field → Option LinkRead
link_read m r f = usable_node m r f >>= link_met m

-- whether a node's deleter is the process
unfoldable pub deleter_read : Memory → Process → Record → Field → Option Bool
deleter_read m p r f = do
  n ← usable_node m r f
  Some (eqb (deleter_at m n) (deleter_word p))

-- ---- writes and swaps

-- the table afterwards, and what the access met; none where it is refused
pub record AccessLeft (A : Type 0) : Type 0 where
  pub words : List ℕ
  pub met : Option A

abbrev pub access_left : {A : Type 0} → List ℕ → Option A → AccessLeft A
access_left words met = record { words = words; met = met }

-- of what an accepted access leaves, or of a table that stays
abbrev pub access_made : {A : Type 0} → List ℕ → Option (AccessLeft A) → AccessLeft A
access_made words None = access_left words None
access_made words (Some x) = x

abbrev pub write_made : List ℕ → AccessLeft Unit
write_made words = access_left words (Some tt)

abbrev pub swap_made : SwapLeft → AccessLeft Swapped
swap_made x = access_left x.words (Some x.answer)

unfoldable pub link_written : Memory → Record → Field → Link → AccessLeft Unit
link_written m r f new = access_made m.links do
  n ← usable_node m r f
  to ← usable_node m r (field_of new)
  Some (write_made (set m.links n.0 (link_of r new)))

unfoldable pub link_swap : Memory → Record → Field → (old new : Link) → AccessLeft Swapped
link_swap m r f old new = access_made m.links do
  n ← usable_node m r f
  from ← usable_node m r (field_of old)
  to ← usable_node m r (field_of new)
  Some (swap_made (swap_of m.links n (link_of r old) (link_of r new)))

unfoldable pub deleter_swap : Memory → Process → Record → Field → AccessLeft Swapped
deleter_swap m p r f = access_made m.deleters do
  n ← usable_node m r f
  Some (swap_made (swap_of m.deleters n no_deleter (deleter_word p)))
