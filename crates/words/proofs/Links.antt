-- Link words: a small target's fits into 32 bits. Rests on the table's Words.
use mathlib.Core.Path.{◌≡◌}
use mathlib.Core.Bool.{Bool, true, false}
use Prim.Native.Nat.{◌<◌, ◌%◌}
use native.Mathlib.Nat.{mod-eq_of_lt}
use native.Mathlib.Omega.{arith}
use Rattle.record.specs.declared.Node.{Node}
use Rattle.table.specs.Words.{link_word}

pub small_word : (n : Node) (mark : Bool) → n.0 < 4096 → link_word n mark % 4294967296 ≡ link_word n mark
small_word n true h = mod-eq_of_lt (omega (arith, h))
small_word n false h = mod-eq_of_lt (omega (arith, h))
