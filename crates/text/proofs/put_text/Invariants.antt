-- The bytes copied so far stand before what stood there.
use Rattle.std.proofs.Common.{◌≡◌, ◌++◌, take, drop}
use Rattle.text.proofs.put_text.Given as goal

abbrev pub invariant-loop-i : goal.invariant-loop-i
invariant-loop-i l = l.part ≡ take l.i l.text ++ drop l.i l.fn.part
