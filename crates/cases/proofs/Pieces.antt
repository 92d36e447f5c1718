-- A piece of a line is put whole where there is the room that its writer asks for. Rests on the laws of text's writers.
use mathlib.Core.List.{List}
use mathlib.Core.Path.{◌≡◌}
use Prim.Native.Nat.{ℕ, ◌+◌, ◌-◌, ◌≤◌}
use native.Mathlib.Omega.{arith}
use borrow.Rule.Slice.PartMut.{mid_of}
use Rattle.std.proofs.Common.{length, length-drop}
use Rattle.std.proofs.lemmas.List.{length-take}
use Rattle.text.specs.Put.{puts, put_into}
use Rattle.text.proofs.Puts.{roomy}

pub put_whole : (bytes block : List ℕ) (used room : ℕ) → length block ≡ room → used + 32 ≤ room
    → put_into bytes (mid_of used (room - used) block) ≡ puts bytes (mid_of used (room - used) block)
put_whole bytes block used room long within = roomy bytes _ (omega (arith, length-drop used block, length-take {A = ℕ}))
