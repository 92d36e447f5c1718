-- The rest of a list from a place on: lent on and come back, and filled one after another. Rests on the kit's lists alone.
use mathlib.Core.Path.{◌≡◌, ap, ◌∙◌}
use mathlib.Core.List.{List, ◌++◌, append-nil}
use Prim.Native.Nat.{ℕ, ◌+◌, ◌-◌, ◌<◌}
use native.Mathlib.Omega.{arith}
use native.Mathlib.Numerals.{add-one}
use native.Mathlib.Nat.{zero-add}
use borrow.Rule.Slice.PartMut.{put_mid}
use lib.ListN.{length, take, drop, set, get_or, length-drop, drop_of_length-le}
use lib.Seq.{take_all, paste-suc}

-- what is lent as `&mut part[at..]`, and what comes back
pub rest_is : (part : List ℕ) (at : ℕ) → take (length part - at) (drop at part) ≡ drop at part
rest_is part at = take_all (length part - at) (drop at part) (omega (arith, length-drop at part))

pub rest_back : (part new : List ℕ) (at : ℕ) → put_mid at (length part - at) part new ≡ take at part ++ new
rest_back part new at = rw (drop_of_length-le (drop at part) {i = length part - at} (omega (arith, length-drop at part)), append-nil)

pub length_rest : (part : List ℕ) (at : ℕ) → length (take (length part - at) (drop at part)) ≡ length part - at
length_rest part at = ap length (rest_is part at) ∙ length-drop at part

-- a turn of a loop that copies
pub copy_more : (part bytes : List ℕ) (i : ℕ) → i < length part → i < length bytes
    → set (take i bytes ++ drop i part) i (get_or bytes i 0) ≡ take (i + 1) bytes ++ drop (i + 1) part
copy_more part bytes i h k = rw add-one (simp zero-add at (paste-suc part 0 bytes i 0 (omega arith) k))
