-- The bytes of one read more stand behind those read before, and are the next that the reader gave. Rests on std's words for what a reader has left.
use Rattle.std.proofs.Common.{◌≡◌, ℕ, ◌+◌, ◌≤◌, List, ◌++◌, Option, length, take, sym, ap, ◌∙◌, subst, length-take-le}
use Rattle.std.proofs.Math.Seq.{take-append-add, take-append-le}
use Rattle.std.proofs.KnownBytes.{Consumes-trans}
use Rattle.std.specs.Io.KnownBytes.{Consumes}
use borrow.Rule.Slice.PartMut.{put_mid, post_of}

-- what stands at the start of a list after a write to its rest
front : (a k n : ℕ) (xs ys : List ℕ) → a ≤ length xs → n ≤ length ys → take a xs ++ take n ys ≡ take (a + n) (put_mid a k xs ys)
front a k n xs ys within fits =
    ap (λ l. take a xs ++ l) (sym (take-append-le n ys (post_of a k xs) fits)) ∙ sym (take-append-add (take a xs) (ys ++ post_of a k xs) n)
    ∙ ap (λ m. take (m + n) (put_mid a k xs ys)) (length-take-le a xs within)

pub read_on : (a b c : Option (List ℕ)) (done k more : ℕ) (space buf : List ℕ) → Consumes a b (take done space) → Consumes b c (take more buf)
    → done ≤ length space → more ≤ length buf → Consumes a c (take (done + more) (put_mid done k space buf))
read_on a b c done k more space buf before now within fits =
    subst (Consumes a c) (front done k more space buf within fits) (Consumes-trans a b c _ _ before now)
