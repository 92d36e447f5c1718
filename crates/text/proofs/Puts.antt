-- Laws of putting bytes into a part, piece after piece, and of the room that a writer asks for. Rests on Put.
use Prim.Native.Nat.{ℕ, suc, ◌+◌, ◌-◌, ◌/◌, ◌%◌, ◌<◌, ◌≤◌}
use mathlib.Core.List.{List, [], ◌∷◌, ◌++◌, append_assoc}
use mathlib.Core.Path.{◌≡◌, ◌∙◌}
use native.Mathlib.Omega.{arith}
use native.Mathlib.Numerals.{add-one}
use native.Mathlib.Nat.{zero-add}
use borrow.Author.Tests.{lt-ltb, le-ltb}
use borrow.Rule.Slice.PartMut.{put_mid}
use lib.ListN.{length, take, drop, set, length-append, length-set}
use lib.Seq.{drop-cons, set-append_seam, take-append_seam, drop-append_seam, take-append-le, drop-append-add, drop-drop}
use lib.Seq.{get_or-set_same, drop-set-lt, sets, sets-eq}
use Rattle.basics.proofs.Rest.{rest_is, rest_back}
use Rattle.text.specs.Put.{Put, put, puts, put_into}
use Rattle.text.specs.Digits.{last_digits, Begun}

-- ---- bytes stored one by one

-- from the start, as many stores as bytes
pub put_stored : (bytes part : List ℕ) → length bytes ≤ length part → put (sets part 0 bytes) (length bytes) ≡ puts bytes part
put_stored bytes part h = rw (sets-eq bytes part 0 (omega arith), zero-add)

-- one more, after others
pub put_byte : (a part mid : List ℕ) (k b : ℕ) → put mid k ≡ puts a part → length a < length part
    → put (set mid k b) (k + 1) ≡ puts (a ++ (b ∷ [])) part
put_byte a part mid k b e h =
    let m : mid ≡ a ++ drop (length a) part = (λ i. (e i).part) in
    let n : k ≡ length a = (λ i. (e i).count) in
    rw (m, n, drop-cons part (length a) 0 h, set-append_seam, length-append, append_assoc, add-one)

-- a turn of the loop that spells a number from its last digit
pub spell_more : (part : List ℕ) (i n : ℕ) → i < length part
    → last_digits i (n / 10) ++ drop i (set part i (48 + n % 10)) ≡ last_digits (suc i) n ++ drop (suc i) part
unfolding last_digits
spell_more part i n h =
    rw (append_assoc, drop-cons (set part i (48 + n % 10)) i 0 (rw length-set h), get_or-set_same, drop-set-lt (suc i) part i _ (omega arith))

-- ---- the rest of a part, lent on

-- bytes that stand before the rest, and others put into it, past which the part stands as it did
stand_then : (a b part mid last : List ℕ) (k m : ℕ) → take k mid ≡ a → k ≡ length a
    → drop (length b) (drop k mid) ≡ drop (length (a ++ b)) part → put last m ≡ puts b (take (length mid - k) (drop k mid))
    → put (put_mid k (length mid - k) mid last) (k + m) ≡ puts (a ++ b) part
stand_then a b part mid last k m t n d f =
    let g : put last m ≡ puts b (drop k mid) = rw rest_is at f in
    let e : last ≡ b ++ drop (length b) (drop k mid) = (λ i. (g i).part) in
    let p : m ≡ length b = (λ i. (g i).count) in
    let q : put_mid k (length mid - k) mid last ≡ (a ++ b) ++ drop (length (a ++ b)) part =
    rest_back mid last k ∙ rw (t, e, d, append_assoc) in
    let r : k + m ≡ length (a ++ b) = rw (n, p, length-append) in
    λ i. put (q i) (r i)

-- bytes, and then others into the rest
pub put_then : (a b part mid last : List ℕ) (k m : ℕ) → put mid k ≡ puts a part
    → put last m ≡ puts b (take (length mid - k) (drop k mid))
    → put (put_mid k (length mid - k) mid last) (k + m) ≡ puts (a ++ b) part
put_then a b part mid last k m e f =
    let g : mid ≡ a ++ drop (length a) part = (λ i. (e i).part) in
    let n : k ≡ length a = (λ i. (e i).count) in
    let d : drop (length b) (drop k mid) ≡ drop (length (a ++ b)) part = rw (g, n, drop-append_seam, drop-drop, length-append) in
    stand_then a b part mid last k m (rw (g, n, take-append_seam)) n d f

-- the same, where both make a text
pub put_both : (whole a b part mid last : List ℕ) (k m : ℕ) → put mid k ≡ puts a part
    → put last m ≡ puts b (take (length mid - k) (drop k mid)) → whole ≡ a ++ b
    → put (put_mid k (length mid - k) mid last) (k + m) ≡ puts whole part
put_both whole a b part mid last k m e f both = rw both (put_then a b part mid last k m e f)

-- bytes that begin what was put, with at most four more
pub begun : (a written part last : List ℕ) (k m : ℕ) → put last m ≡ puts written part → take k written ≡ a → k ≡ length a → k ≤ 10
    → k ≤ length written → length written ≤ k + 4 → Begun a part last k
begun a written part last k m e t n f l h =
    let g : last ≡ written ++ drop (length written) part = (λ i. (e i).part) in
    let r : length written + (k + 4 - length written) ≡ k + 4 = omega arith in
    let d : drop (length written + (k + 4 - length written)) last ≡ drop (length written + (k + 4 - length written)) part =
    rw (g, drop-append-add, drop-drop) in
    record { begins = rw (g, take-append-le k written _ l) t; stays = rw r at d; counted = n; few = f }

-- bytes so begun, and then others, at least four, into the rest
pub put_over : (a b part mid last : List ℕ) (k m : ℕ) → Begun a part mid k → 4 ≤ length b
    → put last m ≡ puts b (take (length mid - k) (drop k mid))
    → put (put_mid k (length mid - k) mid last) (k + m) ≡ puts (a ++ b) part
put_over a b part mid last k m g h f =
    let n : k + 4 + (length b - 4) ≡ length (a ++ b) = simp length-append (omega (arith, g.counted)) in
    let o : k + length b ≡ k + 4 + (length b - 4) = omega arith in
    let d : drop (length b) (drop k mid) ≡ drop (length (a ++ b)) part =
    rw (drop-drop, o, ← drop-drop (length b - 4) (k + 4) mid, g.stays, drop-drop, n) in
    stand_then a b part mid last k m g.begins g.counted d f

-- the bytes of one thing, put for another that is the same
pub puts_same : {A : Type 0} (bytes : A → List ℕ) (a b : A) (part : List ℕ) (x : Put) → b ≡ a → x ≡ puts (bytes a) part → x ≡ puts (bytes b) part
puts_same bytes a b part x e h = rw e h

-- ---- the room asked for

pub too_short : (bytes part : List ℕ) → length part < 32 → put part 0 ≡ put_into bytes part
unfolding put_into
too_short bytes part h = rw (lt-ltb (length part) 32 h)

-- with room, the bytes are put
pub roomy : (bytes part : List ℕ) → 32 ≤ length part → put_into bytes part ≡ puts bytes part
unfolding put_into
roomy bytes part h = rw (le-ltb (length part) 32 h)

pub into_room : (bytes part : List ℕ) (x : Put) → x ≡ puts bytes part → 32 ≤ length part → x ≡ put_into bytes part
into_room bytes part x e h = rw (roomy bytes part h) e
