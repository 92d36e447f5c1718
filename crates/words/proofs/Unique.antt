-- The promises of `swap`, of `in_use` and of `link_met` leave one outcome; each other is of the form `r ≡ x`, or, of `write`, says so of the table afterwards: the
-- basics' `answer_unique`. Rests on LentMemory and LentWords.
use mathlib.Core.Path.{◌≡◌, sym, ap, ◌∙◌}
use mathlib.Core.Bool.{Bool}
use mathlib.Core.List.{List}
use Prim.Native.Nat.{ℕ}
use Rattle.record.specs.declared.Node.{Node}
use Rattle.table.specs.Words.{Memory, links≔, in_use, fresh_memory}
use Rattle.words.specs.declared.Sizes.{Sizes}
use Rattle.std.specs.Prelude.{Option}
use Rattle.words.specs.declared.LinkRead.{LinkRead}
use Rattle.words.specs.declared.Swapped.{Swapped}
use Rattle.words.specs.LentMemory.{sized}
use Rattle.words.specs.LentWords.{link_met, SwapLeft, swap_left, swap_of}

pub swap_unique : (words : List ℕ) (n : Node) (expected new : ℕ) (words' words'' : List ℕ) (answer' answer'' : Swapped) →
    swap_left words' answer' ≡ swap_of words n expected new →
    swap_left words'' answer'' ≡ swap_of words n expected new →
    (words' ≡ words'') × (answer' ≡ answer'')
swap_unique words n expected new words' words'' answer' answer'' one other = (
  ap (λ (x : SwapLeft). x.words) (one ∙ sym other),
  ap (λ (x : SwapLeft). x.answer) (one ∙ sym other),
)

-- what is promised of every memory leaves one answer, for it is promised of a fresh one
pub one_for_all : {A : Type 0} (x : Memory → A) (a b : A) → ((m : Memory) → a ≡ x m) → ((m : Memory) → b ≡ x m) → a ≡ b
one_for_all x a b one other = let m = fresh_memory 2 1 in one m ∙ sym (other m)

pub in_use_unique : (links : List ℕ) (sizes : Sizes) (n : Node) (a b : Bool) →
    ((m : Memory) → a ≡ in_use (sized sizes (links≔ links m)) n) →
    ((m : Memory) → b ≡ in_use (sized sizes (links≔ links m)) n) →
    a ≡ b
in_use_unique links sizes n a b = one_for_all (λ (m : Memory). in_use (sized sizes (links≔ links m)) n) a b

pub link_met_unique : (links : List ℕ) (sizes : Sizes) (n : Node) (a b : Option LinkRead) →
    ((m : Memory) → a ≡ link_met (sized sizes (links≔ links m)) n) →
    ((m : Memory) → b ≡ link_met (sized sizes (links≔ links m)) n) →
    a ≡ b
link_met_unique links sizes n a b = one_for_all (λ (m : Memory). link_met (sized sizes (links≔ links m)) n) a b
