-- What stands after a header, item by item, without turns to count. Rests on Follows.
use mathlib.Core.Path.{◌≡◌, refl, ap, ◌∙◌}
use mathlib.Core.List.{List, []}
use Prim.Native.Nat.{ℕ, zero, suc, ◌<◌}
use native.Mathlib.Omega.{arith}
use lib.ListN.{length}
use Rattle.numbers.proofs.Follows.{Follows, follows_shorter}
use Rattle.schedule.specs.Encoding.{Item}
use Rattle.schedule.specs.Reading.{Reading, reading, before, read_items, NextItem, end, item, refuses, next_item, read_all}
use Rattle.files.proofs.Follows.{CountFits, Next, next}

-- by what stands next, where what is left after an item is read by `again`
abbrev read_on : (again : List ℕ → Reading) → List ℕ → NextItem → Reading
read_on again s x = elim x [ end ↦ reading [] s 0 | item i left ↦ before i (again left) | refuses n ↦ reading [] s n ]

-- turns above the length are turns enough, how many soever
turns_enough : (m n : ℕ) (s : List ℕ) → length s < m → length s < n → read_items m s ≡ read_items n s
unfolding read_items
turns_enough zero n s l k = absurd (omega arith)
turns_enough (suc m) zero s l k = absurd (omega arith)
turns_enough (suc m) (suc n) s l k = by_next (λ left. turns_enough m n left) (next_item s) (next s)
  where
    by_next : ((left : List ℕ) → length left < m → length left < n → read_items m left ≡ read_items n left)
        → (x : NextItem) → Next s x → read_on (read_items m) s x ≡ read_on (read_items n) s x
    by_next again end t = refl
    by_next again (item i left) t =
        let shorter : length left < length s = follows_shorter t.0 in
        ap (before i) (again left (omega arith) (omega arith))
    by_next again (refuses k) t = refl

-- what stands after a header is what stands next, and then what stands after that
read_next : (s : List ℕ) → read_all s ≡ read_on read_all s (next_item s)
unfolding read_all read_items
read_next s = by_next (next_item s) (next s)
  where
    by_next : (x : NextItem) → Next s x → read_on (read_items (length s)) s x ≡ read_on read_all s x
    by_next end t = refl
    by_next (item i left) t =
        let shorter : length left < length s = follows_shorter t.0 in
        ap (before i) (turns_enough (length s) (suc (length left)) left shorter (omega arith))
    by_next (refuses k) t = refl

-- where it is known what stands next
pub read_end : (s : List ℕ) → next_item s ≡ end → read_all s ≡ reading [] s 0
read_end s e = read_next s ∙ ap (read_on read_all s) e

pub read_item_lem : (s : List ℕ) (i : Item) (left : List ℕ) → next_item s ≡ item i left → read_all s ≡ before i (read_all left)
read_item_lem s i left e = read_next s ∙ ap (read_on read_all s) e

pub read_refused : (s : List ℕ) (n : ℕ) → next_item s ≡ refuses n → read_all s ≡ reading [] s n
read_refused s n e = read_next s ∙ ap (read_on read_all s) e

-- so what is read has a property that the end and a refusal have, and that an item keeps
module _ (P : List ℕ → Reading → Type 0)
    (at_end : (s : List ℕ) → next_item s ≡ end → P s (reading [] s 0))
    (at_item : (s : List ℕ) (i : Item) (left : List ℕ) → next_item s ≡ item i left → Follows left s × CountFits i → P left (read_all left)
    → P s (before i (read_all left)))
    (at-refusal : (s : List ℕ) (n : ℕ) → next_item s ≡ refuses n → P s (reading [] s n)) where
  in_turns : (turns : ℕ) (s : List ℕ) → length s < turns → P s (read_all s)
  in_turns zero s l = absurd (omega arith)
  in_turns (suc turns) s l = by_next (λ left. in_turns turns left) (next_item s) refl (next s)
    where
      by_next : ((left : List ℕ) → length left < turns → P left (read_all left))
          → (x : NextItem) → next_item s ≡ x → Next s x → P s (read_all s)
      by_next again end e t = rw (read_end s e) (at_end s e)
      by_next again (item i left) e t =
          let shorter : length left < length s = follows_shorter t.0 in
          rw (read_item_lem s i left e) (at_item s i left e t (again left (omega arith)))
      by_next again (refuses n) e t = rw (read_refused s n e) (at-refusal s n e)

  pub item_by_item : (s : List ℕ) → P s (read_all s)
  item_by_item s = in_turns (suc (length s)) s (omega arith)
