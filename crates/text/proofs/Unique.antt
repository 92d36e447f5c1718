-- What a writer promises fixes what it leaves: `put_line`, `put_refusal`, `put_outcome`, `put_keys`, `put_number`, `put_address` and `put_newline`
-- all promise this equation, each of its own bytes. Rests on Put.
use mathlib.Core.List.{List}
use mathlib.Core.Path.{◌≡◌, sym, ◌∙◌}
use Prim.Native.Nat.{ℕ}
use Rattle.text.specs.Put.{put, put_into}

pub put_is_unique : (bytes part part₁ part₂ : List ℕ) (count₁ count₂ : ℕ) → put part₁ count₁ ≡ put_into bytes part
    → put part₂ count₂ ≡ put_into bytes part → (part₁ ≡ part₂) × (count₁ ≡ count₂)
put_is_unique bytes part part₁ part₂ count₁ count₂ p q =
    let e = p ∙ sym q in
    ((λ i. (e i).part), (λ i. (e i).count))
