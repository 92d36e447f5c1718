-- A promise of the form `r ≡ x`, for an x made of what was passed alone, leaves one answer: that is the form of every promise of this crate, and of
-- many above it.
use mathlib.Core.Path.{◌≡◌, sym, ◌∙◌}

pub answer_unique : {A : Type 0} {x a b : A} → a ≡ x → b ≡ x → a ≡ b
answer_unique e h = e ∙ sym h
