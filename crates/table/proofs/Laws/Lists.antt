-- The members of a list mapped are those of the list, mapped. Assumes nothing.
use mathlib.Core.Path.{◌≡◌, refl, sym, ◌∙◌, ap}
use mathlib.Core.Logic.{inl, inr}
use mathlib.Core.List.Memᴰ
use mathlib.Core.List.{List, [], ◌∷◌, map, Memᴰ}

module _ {A B : Type 0} (f : A → B) where
  pub mapped_from : {b : B} (l : List A) → Memᴰ b (map f l) → (a : A) × Memᴰ a l × (f a ≡ b)
  mapped_from [] i = absurd (Memᴰ.not-nil i)
  mapped_from (x ∷ l) i = elim (Memᴰ.cases_cons i) [
    | inl q ↦ (x, Memᴰ.head refl, sym q)
    | inr j ↦ let z = mapped_from l j in (z.0, Memᴰ.tail z.1, z.2)
  ]

  pub mapped : {a : A} {b : B} (l : List A) → Memᴰ a l → f a ≡ b → Memᴰ b (map f l)
  mapped [] i q = absurd (Memᴰ.not-nil i)
  mapped (x ∷ l) i q = elim (Memᴰ.cases_cons i) [ inl e ↦ Memᴰ.head (sym q ∙ ap f e) | inr j ↦ Memᴰ.tail (mapped l j q) ]
