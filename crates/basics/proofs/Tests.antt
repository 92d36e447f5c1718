-- Tests on numbers as facts, to go by cases over a `cond` in a goal; booleans and options by cases. Assumes nothing.
use mathlib.Core.Path.{◌≡◌, refl}
use mathlib.Core.Logic.{◌≢◌, ◌⊎◌, inl, inr}
use mathlib.Core.Bool.{Bool, true, false, cond, not, ◌&&◌, ◌||◌, false≢true}
use mathlib.Core.Option.{Option, none, some}
use mathlib.Core.List.{List, [], ◌∷◌}
use Prim.Native.Nat.{ℕ, zero, suc, ◌≤◌, ◌<◌}
use lib.Dec.{leb, ltb, eqb}
use lib.ListN.{get_or}
use borrow.Author.Tests.{ltb-true, ltb-false, leb-true, leb-false, eqb-true, eqb-false, not-true, not-false}

-- a goal that holds a `cond`, by cases: P says where it stands
module _ {ℓ κ} {A : Type ℓ} (P : A → Type κ) where
  pub if : (b : Bool) {x y : A} → (b ≡ true → P x) → (b ≡ false → P y) → P (cond b x y)
  if true f g = f refl
  if false f g = g refl

  pub if_eq : (a b : ℕ) {x y : A} → (a ≡ b → P x) → (a ≢ b → P y) → P (cond (eqb a b) x y)
  if_eq a b f g = if (eqb a b) (λ e. f (eqb-true a b e)) (λ e. g (eqb-false a b e))

  pub if_ne : (a b : ℕ) {x y : A} → (a ≢ b → P x) → (a ≡ b → P y) → P (cond (not (eqb a b)) x y)
  if_ne a b f g = if (not (eqb a b)) (λ e. f (eqb-false a b (not-true (eqb a b) e))) (λ e. g (eqb-true a b (not-false (eqb a b) e)))

  pub if_lt : (a b : ℕ) {x y : A} → (a < b → P x) → (b ≤ a → P y) → P (cond (ltb a b) x y)
  if_lt a b f g = if (ltb a b) (λ e. f (ltb-true a b e)) (λ e. g (ltb-false a b e))

  pub if_le : (a b : ℕ) {x y : A} → (a ≤ b → P x) → (b < a → P y) → P (cond (leb a b) x y)
  if_le a b f g = if (leb a b) (λ e. f (leb-true a b e)) (λ e. g (leb-false a b e))

  -- two tests joined
  pub if_or : (a b : Bool) {x y : A} → (a ≡ true → P x) → (b ≡ true → P x) → (a ≡ false → b ≡ false → P y) → P (cond (a || b) x y)
  if_or true b f g h = f refl
  if_or false true f g h = g refl
  if_or false false f g h = h refl refl

  if_and : (a b : Bool) {x y : A} → (a ≡ true → b ≡ true → P x) → (a ≡ false → P y) → (b ≡ false → P y) → P (cond (a && b) x y)
  if_and true true f g h = f refl refl
  if_and true false f g h = h refl
  if_and false b f g h = g refl

  pub if_within : (m n k : ℕ) {x y : A} → (m ≤ n → n ≤ k → P x) → ((n < m) ⊎ (k < n) → P y) → P (cond (leb m n && leb n k) x y)
  if_within m n k f g =
      if_and (leb m n) (leb n k)
      (λ s t. f (leb-true m n s) (leb-true n k t)) (λ s. g (inl (leb-false m n s))) (λ t. g (inr (leb-false n k t)))

-- any goal, by a test's two cases
pub by-test {κ} : {X : Type κ} (b : Bool) → (b ≡ true → X) → (b ≡ false → X) → X
by-test true f g = f refl
by-test false f g = g refl

-- a goal that holds a test several times
pub test-eq {κ} : (P : Bool → Type κ) (a b : ℕ) → (a ≡ b → P true) → (a ≢ b → P false) → P (eqb a b)
test-eq P a b f g = by-test (eqb a b) (λ e. rw e (f (eqb-true a b e))) (λ e. rw e (g (eqb-false a b e)))

-- of a conjunction
pub and_left : (a b : Bool) → (a && b) ≡ true → a ≡ true
and_left true b e = refl
and_left false b e = e

pub and_right : (a b : Bool) → (a && b) ≡ true → b ≡ true
and_right true b e = e
and_right false b e = absurd (false≢true e)

-- of conditions joined from the left, each by its number
abbrev pub joined : Bool → List Bool → Bool
joined b [] = b
joined b (c ∷ cs) = joined (b && c) cs

pub each_true : (b : Bool) (cs : List Bool) → joined b cs ≡ true → (n : ℕ) → get_or (b ∷ cs) n true ≡ true
each_true b [] h zero = h
each_true b [] h (suc n) = refl
each_true b (c ∷ cs) h zero = and_left b c (each_true (b && c) cs h zero)
each_true b (c ∷ cs) h (suc zero) = and_right b c (each_true (b && c) cs h zero)
each_true b (c ∷ cs) h (suc (suc n)) = each_true (b && c) cs h (suc n)

pub not_true_false : (b : Bool) → (b ≡ true → ⊥) → b ≡ false
not_true_false true h = absurd (h refl)
not_true_false false h = refl

pub none_or_some : {A : Type 0} (x : Option A) → (x ≡ none) ⊎ ((a : A) × (x ≡ some a))
none_or_some none = inl refl
none_or_some (some a) = inr (a, refl)
