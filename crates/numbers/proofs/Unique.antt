-- Any two outcomes that meet `read_number`'s promise are equal. Rests on ReadAt and on the refusals' numbers.
use Prim.Native.Nat.{ℕ}
use mathlib.Core.List.{List}
use mathlib.Core.Path.{◌≡◌, ap, sym, ◌∙◌}
use Rattle.std.specs.Prelude.{Result, Ok, Err}
use Rattle.record.specs.declared.Refusal.{Refusal}
use Rattle.record.proofs.Refusals.{same_number}
use Rattle.numbers.specs.ReadAt.{number_told, number_at}

-- no two answers tell the same
pub same_told : (r s : Result (ℕ × ℕ) Refusal) → number_told r ≡ number_told s → r ≡ s
same_told (Ok (m, next)) (Ok (n, after)) e = cc
same_told (Err a) (Err b) e = ap Err (same_number a b cc)
same_told (Ok x) (Err b) e = cc
same_told (Err a) (Ok y) e = cc

pub read_number_unique : (bytes : List ℕ) (at : ℕ) (r s : Result (ℕ × ℕ) Refusal) → number_told r ≡ number_at bytes at
    → number_told s ≡ number_at bytes at
    → r ≡ s
read_number_unique bytes at r s e f = same_told r s (e ∙ sym f)
