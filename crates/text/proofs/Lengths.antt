-- No line is empty, and what follows its number is four bytes or more. Rests on Decimal.
use mathlib.Core.Bool.{Bool, true, false, cond}
use mathlib.Core.List.{[], ◌∷◌, ◌++◌}
use Prim.Native.Nat.{ℕ, ◌≤◌}
use native.Mathlib.Omega.{arith}
use lib.Dec.{eqb}
use lib.ListN.{length, length-append}
use Rattle.record.specs.Record.{false_answer, true_answer}
use Rattle.record.specs.declared.Outcome.{Outcome}
use Rattle.record.specs.declared.Outcome.TheVariants.{Refused, Accepted, Answered}
use Rattle.text.specs.Text.{space, newline, false_word, true_word, fail_word, outcome_text, line}
use Rattle.text.proofs.Decimal.{decimal_length}

pub line_some : (number : ℕ) (o : Outcome) → 1 ≤ length (line number o)
unfolding line
line_some number o = simp length-append (omega (arith, decimal_length number))

answer_some : (b d : Bool) → 4 ≤ length (space ∷ cond b false_word (cond d true_word fail_word) ++ (newline ∷ []))
answer_some true d = omega arith
answer_some false true = omega arith
answer_some false false = omega arith

pub outcome_some : (o : Outcome) → 4 ≤ length (space ∷ outcome_text o ++ (newline ∷ []))
unfolding outcome_text
outcome_some (Refused n) = simp length-append (omega arith)
outcome_some Accepted = omega arith
outcome_some (Answered v) = answer_some (eqb v false_answer) (eqb v true_answer)
