-- The end of a line, by what the event came to, and the outcome's text taken out of it. Rests on Lengths and Puts.
use mathlib.Core.List.{List, [], ◌∷◌, ◌++◌, append_assoc}
use mathlib.Core.Logic.{◌≢◌}
use mathlib.Core.Path.{◌≡◌, sym}
use Prim.Native.Nat.{ℕ, ◌-◌, ◌≤◌}
use native.Mathlib.Omega.{arith}
use borrow.Author.Tests.{eq-eqb, ne_eqb}
use lib.ListN.{length, take, drop, length-append}
use lib.Seq.{take_at}
use Rattle.record.specs.Record.{false_answer, true_answer}
use Rattle.record.specs.declared.Outcome.{Outcome}
use Rattle.record.specs.declared.Outcome.TheVariants.{Answered}
use Rattle.text.specs.Text.{space, newline, false_word, true_word, fail_word, outcome_text, line_end}
use Rattle.text.specs.Put.{Put, put, puts}
use Rattle.text.proofs.Lengths.{outcome_some}
use Rattle.text.proofs.Puts.{puts_same}

-- ---- a line's end

-- four bytes or more
pub four_ended : (o : Outcome) (part last : List ℕ) (k : ℕ) → put last k ≡ puts (line_end o) part → 4 ≤ k
four_ended o part last k e = let counted : k ≡ length (line_end o) = λ i. (e i).count in omega (arith, outcome_some o)

-- of an outcome that is known
pub line_ended : (o known : Outcome) (part : List ℕ) (x : Put) → o ≡ known → x ≡ puts (line_end known) part → x ≡ puts (line_end o) part
line_ended o known part x is e = puts_same line_end known o part x is e

-- a word as a line ends with it
abbrev ended_by : List ℕ → List ℕ
ended_by word = space ∷ word ++ (newline ∷ [])

-- by an answer's number
module _ (answer : ℕ) (part : List ℕ) (x : Put) where
  pub ended_false : answer ≡ false_answer → x ≡ puts (ended_by false_word) part → x ≡ puts (line_end (Answered answer)) part
  unfolding outcome_text
  ended_false is = puts_same ended_by false_word (outcome_text (Answered answer)) part x (rw (eq-eqb answer false_answer is))

  pub ended_true : answer ≢ false_answer → answer ≡ true_answer → x ≡ puts (ended_by true_word) part
      → x ≡ puts (line_end (Answered answer)) part
  unfolding outcome_text
  ended_true not_false is =
      puts_same ended_by true_word (outcome_text (Answered answer)) part x (rw (ne_eqb answer false_answer not_false, eq-eqb answer true_answer is))

  pub ended_fail : answer ≢ false_answer → answer ≢ true_answer → x ≡ puts (ended_by fail_word) part
      → x ≡ puts (line_end (Answered answer)) part
  unfolding outcome_text
  ended_fail not_false not-true =
      puts_same ended_by fail_word (outcome_text (Answered answer)) part x (rw (ne_eqb answer false_answer not_false, ne_eqb answer true_answer not-true))

-- ---- the outcome's text, without the space before it and the end of the line

module _ (o : Outcome) (found ended : List ℕ) (k : ℕ) (e : put ended k ≡ puts (line_end o) found) where
  text_within : take (k - 1 - 1) (drop 1 ended) ≡ outcome_text o
  text_within =
      let text = outcome_text o in
      let rest = drop (length (line_end o)) found in
      let is : ended ≡ line_end o ++ rest = λ i. (e i).part in
      let counted : k ≡ length (line_end o) = λ i. (e i).count in
      let long : k - 1 - 1 ≡ length text = omega (arith, length-append text (newline ∷ [])) in
      rw (is, append_assoc text (newline ∷ []) rest) (take_at text ((newline ∷ []) ++ rest) (k - 1 - 1) (sym long))

  pub text_put : (part : List ℕ) (x : Put) → x ≡ puts (take (k - 1 - 1) (drop 1 ended)) part → x ≡ puts (outcome_text o) part
  text_put part x = rw text_within (λ f. f)
