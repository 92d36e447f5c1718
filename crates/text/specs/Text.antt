-- The text that 01's run program prints: numbers in decimal, the words, a line. Assumes nothing.
use Rattle.std.specs.Prelude.{cond, List, [], ◌∷◌, ◌++◌, ℕ, zero, suc, ◌+◌, ◌/◌, ◌%◌, ltb, eqb}
use Rattle.record.specs.Record.{false_answer, true_answer}
use Rattle.record.specs.declared.Address.{Address}
use Rattle.record.specs.declared.Outcome.{Outcome}
use Rattle.record.specs.declared.Outcome.TheVariants.{Refused, Accepted, Answered}

-- a number in at most so many decimal digits and one, the first one first
unfoldable pub digits : ℕ → ℕ → List ℕ
digits zero n = (48 + n) ∷ []
digits (suc more) n = cond (ltb n 10) ((48 + n) ∷ []) (digits more (n / 10) ++ ((48 + n % 10) ∷ []))

-- a number below 2³² has at most ten
unfoldable pub decimal : ℕ → List ℕ
decimal n = digits 9 n

abbrev pub space : ℕ
space = 32

abbrev pub newline : ℕ
newline = 10

-- `ok`, `false`, `true`, `fail`, `refused`, `keys`
abbrev pub ok_word : List ℕ
ok_word = 111 ∷ 107 ∷ []

abbrev pub false_word : List ℕ
false_word = 102 ∷ 97 ∷ 108 ∷ 115 ∷ 101 ∷ []

abbrev pub true_word : List ℕ
true_word = 116 ∷ 114 ∷ 117 ∷ 101 ∷ []

abbrev pub fail_word : List ℕ
fail_word = 102 ∷ 97 ∷ 105 ∷ 108 ∷ []

abbrev pub refused_word : List ℕ
refused_word = 114 ∷ 101 ∷ 102 ∷ 117 ∷ 115 ∷ 101 ∷ 100 ∷ []

abbrev pub keys_word : List ℕ
keys_word = 107 ∷ 101 ∷ 121 ∷ 115 ∷ []

-- "then `ok`, an answer (`false`, `true`, `fail`) or `refused N`"
unfoldable pub outcome_text : Outcome → List ℕ
outcome_text (Refused n) = refused_word ++ (space ∷ decimal n)
outcome_text Accepted = ok_word
outcome_text (Answered v) = cond (eqb v false_answer) false_word (cond (eqb v true_answer) true_word fail_word)

-- "one line per event: its number from 0, then .."; what follows the number
abbrev pub line_end : Outcome → List ℕ
line_end o = space ∷ outcome_text o ++ (newline ∷ [])

unfoldable pub line : ℕ → Outcome → List ℕ
line number o = decimal number ++ line_end o

-- "`keys`, then the address of every node .., decimal, each after a space"
unfoldable pub addresses_text : List Address → List ℕ
addresses_text [] = []
addresses_text (a ∷ more) = space ∷ decimal a.0 ++ addresses_text more

unfoldable pub keys_line : List Address → List ℕ
keys_line addresses = keys_word ++ (addresses_text addresses ++ (newline ∷ []))
