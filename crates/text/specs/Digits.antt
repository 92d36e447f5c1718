-- What the writers of numbers say among themselves: last digits, and eight digits in one word. No promise to a caller rests on it.
use Rattle.std.specs.Prelude.{List, [], ◌∷◌, ◌++◌, ◌≡◌, ℕ, zero, suc, ◌+◌, ◌*◌, ◌/◌, ◌%◌, ◌≤◌, length, take, drop}

-- the last digits of a number, so many
unfoldable pub last_digits : ℕ → ℕ → List ℕ
last_digits zero n = []
last_digits (suc k) n = last_digits k (n / 10) ++ ((48 + n % 10) ∷ [])

-- four numbers of sixteen bits in one, the first lowest
abbrev pub lanes : ℕ → ℕ → ℕ → ℕ → ℕ
lanes a b c d = a + 65536 * b + 4294967296 * c + 281474976710656 * d

-- the pairs of eight digits
abbrev pub pairs_of : ℕ → ℕ
pairs_of n = lanes (n / 1000000) (n / 10000 % 100) (n / 100 % 100) (n % 100)

-- 1, 10, 100, ..
unfoldable pub tens : ℕ → ℕ
tens zero = 1
tens (suc k) = tens k * 10

-- so many bytes at the start of a part; what stands four bytes past them, and further on, stays
pub record Begun (bytes part last : List ℕ) (count : ℕ) : Type 0 where
  pub begins : take count last ≡ bytes
  pub stays : drop (count + 4) last ≡ drop (count + 4) part
  pub counted : count ≡ length bytes
  pub few : count ≤ 10
