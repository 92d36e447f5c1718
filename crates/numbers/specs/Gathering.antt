-- What the number reader makes of the groups that it gathered; no public promise rests on it. Rests on ReadAt.
use Rattle.std.specs.Prelude.{cond, ◌&&◌, List, [], ◌∷◌, ℕ, ◌+◌, ◌*◌, ◌<◌, ltb, eqb, get_or}
use Rattle.numbers.specs.Numbers.{got, stops}
use Rattle.numbers.specs.ReadAt.{NumberRead, number_read}

-- "groups of seven bits"
abbrev pub Groups : List ℕ → Type 0
Groups groups = (k : ℕ) → get_or groups k 0 < 128

-- the number that groups make, lowest first
abbrev pub summed : List ℕ → ℕ
summed [] = 0
summed (group ∷ more) = group + 128 * summed more

-- the number that the first four groups make with a fifth
abbrev pub summed_with : List ℕ → (fifth : ℕ) → ℕ
summed_with groups fifth =
    get_or groups 0 0 + 128 * (get_or groups 1 0 + 128 * (get_or groups 2 0 + 128 * (get_or groups 3 0 + 128 * fifth)))

-- groups with the last at a place, and zeros behind it
unfoldable pub judged : List ℕ → (last next : ℕ) → NumberRead
judged groups last next =
    number_read (λ left. next)
    (cond (ltb 0 last && eqb (get_or groups last 0) 0) (stops 6) (cond (ltb 15 (get_or groups 4 0)) (stops 6) (got (summed groups) [])))
