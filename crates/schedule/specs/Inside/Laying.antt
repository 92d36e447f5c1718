-- The numbers that the writer makes of a header or an event, and their bytes laid in a part that it was lent. Rests on Numbers and Writing.
use Rattle.std.specs.Prelude.{cond, List, [], ◌∷◌, ◌++◌, ℕ, ◌+◌, ◌-◌, min, leb, length, Option, Some, None}
use Rattle.numbers.specs.Numbers.{number_bytes}
use Rattle.schedule.specs.declared.writing.Numbers.{Numbers}
use Rattle.schedule.specs.Writing.{Wrote, wrote, laid}

abbrev pub third_bytes : Option ℕ → List ℕ
third_bytes None = []
third_bytes (Some third) = number_bytes third

abbrev pub tail_bytes : Numbers → List ℕ
tail_bytes x = number_bytes x.second ++ third_bytes x.third

abbrev pub bytes_of : Numbers → List ℕ
bytes_of x = number_bytes x.first ++ tail_bytes x

-- bytes laid over what stands in a part, as far as it goes
unfoldable pub fitted : (bytes part : List ℕ) → List ℕ
fitted [] part = part
fitted (b ∷ bytes) [] = []
fitted (b ∷ bytes) (old ∷ part) = b ∷ fitted bytes part

-- `put`, in the rest of the output from a place on
unfoldable pub put_in_rest : (bytes rest : List ℕ) → (at : ℕ) → Wrote
put_in_rest bytes rest at =
    cond (leb (length bytes) (min (length rest) (65536 - at))) (wrote (laid bytes rest 0) (at + length bytes) 0) (wrote rest at 9)
