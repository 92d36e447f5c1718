-- A number that stands at a place of a file: what the reader answers. Rests on Numbers and on the refusals' numbers.
use Rattle.std.specs.Prelude.{List, ℕ, ◌-◌, length, drop, Result, Ok, Err}
use Rattle.record.specs.declared.Refusal.{Refusal}
use Rattle.record.specs.Refusal.{number_of}
use Rattle.numbers.specs.Numbers.{Read, got, stops, read_number}

-- the place before the bytes left of a file
abbrev pub place_in : List ℕ → List ℕ → ℕ
place_in file left = length file - length left

-- a number with the place after it, or the refusal's number
pub data NumberRead : Type 0 where
  Got : (number next : ℕ) → NumberRead
  Refused : (refusal : ℕ) → NumberRead

-- "Where an answer is an enum, a definition sets out this paper's number and values for each of its cases.": of the reader's answer
abbrev pub number_told : Result (ℕ × ℕ) Refusal → NumberRead
number_told (Ok x) = Got x.0 x.1
number_told (Err refusal) = Refused (number_of refusal)

-- by what was read, and the place of the bytes left
abbrev pub number_read : (place : List ℕ → ℕ) → Read ℕ → NumberRead
number_read place (got n left) = Got n (place left)
number_read place (stops n) = Refused n

unfoldable pub number_at : List ℕ → ℕ → NumberRead
number_at file at = number_read (place_in file) (read_number (drop at file))
