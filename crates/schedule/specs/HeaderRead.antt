-- What reading a header answers, in numbers. Rests on the declared types and on the refusals' numbers.
use Rattle.std.specs.Prelude.{ℕ, Result, Ok, Err}
use Rattle.record.specs.declared.Refusal.{Refusal}
use Rattle.record.specs.Refusal.{number_of}
use Rattle.schedule.specs.declared.Header.{Header}
use Rattle.schedule.specs.declared.Cursor.{Cursor}

-- a header with the cursor after it, or the refusal's number
pub data HeaderRead : Type 0 where
  Got : Header → Cursor → HeaderRead
  Refused : (refusal : ℕ) → HeaderRead

-- "Where an answer is an enum, a definition sets out this paper's number and values for each of its cases.": of the reader's answer
abbrev pub header_told : Result (Header × Cursor) Refusal → HeaderRead
header_told (Ok x) = Got x.0 x.1
header_told (Err refusal) = Refused (number_of refusal)
