-- How many bytes came of a reading, also where a read failed. Rests on the declared type alone.
use Rattle.std.specs.Prelude.{ℕ, Result, Ok, Err}
use Rattle.streams.specs.declared.ReadFailed.{ReadFailed}

abbrev pub count_read : Result ℕ ReadFailed → ℕ
count_read (Ok count) = count
count_read (Err failed) = failed.count
