-- The block that lines are gathered in, how much of it is used, and how many bytes each part of a line takes at most. Rests on the room that the
-- writers of text ask for.
use Rattle.std.specs.Prelude.{ℕ, ◌+◌, ◌-◌, ◌*◌}
use Rattle.text.specs.Put.{room_asked}

-- the length of the block; its first half, in which every line starts
abbrev pub block_bytes : ℕ
block_bytes = 65536

abbrev pub half_block : ℕ
half_block = 32768

-- where the parts of a line end at most, so that every writer has the room that it asks for
abbrev pub last_end : ℕ
last_end = block_bytes - room_asked

-- ---- what the parts of a line take at most

-- what the event came to; a number after a space
abbrev pub outcome_room : ℕ
outcome_room = 18

abbrev pub number_room : ℕ
number_room = 11

-- what the event came to, and the count
abbrev pub said_room : ℕ
said_room = outcome_room + number_room

-- so many words; three tables of 64
abbrev pub words_room : ℕ → ℕ
words_room count = count * number_room

abbrev pub tables_room : ℕ
tables_room = 3 * words_room 64

-- the fields of a record; 64 records
abbrev pub record_fields : ℕ
record_fields = 11

abbrev pub record_room : ℕ
record_room = words_room record_fields

abbrev pub row_room : ℕ
row_room = 64 * record_room

-- the line, with its end
abbrev pub line_room : ℕ
line_room = said_room + tables_room + row_room + 1
