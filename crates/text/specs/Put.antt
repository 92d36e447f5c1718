-- What a writer of text leaves of the part of a block that it is lent. Rests on Over.
use Rattle.std.specs.Prelude.{cond, List, ℕ, ltb, length}
use Rattle.basics.specs.Over.{over}

-- the part afterwards, and how many bytes were put at its start
pub record Put : Type 0 where
  pub part : List ℕ
  pub count : ℕ

abbrev pub put : List ℕ → ℕ → Put
put part count = record { part = part; count = count }

-- bytes at the start of a part; what stands past them stays
abbrev pub puts : (bytes part : List ℕ) → Put
puts bytes part = put (over bytes part) (length bytes)

-- the room that a writer asks for; every line, and every address with its space, is shorter
abbrev pub room_asked : ℕ
room_asked = 32

-- a part with less room is left as it is, with no bytes put
unfoldable pub put_into : (bytes part : List ℕ) → Put
put_into bytes part = cond (ltb (length part) room_asked) (put part 0) (puts bytes part)
