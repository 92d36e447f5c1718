-- What is laid over a lent part: bytes, words or records. Assumes nothing.
use Rattle.std.specs.Prelude.{List, ◌++◌, length, drop}

-- from the first on; what lies beyond stays: "The caller's table words beyond the stated sizes are never touched."
abbrev pub over : {A : Type 0} → (new lent : List A) → List A
over new lent = new ++ drop (length new) lent
