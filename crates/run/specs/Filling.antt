-- A block filled piece after piece, from anything that has pieces to put. Rests on the schedule's bytes laid at a place.
use Rattle.std.specs.Prelude.{cond, List, ℕ, zero, suc, ◌+◌, ◌-◌, ltb, length}
use Rattle.schedule.specs.Writing.{laid}

-- what comes next: a piece and what is left after it, or nothing more
pub data NextPiece (S : Type 0) : Type 0 where
  piece : List ℕ → S → NextPiece S
  nothing : NextPiece S

-- where filling stops: what is left, the block, and how many of its bytes are filled
pub record Stop (S : Type 0) : Type 0 where
  pub state : S
  pub block : List ℕ
  pub count : ℕ

abbrev pub stop : {S : Type 0} → S → List ℕ → ℕ → Stop S
stop s block count = record { state = s; block = block; count = count }

-- piece after piece, while 64 bytes or more are left of the block: room for any piece
unfoldable pub fill_from : {S : Type 0} → (S → NextPiece S) → (turns : ℕ) → S → (block : List ℕ) → (at : ℕ) → Stop S
fill_from next zero s block at = stop s block at
fill_from next (suc turns) s block at =
    cond (ltb (length block - at) 64) (stop s block at)
    (elim (next s) [
      | piece bytes t ↦ fill_from next turns t (laid bytes block at) (at + length bytes)
      | nothing ↦ stop s block at
    ])
