-- What printing a run leaves of the lent tables and of the lent block, and what the writer took of its output. Rests on the run and on what is to come
-- of its output.
use Rattle.std.specs.Prelude.{◌≡◌, Bool, true, false, List, Option, Result, Ok, Err, ℕ, ◌≤◌, ◌<◌, length}
use Rattle.std.specs.Io.KnownBytes.{Keeps}
use Rattle.table.specs.Words.{Memory}
use Rattle.run.specs.declared.Run.{Run}
use Rattle.run.specs.Filling.{stop}
use Rattle.run.specs.Pieces.{World, world, fills, begins}
use Rattle.blocks.specs.ToCome.{to_come}
use Rattle.streams.specs.Written.{Written}
use Rattle.printer.specs.declared.PrintError.{PrintError}
use Rattle.printer.specs.declared.PrintError.TheVariants.{CutOff, TooShort}

-- a run that another comes to by filling blocks
pub data FilledTo (file : List ℕ) (start : World) : World → Type 0 where
  begun : {w : World} → start ≡ w → FilledTo file start w
  onward : {w v : World} (block : List ℕ) → FilledTo file start w → (fills file w block).state ≡ v → FilledTo file start v

-- The tables of a memory, and the lent block, are those left by filling one block more from a run that the start comes to; where all was written and
-- a block holds 64 bytes or more, nothing is to come.
pub record Printed (file : List ℕ) (start : World) (room : ℕ) (m : Memory) (block : List ℕ) (all : Bool) : Type 0 where
  pub before : World
  pub reached : FilledTo file start before
  pub given : List ℕ
  pub run : Run
  pub count : ℕ
  pub last : stop (world m run) block count ≡ fills file before given
  pub whole : all ≡ true → 64 ≤ room → length (to_come file (world m run)) ≡ 0

-- what each answer says: of the memory and the block that were lent, and of what is left of them
abbrev pub PrintedAs : (file : List ℕ) (m : Memory) (block : List ℕ) (left : Memory) (last : List ℕ) → Result (Unit {0}) PrintError → Type 0
PrintedAs file m block left last (Ok _) = (64 ≤ length block) × Printed file (begins file m) (length block) left last true
PrintedAs file m block left last (Err CutOff) = (64 ≤ length block) × Printed file (begins file m) (length block) left last false
PrintedAs file m block left last (Err TooShort) = (length block < 64) × (left ≡ m) × (last ≡ block)

-- what each answer says of what the writer took: all of the output, as much as it took from the front, nothing
abbrev pub WrittenAs : (before after : Option (List ℕ)) (output : List ℕ) → Result (Unit {0}) PrintError → Type 0
WrittenAs before after output (Ok _) = Written before after output true
WrittenAs before after output (Err CutOff) = Written before after output false
WrittenAs before after output (Err TooShort) = Keeps before after
