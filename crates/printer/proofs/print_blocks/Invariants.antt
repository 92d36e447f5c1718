-- What is to come falls with each block that got bytes. Rests on Prints.
use Rattle.std.proofs.Common.{length}
use Rattle.words.specs.LentMemory.{memory_in, SameTables}
use Rattle.run.specs.Pieces.{world, unstated, begins}
use Rattle.blocks.specs.ToCome.{to_come}
use Rattle.printer.proofs.Prints.{PrintedSoFar}
use Rattle.printer.proofs.print_blocks.Given as goal

abbrev pub invariant-loop-filled : goal.invariant-loop-filled
invariant-loop-filled g l =
    SameTables l.fn.tables l.tables
    × PrintedSoFar l.file (begins l.file (memory_in l.fn.tables unstated)) (world (memory_in l.tables l.run.sizes) l.run)
    (g.W.Write.contents l.initial.to) (g.W.Write.contents l.to)

abbrev pub decreases-loop-filled : goal.decreases-loop-filled
decreases-loop-filled g l = length (to_come l.file (world (memory_in l.tables l.run.sizes) l.run))
