-- Printing begins, goes on and ends as Prints says.
use Rattle.std.proofs.Common.{arith, rules, refl, ap, is_ok}
use Rattle.std.proofs.lemmas.Result.{err_from_is_err_and}
use Rattle.blocks.proofs.Blocks.{falls}
use Rattle.printer.proofs.Prints.{ended, printed_start, written_cut, written_on, written_all}
use Rattle.printer.proofs.print_blocks.Goals as goal

pub loop-filled-init : goal.loop-filled-init
loop-filled-init g c = (search rules, printed_start _ _ _ _ c.begin-run.ensures.left)

pub returns-then-filled-eq0-clause-printed : goal.returns-then-filled-eq0-clause-printed
returns-then-filled-eq0-clause-printed g c =
    ended _ _ _ refl c.fill-filled.ensures.count_after c.loop-filled.invariant.1.reached c.loop-filled.invariant.1.numbered c.if-filled-eq0.true
    c.loop-filled.auto.block

pub returns-then-filled-eq0-clause-written : goal.returns-then-filled-eq0-clause-written
returns-then-filled-eq0-clause-written g c = λ long.
    written_all c.loop-filled.invariant.1 _ _ c.fill-filled.ensures.count_after c.if-filled-eq0.true (omega arith)

pub returns-in_err-write_all-clause-written : goal.returns-in_err-write_all-clause-written
returns-in_err-write_all-clause-written g c = λ long.
    let p = err_from_is_err_and c.from_residual.result c.from_residual.ensures.1 in
    rw p.1 (written_cut c.loop-filled.invariant.1 _ _ c.fill-filled.ensures.count_after _ c.write_all.ensures)

pub loop-filled-smaller : goal.loop-filled-smaller
loop-filled-smaller g c = (falls _ _ _ _ c.fill-filled.ensures.count_after c.loop-filled.invariant.1.numbered (omega arith)).1

pub loop-filled-preserved : goal.loop-filled-preserved
loop-filled-preserved g c =
    (search rules, written_on c.loop-filled.invariant.1 _ _ c.fill-filled.ensures.count_after _ c.write_all.ensures (ap is_ok c.in_ok-write_all.was) (omega arith))
