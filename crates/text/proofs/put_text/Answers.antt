-- One byte more. Rests on the basics' Rest.
use Rattle.std.proofs.Common.{arith}
use Rattle.basics.proofs.Rest.{copy_more}
use Rattle.text.proofs.put_text.Goals as goal

pub loop-i-preserved : goal.loop-i-preserved
loop-i-preserved c =
    let l = c.loop-i in
    rw l.invariant (copy_more c.args.part.now c.args.text.now l.i (omega (arith, l.auto)) (omega (arith, l.auto)))
