-- The tens of all four pairs at once, and what is left of them. Rests on Lanes.
use Rattle.std.proofs.Math.Nat.{add-sub_cancel_left}
use Rattle.text.proofs.Lanes.{paired, tens_are, digits_left}
use Rattle.text.proofs.spelt.Goals as goal

pub returns : goal.returns
returns c =
    let q = paired c.args.n _ c.requires c.pairs-pairs.ensures in
    rw (tens_are q, digits_left c.args.n _ c.requires c.pairs-pairs.ensures) (add-sub_cancel_left _ _)
