-- Where the tables fit and the process is there, the sizes hold and the process is one of few. Rests on Judged.
use Rattle.list.proofs.Judged.{able}
use Rattle.list.proofs.act.Goals as goal

pub invariant_of-actor : goal.invariant_of-actor
invariant_of-actor c =
    let x = able _ _ _ _ _ _ c.tables_fit.ensures (rw c.if-not-tables_fit.false) c.if-sizes-process.false in
    record { within = x.0; process_bound = x.1 }
