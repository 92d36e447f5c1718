-- Tables that fit are read. Rests on Reading.
use Rattle.chain.proofs.Reading.{keys_read}
use Rattle.chain.proofs.chain_addresses.Goals as goal

pub returns-then-tables_fit : goal.returns-then-tables_fit
returns-then-tables_fit c = keys_read _ _ _ _ _ _ c.tables_fit.ensures _ c.if-tables_fit.true c.read_into.ensures
