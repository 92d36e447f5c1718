-- A header that was read, whether or not the tables were made fresh, and one that was refused. Rests on Steps.
use Rattle.std.proofs.Common.{rules, ◌≡◌, ap, ◌∙◌}
use Rattle.std.specs.Prelude.{Result, Err}
use Rattle.record.specs.declared.Refusal.{Refusal}
use Rattle.record.specs.Refusal.{number_of}
use Rattle.words.specs.LentMemory.{memory_in}
use Rattle.fresh.specs.Fresh.{fresh_sizes}
use Rattle.run.specs.declared.Run.{Run}
use Rattle.run.specs.Pieces.{world, start_of, unstated}
use Rattle.run.specs.PrivatePromises.{begun}
use Rattle.run.proofs.Steps.{header_is, begin_got, begin_refused}
use Rattle.run.proofs.begun.Goals as goal

pub returns-in_err-header-clause-left : goal.returns-in_err-header-clause-left
returns-in_err-header-clause-left c =
    let m = memory_in c.args.tables.now unstated in
    let refusal = c.in_err-header.field-0.0 in
    let is : c.from_residual.result ≡ Err refusal = search rules in
    ap (λ (x : Result Run Refusal). world m (begun x)) is
    ∙ begin_refused c.args.file.now m (number_of refusal) (header_is _ _ _ _ c.start.ensures c.read_header.ensures c.in_err-header.was)

pub returns-in_err-sizes-clause-left : goal.returns-in_err-sizes-clause-left
unfolding start_of
returns-in_err-sizes-clause-left c =
    let header = c.in_ok-header.header in
    let m' = memory_in c.fresh_tables.new.tables (fresh_sizes header.nodes header.processes) in
    let is : c.from_residual-in_err-sizes.result ≡ Err c.in_err-sizes.field-0.0 = search rules in
    ap (λ (x : Result Run Refusal). world m' (begun x)) is
    ∙ rw c.in_err-sizes.was at
    (begin_got c.args.file.now (memory_in c.args.tables.now unstated) m' header c.in_ok-header.cursor c.fresh_tables.result
    (header_is _ _ _ _ c.start.ensures c.read_header.ensures c.in_ok-header.was) c.fresh_tables.ensures.left)

pub returns-clause-left : goal.returns-clause-left
unfolding start_of
returns-clause-left c =
    let header = c.in_ok-header.header in
    let m' = memory_in c.fresh_tables.new.tables (fresh_sizes header.nodes header.processes) in
    rw c.fresh.ensures
    (rw c.in_ok-sizes.was at
    (begin_got c.args.file.now (memory_in c.args.tables.now unstated) m' header c.in_ok-header.cursor c.fresh_tables.result
    (header_is _ _ _ _ c.start.ensures c.read_header.ensures c.in_ok-header.was) c.fresh_tables.ensures.left))
