-- Each row is that of its place; past the last place the record is out of its ranges. Rests on Turns.
use Rattle.std.proofs.Common.{rules, refl}
use native.Mathlib.Omega.{arith}
use Rattle.list.proofs.Turns.{takes, answers, past_the_table}
use Rattle.list.proofs.actor.Actor.row.Goals as goal

pub returns-in-0-clause-left : goal.returns-in-0-clause-left
returns-in-0-clause-left c = search (rules, takes)

pub returns-in-1-clause-left : goal.returns-in-1-clause-left
returns-in-1-clause-left c = search (rules, takes)

pub returns-in_default-place-2-clause-left : goal.returns-in_default-place-2-clause-left
returns-in_default-place-2-clause-left c = takes _ _ _ _ _ _ _ _ _ 2 _ _ _ c.row_2.ensures c.turned-in_default-place-2.ensures refl refl c.requires (omega arith) (omega arith)

pub returns-in-3-clause-left : goal.returns-in-3-clause-left
returns-in-3-clause-left c = search (rules, takes)

pub returns-in_default-place-3-clause-left : goal.returns-in_default-place-3-clause-left
returns-in_default-place-3-clause-left c = takes _ _ _ _ _ _ _ _ _ 4 _ _ _ c.row_4.ensures c.turned-in_default-place-3.ensures refl refl c.requires (omega arith) (omega arith)

pub returns-in-5-clause-left : goal.returns-in-5-clause-left
returns-in-5-clause-left c = search (rules, takes)

pub returns-in-6-clause-left : goal.returns-in-6-clause-left
returns-in-6-clause-left c = search (rules, takes)

pub returns-in-7-clause-left : goal.returns-in-7-clause-left
returns-in-7-clause-left c = search (rules, takes)

pub returns-in-8-clause-left : goal.returns-in-8-clause-left
returns-in-8-clause-left c = search (rules, takes)

pub returns-in-9-clause-left : goal.returns-in-9-clause-left
returns-in-9-clause-left c = search (rules, takes)

pub returns-in_default-place-4-clause-left : goal.returns-in_default-place-4-clause-left
returns-in_default-place-4-clause-left c = takes _ _ _ _ _ _ _ _ _ 10 _ _ _ c.row_10.ensures c.turned-in_default-place-4.ensures refl refl c.requires (omega arith) (omega arith)

pub returns-in-11-clause-left : goal.returns-in-11-clause-left
returns-in-11-clause-left c = search (rules, takes)

pub returns-in_default-place-5-clause-left : goal.returns-in_default-place-5-clause-left
returns-in_default-place-5-clause-left c = takes _ _ _ _ _ _ _ _ _ 12 _ _ _ c.row_12.ensures c.turned-in_default-place-5.ensures refl refl c.requires (omega arith) (omega arith)

pub returns-in-13-clause-left : goal.returns-in-13-clause-left
returns-in-13-clause-left c = search (rules, takes)

pub returns-in-14-clause-left : goal.returns-in-14-clause-left
returns-in-14-clause-left c = search (rules, takes)

pub returns-in-15-clause-left : goal.returns-in-15-clause-left
returns-in-15-clause-left c = search (rules, takes)

pub returns-in-16-clause-left : goal.returns-in-16-clause-left
returns-in-16-clause-left c = search (rules, takes)

pub returns-in_default-place-6-clause-left : goal.returns-in_default-place-6-clause-left
returns-in_default-place-6-clause-left c = takes _ _ _ _ _ _ _ _ _ 17 _ _ _ c.row_17.ensures c.turned-in_default-place-6.ensures refl refl c.requires (omega arith) (omega arith)

pub returns-in-18-clause-left : goal.returns-in-18-clause-left
returns-in-18-clause-left c = search (rules, takes)

pub returns-in_default-place-7-clause-left : goal.returns-in_default-place-7-clause-left
returns-in_default-place-7-clause-left c = search (rules, answers)

pub returns-in_default-clause-left : goal.returns-in_default-clause-left
returns-in_default-clause-left c = search (rules, past_the_table)
