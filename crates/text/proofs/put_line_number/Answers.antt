-- A number of four to eight digits among the first of eight; any other by itself. Rests on FirstOfEight.
use Rattle.std.proofs.Common.{rules}
use Rattle.text.proofs.FirstOfEight.{begun_eight}
use Rattle.text.proofs.put_line_number.Goals as goal

pub returns : goal.returns
returns c = search (rules, begun_eight)
