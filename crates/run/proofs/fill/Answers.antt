-- The lines of events, and then the rest. Rests on the promises of the two.
use Rattle.std.proofs.Common.{◌∙◌}
use Rattle.words.specs.LentMemory.{memory_in}
use Rattle.run.proofs.fill.Goals as goal

pub returns-clause-count_after : goal.returns-clause-count_after
returns-clause-count_after c =
    let first = c.fill_first-first in
    let m = memory_in first.new.tables first.result.run.sizes in
    let left_off = first.ensures.left_off in
    c.fill_rest.ensures.filled_on _ m left_off.turns left_off.enough ∙ left_off.same
