-- Each word takes no more bytes than a number does.
use Rattle.std.proofs.Common.{◌+◌, ◌≤◌}
use Rattle.cases.specs.Block.{words_room}
use Rattle.cases.proofs.writing.Block.gather_words.Given as goal

abbrev pub invariant-loop-word : goal.invariant-loop-word
invariant-loop-word l = l.self.used ≤ l.initial.self.used + words_room l.word-index
