-- The reading stands as `ReadSoFar` says. Rests on Reading.
use Rattle.chain.proofs.Reading.{ReadSoFar}
use Rattle.chain.proofs.Chain.read_into.Given as goal

abbrev pub invariant-loop-read : goal.invariant-loop-read
invariant-loop-read l = ReadSoFar l.self.addresses.now l.self.links.now l.self.sizes l.initial.buffer l.buffer l.from l.read
