-- Each file counts.
use Rattle.corpus.proofs.run_files.Given as goal

abbrev pub decreases-loop-left : goal.decreases-loop-left
decreases-loop-left g l = l.left
