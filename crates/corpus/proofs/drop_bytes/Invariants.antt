-- The count of bytes left falls.
use Rattle.corpus.proofs.drop_bytes.Given as goal

abbrev pub decreases-loop-left : goal.decreases-loop-left
decreases-loop-left g l = l.left
