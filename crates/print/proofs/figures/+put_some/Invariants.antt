-- The measure is how many figures there may be.
use Rattle.print.proofs.figures.+put_some.Given as goal

abbrev pub decreases-put_some : goal.decreases-put_some
decreases-put_some l = l.f
