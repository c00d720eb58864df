-- `counting::counting` meets its contract: by what the chain before it and the predicate's own expression give; the measure is the link, which falls.
-- Assumes nothing.
use Rattle.counting.proofs.+counting.Given as goal

abbrev pub decreases-counting : goal.decreases-counting
decreases-counting l = l.link
