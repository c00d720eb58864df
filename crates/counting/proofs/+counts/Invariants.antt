-- `counting::counts` meets its contract: by the rows of the chain. The measure is the link.
-- Assumes nothing.
use Rattle.counting.proofs.+counts.Given as goal

abbrev pub decreases-counts : goal.decreases-counts
decreases-counts l = l.link
