-- `counting::asks` meets its contract: by what was read of the row and what the links' trees ask; the measure is the link, which falls.
-- Assumes nothing.
use Rattle.counting.proofs.+asks.Given as goal

abbrev pub decreases-asks : goal.decreases-asks
decreases-asks l = l.link
