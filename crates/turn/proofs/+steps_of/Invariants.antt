-- `turn::steps_of` meets its contract: one step more behind the chain before it; the measure is the link, which falls.
-- Assumes nothing.
use Rattle.turn.proofs.+steps_of.Given as goal

abbrev pub decreases-steps_of : goal.decreases-steps_of
decreases-steps_of l = l.last
