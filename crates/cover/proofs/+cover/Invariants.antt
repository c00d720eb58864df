-- `cover::cover` meets its contract: what the steps before reach, then this step's axis and test; the measure is the link, which falls.
-- Assumes nothing.
use Rattle.cover.proofs.+cover.Given as goal

abbrev pub decreases-cover : goal.decreases-cover
decreases-cover l = l.link
