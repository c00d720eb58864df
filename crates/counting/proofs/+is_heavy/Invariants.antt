-- `counting::is_heavy` meets its contract: by what was read of the row and what the links' trees hold; the measure is the link, which falls.
-- Assumes nothing.
use Rattle.counting.proofs.+is_heavy.Given as goal

abbrev pub decreases-is_heavy : goal.decreases-is_heavy
decreases-is_heavy l = l.link
