-- `reach::reach` meets its contract: one answer for each axis.
-- Assumes nothing.
use Rattle.reach.proofs.Sweep.{self_hits}
use Rattle.reach.proofs.reach.Goals as goal

pub returns-in-Itself : goal.returns-in-Itself
returns-in-Itself c = rw c.in-Itself.is (self_hits _ _)
