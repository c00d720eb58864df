-- `candidates::list_candidates` meets its contract: each axis's function lists its candidates, of the test read in edition 2.
-- Assumes nothing.
use Rattle.axes.proofs.Seconds.{second_candidates}
use Rattle.candidates.proofs.list_candidates.Goals as goal

pub returns-in-Descendant : goal.returns-in-Descendant
returns-in-Descendant c = rw (second_candidates, ← c.in_second-read.ensures, c.in-Descendant.is) c.list_descendants.ensures

pub returns-in-DescendantOrSelf : goal.returns-in-DescendantOrSelf
returns-in-DescendantOrSelf c = rw (second_candidates, ← c.in_second-read.ensures, c.in-DescendantOrSelf.is) c.list_subtree.ensures

pub returns-in_default : goal.returns-in_default
returns-in_default c = rw (second_candidates, ← c.in_second-read.ensures) c.list_by_scan.ensures
