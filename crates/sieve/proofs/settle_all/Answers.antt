-- `sieve::settle_all` meets its contract: where the truth holds nothing changes, else every active state becomes one more.
-- Assumes nothing.
use Rattle.sieve.proofs.Sieves.{all_sieved, none_sieved}
use Rattle.sieve.proofs.settle_all.Goals as goal

pub returns-else-not-truth : goal.returns-else-not-truth
returns-else-not-truth c = rw c.if-not-truth.false (all_sieved _ _ _)

pub returns-then-not-truth : goal.returns-then-not-truth
returns-then-not-truth c = rw c.if-not-truth.true (none_sieved _ _ _ _ c.recast.ensures)
