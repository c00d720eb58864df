-- `sieve::retain` meets its contract: what its closure makes of a mark is what the contract says of it.
-- Assumes nothing.
use Rattle.std.proofs.Common.{rules, false}
use Rattle.sieve.specs.Sieve.{Retained}
use Rattle.sieve.proofs.retain.Goals as goal

pub returns : goal.returns
unfolding Retained
returns c y l = search (rules, c.each.ensures.made y false l)
