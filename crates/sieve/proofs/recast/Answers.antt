-- `sieve::recast` meets its contract: what its closure makes of a state is what the contract says of it.
-- Assumes nothing.
use Rattle.std.proofs.Common.{rules}
use Rattle.sieve.specs.Sieve.{Recast, recast_of, Became}
use Rattle.sieve.proofs.recast.Goals as goal

pub returns : goal.returns
unfolding Recast Became recast_of
returns c y l = search (rules, c.each.ensures.made y 0 l)
