-- `sieve::exchange` meets its contract: what its closure makes of a state is what the contract says of it.
-- Assumes nothing.
use Rattle.std.proofs.Common.{rules}
use Rattle.sieve.specs.Sieve.{Exchanged, exchanged_of, Became}
use Rattle.sieve.proofs.exchange.Goals as goal

pub returns : goal.returns
unfolding Exchanged Became exchanged_of
returns c y l = search (rules, c.each.ensures.made y 0 l)
