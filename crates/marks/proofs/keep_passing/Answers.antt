-- `marks::keep_passing` meets its contract: what its closure makes of a mark is what the contract says of it.
-- Assumes nothing.
use Rattle.std.proofs.Common.{rules, false, arith}
use Rattle.marks.specs.Sets.{Sifted}
use Rattle.marks.proofs.keep_passing.Goals as goal

pub returns : goal.returns
unfolding Sifted
returns c y l = rw (← c.principal-kind.ensures) (search (rules, c.each.ensures.made y false (omega (arith, c.row_count.ensures))))
