-- `marks::join` meets its contract: what its closure makes of a mark is what the contract says of it.
-- Assumes nothing.
use Rattle.std.proofs.Common.{rules, false, arith}
use Rattle.marks.specs.Sets.{Joined}
use Rattle.marks.proofs.join.Goals as goal

pub returns : goal.returns
unfolding Joined
returns c y l = search (rules, c.each.ensures.made y false (omega (arith, c.row_count.ensures)))
