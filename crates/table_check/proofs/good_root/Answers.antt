-- `table_check::good_root` meets its contract: by the tests of the root's row; the table has an element exactly if the first stands below the
-- row count.
-- Assumes nothing.
use Rattle.std.proofs.Common.{arith}
use Rattle.table.proofs.Numbers.{same_kind}
use Rattle.table_check.proofs.Siblings.{root_tests}
use Rattle.table_check.proofs.good_root.Goals as goal

pub returns-in_err-first : goal.returns-in_err-first
returns-in_err-first c = rw (c.from_residual.ensures, root_tests c.args.table.now) (grind (arith, c.in_err-first.ensures))

pub returns-then-placed : goal.returns-then-placed
returns-then-placed c = (rw (root_tests c.args.table.now) (grind (arith, same_kind)), c.in_ok-first.ensures.1)

pub returns-else-plain : goal.returns-else-plain
returns-else-plain c = rw (root_tests c.args.table.now) (grind (arith, same_kind))
