-- `table_check::Pass::is_well_placed` meets its contract: where the row's parent stands before it, it is well placed exactly if it stands where
-- that one's next child must and ends inside it.
-- Assumes nothing.
use Rattle.std.proofs.Common.{arith}
use Rattle.table_check.proofs.Next.{misplaced}
use Rattle.table_check.proofs.Passes.{placed_here}
use Rattle.table_check.proofs.Pass.is_well_placed.Goals as goal

pub returns-then-self-parent : goal.returns-then-self-parent
returns-then-self-parent g c = rw (misplaced c.args.self.now.table.now c.args.self.now.row (omega arith)) (grind arith)

pub returns-then-inside : goal.returns-then-inside
returns-then-inside g c = rw (placed_here _ _ _ _ _ c.args.self.now.knows (omega arith)) (grind arith)

pub returns-else-inside : goal.returns-else-inside
returns-else-inside g c = rw (placed_here _ _ _ _ _ c.args.self.now.knows (omega arith)) (grind arith)
