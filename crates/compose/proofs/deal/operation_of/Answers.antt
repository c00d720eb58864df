-- `compose::deal::operation_of` meets its contract.
-- Assumes nothing.
use native.Mathlib.Omega.{arith}
use Rattle.compose.proofs.Classes.{operations, operation_at}
use Rattle.compose.proofs.deal.operation_of.Goals as goal

pub returns : goal.returns
unfolding operations
returns c = operation_at c.args.kind (omega arith) (omega arith)
