-- `compose::mode::is_beginning` meets its contract.
-- Assumes nothing.
use native.Mathlib.Omega.{arith}
use Rattle.compose.proofs.Modes.{begins_below}
use Rattle.compose.proofs.mode.is_beginning.Goals as goal

pub returns : goal.returns
returns c = begins_below c.args.mode (omega arith)
