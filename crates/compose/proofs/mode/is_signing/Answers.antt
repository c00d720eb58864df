-- `compose::mode::is_signing` meets its contract.
-- Assumes nothing.
use native.Mathlib.Omega.{arith}
use Rattle.compose.proofs.Modes.{signs_below}
use Rattle.compose.proofs.mode.is_signing.Goals as goal

pub returns : goal.returns
returns c = signs_below c.args.mode (omega arith)
