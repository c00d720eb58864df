-- `compose::deal::square_token` meets its contract.
-- Assumes nothing.
use native.Mathlib.Omega.{arith}
use Rattle.compose.proofs.Frames.{worked_as}
use Rattle.compose.proofs.Deals.{worked_then, does_square}
use Rattle.compose.proofs.deal.square_token.Goals as goal

pub returns : goal.returns
returns c = worked_as _ 4
    (worked_then c.settle_frames-settled.ensures (c.close_square.ensures _))
    (does_square _) (omega arith)
