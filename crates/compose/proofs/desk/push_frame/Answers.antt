-- `compose::desk::push_frame` meets its contract.
-- Assumes nothing.
use native.Mathlib.Omega.{arith}
use Rattle.compose.proofs.Frames.{pushed}
use Rattle.compose.proofs.desk.push_frame.Goals as goal

pub returns : goal.returns
returns c =
    let g = c.args in
    λ rows. pushed g.bench rows g.frames.now.ops g.frames.now.opens _ _ g.op g.c g.d (omega arith) (omega arith)
    c.store_frame.ensures c.store_open.ensures
