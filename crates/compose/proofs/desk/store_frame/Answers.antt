-- `compose::desk::store_frame` meets its contract: four stores one behind the other are a run of stores.
-- Assumes nothing.
use native.Mathlib.Omega.{arith}
use lib.ListN.{length-set}
use Rattle.compose.proofs.Frames.{four_stores}
use Rattle.compose.proofs.desk.store_frame.Goals as goal

pub bounds-ops-at-2 : goal.bounds-ops-at-2
bounds-ops-at-2 c = simp length-set (omega arith)

pub bounds-ops-at-3 : goal.bounds-ops-at-3
bounds-ops-at-3 c = simp length-set (omega arith)

pub bounds-ops-at-4 : goal.bounds-ops-at-4
bounds-ops-at-4 c = simp length-set (omega arith)

pub returns : goal.returns
returns c =
    let g = c.args in
    four_stores g.ops.now g.at g.op g.a g.c g.d
