-- The answers of `path_check::depth_of`: no link has depth 0, a row's depth is written at its link, and the last row's is read.
-- Assumes nothing.
use Rattle.std.proofs.Common.{refl, arith}
use Rattle.std.proofs.Math.ListN.{length-set}
use Rattle.path_check.proofs.Passes.{depths_start, depths_more, depths_at}
use Rattle.path_check.proofs.depth_of.Goals as goal

pub loop-row-init : goal.loop-row-init
loop-row-init c = (refl, depths_start _ _ refl)

pub loop-row-preserved : goal.loop-row-preserved
loop-row-preserved c = (simp length-set c.loop-row.invariant.0, depths_more _ _ _ _ c.loop-row.invariant.1 (omega arith) c.row_depth.ensures.0)

pub returns : goal.returns
returns c = depths_at _ _ _ _ c.loop-row.invariant.1 (omega arith)
