-- `compose::desk::fill_top` meets its contract.
-- Assumes nothing.
use native.Mathlib.Omega.{arith}
use Rattle.compose.proofs.Frames.{top_filled}
use Rattle.compose.proofs.desk.fill_top.Goals as goal

pub returns : goal.returns
returns c =
    let g = c.args in (
      omega arith,
      λ opens. top_filled g.bench g.rows.now g.ops.now opens _ _ (omega arith)
          c.fill_row-done.ensures,
    )
