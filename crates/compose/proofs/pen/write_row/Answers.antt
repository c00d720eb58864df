-- The answers of `compose::pen::write_row`: what its code leaves to show. Assumes nothing.
use native.Mathlib.Omega.{arith}
use Rattle.compose.proofs.Rows.{row_more}
use Rattle.compose.proofs.pen.write_row.Goals as goal

-- src/pen.rt:24:1
pub returns : goal.returns
returns c =
    let g = c.args in
    row_more g.hand g.rows.now _ g.op g.a g.b g.c g.d g.sort (omega arith) c.store_row.ensures
