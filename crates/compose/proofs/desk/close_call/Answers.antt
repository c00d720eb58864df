-- `compose::desk::close_call` meets its contract.
-- Assumes nothing.
use native.Mathlib.Omega.{arith}
use Rattle.compose.proofs.Frames.{not_closed, count_closed}
use Rattle.compose.proofs.desk.close_call.Goals as goal

pub returns-then-op-eq-NEGATION : goal.returns-then-op-eq-NEGATION
returns-then-op-eq-NEGATION c =
    let g = c.args in
    λ opens. not_closed g.bench g.rows.now g.ops.now opens _ (omega arith) _ _ _
    c.if-op-eq-NEGATION.true
    c.made_truth-truth.ensures c.write_row-done.ensures

pub returns : goal.returns
returns c =
    let g = c.args in
    λ opens. count_closed g.bench g.rows.now g.ops.now opens _ (omega arith) _ c.if-op-eq-NEGATION.false
    c.write_row-done-2.ensures
