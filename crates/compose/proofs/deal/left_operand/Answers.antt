-- `compose::deal::left_operand` meets its contract.
-- Assumes nothing.
use native.Mathlib.Omega.{arith}
use Rattle.compose.proofs.Frames.{worked_as}
use Rattle.compose.proofs.Deals.{worked_kept, penned_desk, wants_nothing, wants_truth}
use Rattle.compose.proofs.deal.left_operand.Goals as goal

pub returns-then-k-gt2 : goal.returns-then-k-gt2
returns-then-k-gt2 c =
    let g = c.args in
    λ ops opens. worked_as _ 1 (worked_kept g.bench g.rows.now ops opens) (wants_nothing g.k _ c.if-k-gt2.true) (omega arith)

pub returns : goal.returns
returns c =
    let g = c.args in
    λ ops opens. worked_as _ 1 (penned_desk g.bench ops opens c.made_truth-truth.ensures)
    (wants_truth g.k _ c.if-k-gt2.false) (omega arith)
