-- `compose::deal::call_token` meets its contract, by the function.
-- Assumes nothing.
use native.Mathlib.Omega.{arith}
use Rattle.text.specs.Composing.{open_truth}
use Rattle.compose.proofs.Frames.{worked_as}
use Rattle.compose.proofs.Deals.{worked_kept, penned_desk, opened_desk, called_by}
use Rattle.compose.proofs.deal.call_token.Goals as goal

pub returns-in-PositionCall : goal.returns-in-PositionCall
returns-in-PositionCall c =
    let g = c.args in
    worked_as _ 4 (penned_desk g.bench g.frames.now.ops g.frames.now.opens c.write_row-done.ensures)
    (called_by g.number _ c.in-PositionCall.ensures) (omega arith)

pub returns-in-LastCall : goal.returns-in-LastCall
returns-in-LastCall c =
    let g = c.args in
    worked_as _ 4 (penned_desk g.bench g.frames.now.ops g.frames.now.opens c.write_row-done-in-LastCall.ensures)
    (called_by g.number _ c.in-LastCall.ensures) (omega arith)

pub returns-in-CountCall : goal.returns-in-CountCall
returns-in-CountCall c =
    let g = c.args in
    worked_as _ 4 (c.push_frame.ensures g.rows.now)
    (called_by g.number _ c.in-CountCall.ensures) (omega arith)

pub returns-in-NotCall : goal.returns-in-NotCall
returns-in-NotCall c =
    let g = c.args in
    worked_as _ 4 (c.push_frame-in-NotCall.ensures g.rows.now)
    (called_by g.number _ c.in-NotCall.ensures) (omega arith)

pub returns-in-BooleanCall : goal.returns-in-BooleanCall
returns-in-BooleanCall c =
    let g = c.args in
    worked_as _ 4 (opened_desk g.bench open_truth g.rows.now g.frames.now.ops g.frames.now.opens _ c.open_truth.ensures)
    (called_by g.number _ c.in-BooleanCall.ensures) (omega arith)

pub returns-in-OtherCall : goal.returns-in-OtherCall
returns-in-OtherCall c =
    let g = c.args in
    worked_as _ 4 (worked_kept g.bench g.rows.now g.frames.now.ops g.frames.now.opens)
    (called_by g.number _ c.in-OtherCall.ensures) (omega arith)
