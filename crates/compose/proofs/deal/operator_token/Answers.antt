-- `compose::deal::operator_token` meets its contract.
-- Assumes nothing.
use native.Mathlib.Omega.{arith}
use Rattle.compose.proofs.Frames.{worked_as}
use Rattle.compose.proofs.Deals.{worked_then, does_operate}
use Rattle.compose.proofs.deal.operator_token.Goals as goal

pub push_frame-requires : goal.push_frame-requires
push_frame-requires c =
    let most = (c.left_operand-left.ensures
    c.args.frames.now.ops c.args.frames.now.opens).most in
    omega (arith, most, c.settle_frames-settled.ensures.most)

pub returns : goal.returns
returns c =
    let g = c.args in
    worked_as _ 4 (worked_then
    (worked_then c.settle_frames-settled.ensures (c.left_operand-left.ensures g.frames.now.ops g.frames.now.opens)) (c.push_frame.ensures _))
    (does_operate g.op _
    c.strength-k.ensures) (omega arith)
