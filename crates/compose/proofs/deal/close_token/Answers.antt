-- `compose::deal::close_token` meets its contract.
-- Assumes nothing.
use native.Mathlib.Omega.{arith}
use mathlib.Core.Path.{sym, ◌∙◌}
use Rattle.compose.proofs.Frames.{worked_as}
use Rattle.compose.proofs.Deals.{worked_kept, worked_then, does_close, does_not_close}
use Rattle.compose.proofs.deal.close_token.Goals as goal

pub returns-then-is_ending : goal.returns-then-is_ending
returns-then-is_ending c =
    let g = c.args in
    worked_as _ 4 (worked_then c.settle_frames-settled.ensures
    c.close_round.ensures)
    (does_close g.mode _
    (sym c.is_ending.ensures
    ∙ c.if-is_ending.true)) (omega arith)

pub returns : goal.returns
returns c =
    let g = c.args in
    worked_as _ 4 (worked_kept g.bench g.rows.now g.frames.now.ops g.frames.now.opens)
    (does_not_close g.mode _ (sym c.is_ending.ensures ∙ c.if-is_ending.false)) (omega arith)
