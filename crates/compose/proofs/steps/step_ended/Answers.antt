-- `compose::steps::step_ended` meets its contract.
-- Assumes nothing.
use mathlib.Core.Path.{sym, ◌∙◌}
use Rattle.compose.proofs.Drafts.{ended, not_ended}
use Rattle.compose.proofs.steps.step_ended.Goals as goal

pub returns-then-is_beginning : goal.returns-then-is_beginning
returns-then-is_beginning c =
    let g = c.args in
    λ values. not_ended g.state g.rows.now g.frames.now.ops g.frames.now.opens values
    (sym c.is_beginning.ensures ∙ c.if-is_beginning.true)

pub returns : goal.returns
returns c =
    let g = c.args in
    λ values. ended g.state g.rows.now g.frames.now.ops g.frames.now.opens values _
    (sym c.is_beginning.ensures
    ∙ c.if-is_beginning.false) c.settle_frames-bench.ensures
