-- `compose::deal::minus_token` meets its contract.
-- Assumes nothing.
use native.Mathlib.Omega.{arith}
use mathlib.Core.Path.{sym, ◌∙◌}
use Rattle.compose.proofs.Frames.{worked_as}
use Rattle.compose.proofs.Deals.{does_sign, does_subtract}
use Rattle.compose.proofs.deal.minus_token.Goals as goal

pub returns-then-is_signing : goal.returns-then-is_signing
returns-then-is_signing c =
    let g = c.args in
    worked_as _ 4 (c.push_frame.ensures g.rows.now)
    (does_sign g.mode _
    (sym c.is_signing.ensures
    ∙ c.if-is_signing.true)) (omega arith)

pub returns : goal.returns
returns c =
    let g = c.args in
    worked_as _ 4 c.operator_token.ensures
    (does_subtract g.mode _
    (sym c.is_signing.ensures
    ∙ c.if-is_signing.false)) (omega arith)
