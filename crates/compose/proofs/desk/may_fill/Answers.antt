-- `compose::desk::may_fill` meets its contract.
-- Assumes nothing.
use native.Mathlib.Omega.{arith}
use mathlib.Core.Path.{sym, ◌∙◌}
use borrow.Author.Tests.{le-leb, lt-leb}
use Rattle.compose.proofs.Frames.{fills_none, fills_top}
use Rattle.compose.proofs.desk.may_fill.Goals as goal

pub returns-then-height-eq0 : goal.returns-then-height-eq0
returns-then-height-eq0 c = fills_none _ _ _ _ c.if-height-eq0.true

pub returns-then-k-strength : goal.returns-then-k-strength
returns-then-k-strength c =
    let g = c.args in
    sym (sym (fills_top g.k g.frames.now.ops g.frames.now.opens g.height (omega arith)) ∙ rw (← c.strength.ensures, le-leb _ _ c.if-k-strength.true))

pub returns-else-k-strength : goal.returns-else-k-strength
returns-else-k-strength c =
    let g = c.args in
    sym (sym (fills_top g.k g.frames.now.ops g.frames.now.opens g.height (omega arith)) ∙ rw (← c.strength.ensures, lt-leb _ _ c.if-k-strength.false))
