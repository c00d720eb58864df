-- `compose::desk::close_square` meets its contract.
-- Assumes nothing.
use native.Mathlib.Omega.{arith}
use mathlib.Core.Path.{refl}
use mathlib.Core.List.{[]}
use Rattle.text.specs.Composing.{close_square}
use Rattle.compose.proofs.Frames.{closed_none, square_closed}
use Rattle.compose.proofs.desk.close_square.Goals as goal

pub returns-then-height-eq0 : goal.returns-then-height-eq0
unfolding close_square
returns-then-height-eq0 c = λ opens. closed_none c.args.bench _ _ opens [] close_square 0 (λ p. refl) c.if-height-eq0.true

pub returns : goal.returns
returns c =
    let g = c.args in
    λ opens. square_closed g.bench g.rows.now g.ops.now opens _ (omega arith) _ _ _
    c.made_predicate-held.ensures c.write_row-done.ensures
