-- `compose::desk::close_round` meets its contract: of a group or boolean(), or of a call.
-- Assumes nothing.
use native.Mathlib.Omega.{arith}
use mathlib.Core.Path.{refl}
use mathlib.Core.List.{[]}
use borrow.Author.Tests.{eq-eqb, ne_eqb}
use Rattle.text.specs.Composing.{truthful, close_round}
use Rattle.compose.proofs.Frames.{closed_none, group_closed, call_closes, worked_as}
use Rattle.compose.proofs.Rows.{pen_kept, penned_as}
use Rattle.compose.proofs.desk.close_round.Goals as goal

pub returns-then-height-eq0 : goal.returns-then-height-eq0
unfolding close_round
returns-then-height-eq0 c = closed_none c.args.bench _ _ _ [] close_round 2 (λ p. refl) c.if-height-eq0.true

pub returns-then-open-eq0 : goal.returns-then-open-eq0
returns-then-open-eq0 c =
    let g = c.args in
    worked_as close_round 2 (c.close_call.ensures g.frames.now.opens)
    (call_closes g.bench g.rows.now g.frames.now.ops g.frames.now.opens [] (omega arith) c.if-open-eq0.true)
    (omega arith)

pub returns-then-open-last : goal.returns-then-open-last
returns-then-open-last c =
    let g = c.args in
    group_closed g.bench g.rows.now g.frames.now.ops g.frames.now.opens _ (omega arith) g.bench.hand (λ p. p) (omega arith)
    (omega arith)
    (penned_as (λ p. p) 1 (pen_kept g.bench.hand g.rows.now) refl (omega arith)) (rw (ne_eqb _ _ c.if-open-last.true))

pub returns : goal.returns
returns c =
    let g = c.args in
    group_closed g.bench g.rows.now g.frames.now.ops g.frames.now.opens _ (omega arith) _ truthful (omega arith) (omega arith)
    c.made_truth-truth.ensures (rw (eq-eqb _ _ c.if-open-last.false))
