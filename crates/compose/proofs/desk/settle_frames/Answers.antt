-- The answers of `compose::desk::settle_frames`: what its code leaves to show, by the invariants beside this file. Assumes nothing.
use native.Mathlib.Omega.{arith}
use mathlib.Core.Path.{sym, ◌∙◌}
use borrow.Author.Rules.{rules}
use Rattle.compose.proofs.Frames.{fills_some, settling_start, settling_more, settling_done}
use Rattle.compose.proofs.desk.settle_frames.Goals as goal

pub loop-rows-init : goal.loop-rows-init
loop-rows-init c = settling_start

pub fill_top-left-requires : goal.fill_top-left-requires
fill_top-left-requires c =
    (fills_some _ _ _ _ (sym c.may_fill.ensures ∙ c.loop-rows-test.true), omega arith, search rules)

pub loop-rows-smaller : goal.loop-rows-smaller
loop-rows-smaller c = omega arith

pub loop-rows-preserved : goal.loop-rows-preserved
loop-rows-preserved c =
    let s = c.loop-rows.invariant in
    settling_more s (sym c.may_fill.ensures ∙ c.loop-rows-test.true) (c.fill_top-left.ensures.1 _) (omega arith)

pub returns : goal.returns
returns c = settling_done c.loop-rows.invariant (sym c.may_fill.ensures ∙ c.loop-rows-test.false)
