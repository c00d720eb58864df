-- `compose::compose` meets its contract.
-- Assumes nothing.
use native.Mathlib.Omega.{arith}
use mathlib.Core.Path.{refl}
use borrow.Author.Rules.{rules}
use Rattle.compose.proofs.Passing.{composes_stopped, composes_done}
use Rattle.compose.proofs.compose.Goals as goal

pub returns-then-passed : goal.returns-then-passed
returns-then-passed c = composes_stopped _ _ _ _ _ refl
    (c.pass_over-passed.ensures.stopped c.if-passed.true)

pub settle_frames-settled-requires : goal.settle_frames-settled-requires
settle_frames-settled-requires c =
    let light = c.pass_over-passed.ensures.light c.if-passed.false in
    (omega (arith, light), search rules)

pub returns : goal.returns
returns c =
    let passed = c.pass_over-passed.ensures in
    let go_on = c.if-passed.false in
    let light = passed.light go_on in
    composes_done c.args.text.now c.args.names.now.list.now _ _ _ _ _ _ _ (passed.read go_on) c.settle_frames-settled.ensures (passed.few go_on) (omega (arith, light)) (omega (arith, c.requires.1))
