-- The answers of `survey::walk::survey_text`: what its code leaves to show, by the invariants beside this file. Assumes nothing.
use native.Mathlib.Omega.{arith}
use Rattle.survey.proofs.Advancing.{not_so, is_so, surveyed_start, advanced_less}
use Rattle.survey.proofs.walk.survey_text.Goals as goal

pub run_end-requires : goal.run_end-requires
run_end-requires c = omega arith

pub fresh-requires : goal.fresh-requires
fresh-requires c = tt

pub loop-s-init : goal.loop-s-init
loop-s-init c = surveyed_start _ _ _ c.new-window.result.size _ (cc)

pub advanced-s-requires : goal.advanced-s-requires
advanced-s-requires c =
    let more = not_so _ c.loop-s-test.true in
    c.loop-s.invariant.goes_on more

pub loop-s-smaller : goal.loop-s-smaller
loop-s-smaller c =
    let more = not_so _ c.loop-s-test.true in
    advanced_less more (c.loop-s.invariant.goes_on more) c.advanced-s.ensures

pub loop-s-preserved : goal.loop-s-preserved
loop-s-preserved c = c.advanced-s.ensures.surveyed

pub returns : goal.returns
returns c = c.loop-s.invariant.ends (is_so _ c.loop-s-test.false)
