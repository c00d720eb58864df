-- The answers of `survey::refill::refill`: one token more is read.
use Rattle.std.proofs.Common.{◌≡◌, ◌<◌, refl, ◌∙◌, arith}
use Rattle.survey.proofs.Retrace.{goes_until, traced_start, traced_done}
use Rattle.survey.proofs.refill.refill.Goals as goal

pub loop-init : goal.loop-init
loop-init c =
    (traced_start _ _ _ _ _ (c.fresh.ensures ∙ rw c.run_end.ensures.0) c.args.window.now.size c.requires.2, refl)

pub follow-t-requires : goal.follow-t-requires
follow-t-requires c =
    let p = c.requires in
    let more : c.loop.t.count < c.args.count = omega arith in
    (c.loop.invariant.0, goes_until _ _ _ (omega (arith, more)) p.1 p.0, omega (arith, more, p.1))

pub loop-preserved : goal.loop-preserved
loop-preserved c = (c.follow-t.ensures.0, omega (arith, c.follow-t.ensures.1, c.loop.invariant.1))

pub returns : goal.returns
returns c =
    let all : c.loop.t.count ≡ c.args.count = omega arith in
    traced_done all c.loop.invariant.0
