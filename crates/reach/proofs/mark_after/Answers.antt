-- The answers of `reach::mark_after`: what its code leaves to show, by the invariant beside this file. Assumes nothing.
use Rattle.std.proofs.Common.{◌&&◌, arith}
use Rattle.meaning.specs.Axis.{after}
use Rattle.meaning.proofs.Marks.{wrote_start, wrote_more}
use Rattle.reach.specs.Reach.{admitted}
use Rattle.reach.proofs.Sweep.{hit_take, up_hits}
use Rattle.reach.proofs.mark_after.Goals as goal

pub loop-i-init : goal.loop-i-init
loop-i-init c = wrote_start _ _

pub loop-i-preserved : goal.loop-i-preserved
loop-i-preserved c =
    let t = c.args.table.now in
    wrote_more _ _ _ _ _ c.loop-i.invariant (omega arith) (rw (c.admits.ensures, c.least_end-low.ensures c.loop-i.i (omega arith)) (hit_take t (λ x z. admitted t c.args.given x && after t x z) c.args.marks.now c.loop-i.i (admitted t c.args.taken)))

pub returns : goal.returns
returns c = up_hits _ _ _ _ _ c.loop-i.invariant (omega (arith, c.row_count-i-end.ensures))
