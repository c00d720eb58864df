-- The answers of `reach::mark_under`: what its code leaves to show, by the invariant beside this file. Assumes nothing.
use Rattle.std.proofs.Common.{◌≡◌, refl, ◌+◌, ◌-◌, ◌<◌, arith}
use Rattle.meaning.specs.Table.{rows}
use Rattle.meaning.specs.Axis.{under}
use Rattle.meaning.proofs.Marks.{down_start, down_more, down_ahead}
use Rattle.reach.specs.Reach.{admitted}
use Rattle.reach.proofs.Sweep.{rooted, under_hit, hit_take, down_hits}
use Rattle.reach.proofs.mark_under.Goals as goal

pub loop-i-init : goal.loop-i-init
loop-i-init c = rw c.row_count-i.ensures (down_start _ _ _)

pub bounds-marks-parent_at : goal.bounds-marks-parent_at
bounds-marks-parent_at c =
    let low : c.loop-i.i - 1 < rows c.args.table.now = omega arith in
    omega (arith, rooted _ c.requires.parents _ low)

pub loop-i-preserved : goal.loop-i-preserved
loop-i-preserved c =
    let i = c.loop-i.i in
    let t = c.args.table.now in
    let n = rows t in
    let back : i ≡ i - 1 + 1 = omega arith in
    let low : i - 1 < n = omega arith in
    let old = down_ahead _ _ _ _ _ c.parent_at.result c.loop-i.invariant (omega (arith, rooted _ c.requires.parents _ low)) (omega (arith, rooted _ c.requires.parents _ low)) in
    down_more _ n c.args.marks.now c.loop-i.marks (i - 1) _ (rw (← back) c.loop-i.invariant) (omega arith) (rw (c.admits.ensures, old, c.parent_at.ensures.0, under_hit t c.args.marks.now (i - 1) low c.requires.parents) (hit_take t (under t) c.args.marks.now (i - 1) (admitted t c.args.taken)))

pub returns : goal.returns
returns c = down_hits _ _ _ _ _ (let e : c.loop-i.i ≡ 0 = omega arith in rw (← e) c.loop-i.invariant) refl
