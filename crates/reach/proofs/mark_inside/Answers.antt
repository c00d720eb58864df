-- The answers of `reach::mark_inside`: what its code leaves to show, by the invariant beside this file. Assumes nothing.
use Rattle.std.proofs.Common.{◌<◌, arith}
use borrow.Author.Tests.{le-ltb}
use Rattle.meaning.specs.Table.{rows}
use Rattle.meaning.proofs.Marks.{wrote_start, wrote_more, wrote_ahead}
use Rattle.reach.proofs.Sweep.{gathered_start, gathered_more, larger_taken, larger_left, inside_hit, up_hits}
use Rattle.reach.proofs.mark_inside.Goals as goal
use Rattle.reach.proofs.mark_inside.Goals.{then-marked-far, else-marked-far}

pub loop-i-init : goal.loop-i-init
loop-i-init c = (gathered_start _ _ _ _ (λ y l. le-ltb y 0 (omega arith)), wrote_start _ _)

pub loop-i-preserved : goal.loop-i-preserved
loop-i-preserved c =
    let inv = c.loop-i.invariant in
    let old = wrote_ahead _ _ _ _ c.loop-i.i inv.1 (omega arith) in
    let low : c.loop-i.i < rows c.args.table.now = omega arith in (
      gathered_more _ _ _ _ _ _ inv.0 (λ y l. rw (← old, ← c.end_at-past.ensures.0) (elim c.if-marked-far.branch [
        | then-marked-far w ↦ rw w.far-is (larger_taken _ y _ _ w.if-marked-far.true)
        | else-marked-far w ↦ rw w.far-is (larger_left _ y _ _ w.if-marked-far.false)
      ])),
      wrote_more _ _ _ _ _ inv.1 (omega arith) (rw (c.admits.ensures, old) (inside_hit _ _ _ low c.args.own c.args.taken _ inv.0 (omega arith))),
    )

pub returns : goal.returns
returns c = up_hits _ _ _ _ _ c.loop-i.invariant.1 (omega (arith, c.row_count-i-end.ensures))
