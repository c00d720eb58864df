-- The answers of `reach::least_end`: what its code leaves to show, by the invariant beside this file. Assumes nothing.
use Rattle.std.proofs.Common.{◌≡◌, ◌&&◌, refl, ltb, arith}
use borrow.Author.Tests.{le-ltb}
use Rattle.meaning.specs.Table.{rows, end}
use Rattle.reach.specs.Reach.{admitted, beyond}
use Rattle.reach.proofs.Sweep.{gathered_start, gathered_more, smaller_taken_of, smaller_left_of, giving, gives, after_hit}
use Rattle.reach.proofs.least_end.Goals as goal
use Rattle.reach.proofs.least_end.Goals.{then-counted, else-counted, then-end-low, else-end-low}

pub loop-i-init : goal.loop-i-init
loop-i-init c = gathered_start _ _ _ _ (λ y l. le-ltb beyond y (omega arith))

pub loop-i-preserved : goal.loop-i-preserved
loop-i-preserved c =
    let own = gives c.args.from.now (admitted c.args.table.now c.args.given) c.loop-i.i _ _ refl c.admits.ensures in
    gathered_more _ _ _ _ _ _ c.loop-i.invariant (λ y l.
    let counted : ltb c.if-counted.end y ≡ (giving c.args.from.now (admitted c.args.table.now c.args.given) c.loop-i.i && ltb (end c.args.table.now c.loop-i.i) y) = rw (← own) (elim c.if-counted.branch [
      | then-counted w ↦ rw (w.end-is, w.if-counted.true, c.end_at-past.ensures.0)
      | else-counted w ↦ rw (w.end-is, w.if-counted.false) (le-ltb beyond y (omega arith))
    ]) in
    rw (← counted) (elim c.if-end-low.branch [
      | then-end-low w ↦ rw w.low-is (smaller_taken_of y _ _ w.if-end-low.true)
      | else-end-low w ↦ rw w.low-is (smaller_left_of y _ _ w.if-end-low.false)
    ]))

pub returns : goal.returns
returns c =
    let e : c.loop-i.i ≡ rows c.args.table.now = omega (arith, c.row_count-i-end.ensures) in
    λ y l. after_hit _ _ _ _ _ (rw e at c.loop-i.invariant) (omega arith)
