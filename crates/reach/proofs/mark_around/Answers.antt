-- The answers of `reach::mark_around`: what its code leaves to show, by the invariant beside this file. Assumes nothing.
use Rattle.std.proofs.Common.{◌≡◌, refl, ◌+◌, ◌-◌, ◌<◌, ltb, arith}
use borrow.Author.Tests.{le-ltb}
use Rattle.meaning.specs.Table.{rows}
use Rattle.meaning.proofs.Windows.{up_from}
use Rattle.meaning.proofs.Marks.{down_start, down_more, down_ahead}
use Rattle.reach.specs.Reach.{admitted, beyond}
use Rattle.reach.proofs.Sweep.{Gathered, gathered_top, gathered_down, smaller_taken, smaller_left, giving, gives, around_hit, down_hits}
use Rattle.reach.proofs.mark_around.Goals as goal
use Rattle.reach.proofs.mark_around.Goals.{then-counted-i, else-counted-i}

pub loop-i-init : goal.loop-i-init
loop-i-init c = rw c.row_count-i.ensures (gathered_top _ _ _ _ _ (λ y l. le-ltb beyond y (omega arith)), down_start _ _ _)

pub loop-i-preserved : goal.loop-i-preserved
loop-i-preserved c =
    let inv = c.loop-i.invariant in
    let i = c.loop-i.i in
    let t = c.args.table.now in
    let n = rows t in
    let back : i ≡ i - 1 + 1 = omega arith in
    let low : i - 1 < n = omega arith in
    let old = down_ahead _ _ _ _ _ (i - 1) inv.1 (omega arith) low in
    let own = gives c.args.marks.now (admitted t c.args.given) (i - 1) _ _ old c.admits.ensures in
    let after : Gathered (beyond + 1) ltb (giving c.args.marks.now (admitted t c.args.given)) (up_from (i - 1 + 1) (n - (i - 1 + 1))) (λ z. ltb c.loop-i.near z) = rw (← back) inv.0 in (
      gathered_down _ _ _ n (i - 1) _ _ low after (λ y l. rw (← own) (elim c.if-counted-i.branch [
        | then-counted-i w ↦ rw w.near-is (smaller_taken _ y _ _ w.if-counted-i.true)
        | else-counted-i w ↦ rw w.near-is (smaller_left _ y _ _ w.if-counted-i.false)
      ])),
      down_more _ n c.args.marks.now c.loop-i.marks (i - 1) _ (rw (← back) inv.1) (omega arith) (rw (c.end_at.ensures.0, old) (around_hit _ _ _ low c.args.own c.args.given _ after (omega (arith, c.end_at.ensures)))),
    )

pub returns : goal.returns
returns c = down_hits _ _ _ _ _ (let e : c.loop-i.i ≡ 0 = omega arith in rw (← e) c.loop-i.invariant.1) refl
