-- The answers of `reach::mark_over`: what its code leaves to show, by the invariant beside this file. Assumes nothing.
use Rattle.std.proofs.Common.{◌≡◌, ◌∙◌, ◌<◌, arith}
use Rattle.std.proofs.lemmas.List.{length-set}
use Rattle.meaning.specs.Table.{rows}
use Rattle.reach.specs.Reach.{admitted}
use Rattle.reach.proofs.Sweep.{gathered_start, gathered_more, gives, rooted, ahead_start, ahead_more, ahead_at, handed_start, handed_more, handed_hits}
use Rattle.reach.proofs.mark_over.Goals as goal

pub loop-i-init : goal.loop-i-init
loop-i-init c = (gathered_start _ _ _ _ (λ y l. handed_start c.args.marks.now y), ahead_start _)

pub bounds-marks-p : goal.bounds-marks-p
bounds-marks-p c =
    let low : c.loop-i.i < rows c.args.table.now = omega arith in
    simp length-set (omega (arith, rooted _ c.requires.parents _ low))

pub bounds-marks-p-in-loop-i : goal.bounds-marks-p-in-loop-i
bounds-marks-p-in-loop-i c =
    let low : c.loop-i.i < rows c.args.table.now = omega arith in
    simp length-set (omega (arith, rooted _ c.requires.parents _ low))

pub loop-i-preserved : goal.loop-i-preserved
loop-i-preserved c =
    let inv = c.loop-i.invariant in
    let i = c.loop-i.i in
    let t = c.args.table.now in
    let low : i < rows t = omega arith in
    let up = rooted _ c.requires.parents _ low in
    let given = gives c.args.marks.now (admitted t c.args.given) i _ _ (ahead_at _ _ _ inv.1) c.admits.ensures in
    rw c.parent_at-p.ensures.0 (gathered_more _ _ _ _ _ _ inv.0 (λ q l. rw (← given) (handed_more t c.loop-i.marks i _ up (omega arith) q)), ahead_more _ _ _ _ _ _ inv.1 up)

pub returns : goal.returns
returns c =
    let e : c.loop-i.i ≡ c.row_count-i-end.result = omega arith in
    handed_hits _ _ _ _ _ c.loop-i.invariant.0 (e ∙ c.row_count-i-end.ensures)
