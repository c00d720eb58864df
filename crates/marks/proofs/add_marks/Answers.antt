-- The answers of `marks::add_marks`: what its code leaves to show, by the invariant beside this file. Assumes nothing.
use Rattle.std.proofs.Common.{arith, ◌<◌}
use Rattle.std.proofs.lemmas.List.{get_or-take, length-take-le}
use Rattle.meaning.proofs.Marks.{added_start, added_more, added_skip, added_done}
use Rattle.marks.proofs.add_marks.Goals as goal
use Rattle.marks.proofs.add_marks.Goals.{then-y-marks, else-y-marks}

pub loop-node-init : goal.loop-node-init
loop-node-init c = added_start _ _

pub loop-node-preserved : goal.loop-node-preserved
loop-node-preserved c =
    let room = length-take-le c.args.n c.args.list.now c.requires in
    let row : c.loop-node.node-index < c.args.n = omega (arith, room) in
    let y = get_or-take c.args.n c.args.list.now c.loop-node.node-index 0 row in
    elim c.if-y-marks.branch [ then-y-marks w ↦ rw w.marks-is (added_more _ _ _ _ _ c.loop-node.invariant (omega (arith, row, c.requires)) y w.if-y-marks.true) | else-y-marks w ↦ rw w.marks-is (added_skip _ _ _ _ _ c.loop-node.invariant (omega (arith, row, c.requires)) y c.loop-node.auto.marks w.if-y-marks.false) ]

pub returns : goal.returns
returns c = added_done _ _ _ _ c.args.n c.loop-node.invariant (omega (arith, length-take-le c.args.n c.args.list.now c.requires))
