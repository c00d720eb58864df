-- The answers of `marks::count_marks`: what its code leaves to show, by the invariant beside this file. Assumes nothing.
use Rattle.std.proofs.Common.{◌≤◌, length, arith}
use Rattle.std.proofs.lemmas.List.{length-take-le}
use Rattle.meaning.proofs.Marks.{counted_start, counted_more, counted_skip, counted_done}
use Rattle.marks.proofs.Rows.{mark_of_row}
use Rattle.marks.proofs.count_marks.Goals as goal
use Rattle.marks.proofs.count_marks.Goals.{then-marked, else-marked}

pub loop-marked-init : goal.loop-marked-init
loop-marked-init c = (omega arith, counted_start _)

pub loop-marked-preserved : goal.loop-marked-preserved
loop-marked-preserved c =
    let room : c.row_count.result ≤ length c.args.marks.now = omega (arith, c.requires, c.row_count.ensures) in
    let inv = c.loop-marked.invariant.1 in
    elim c.if-marked.branch [
      | then-marked w ↦ (omega arith, rw w.m-is (counted_more _ _ _ inv (mark_of_row _ _ _ _ room c.loop-marked-test.true w.if-marked.true)))
      | else-marked w ↦ (omega arith, rw w.m-is (counted_skip _ _ _ inv (mark_of_row _ _ _ _ room c.loop-marked-test.true w.if-marked.false)))
    ]

pub returns : goal.returns
returns c =
    let room : c.row_count.result ≤ length c.args.marks.now = omega (arith, c.requires, c.row_count.ensures) in
    let all = length-take-le _ _ room in
    (counted_done _ c.args.table.now _ _ c.loop-marked.invariant.1 (omega (arith, all, c.row_count.ensures)), omega (arith, all, c.row_count.ensures, c.loop-marked.auto))
