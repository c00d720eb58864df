-- The answers of `marks::list_marks`: what its code leaves to show, by the invariant beside this file. Assumes nothing.
use Rattle.std.proofs.Common.{◌≤◌, length, arith}
use Rattle.std.proofs.lemmas.List.{length-take-le}
use Rattle.meaning.proofs.Marks.{counted_start, counted_more, counted_skip, counted_room, listing_start, listing_more, listing_skip, listing_done}
use Rattle.marks.proofs.Rows.{mark_of_row}
use Rattle.marks.proofs.list_marks.Goals as goal
use Rattle.marks.proofs.list_marks.Goals.{then-marked, else-marked}

pub loop-y-init : goal.loop-y-init
loop-y-init c = (omega arith, counted_start _, listing_start _ _)

pub bounds-list-m : goal.bounds-list-m
bounds-list-m c =
    let room : c.row_count-n.result ≤ length c.args.marks.now = omega (arith, c.requires, c.row_count-n.ensures) in
    let here = mark_of_row _ _ _ _ room c.loop-y-test.true c.if-marked.true in
    counted_room _ c.args.table.now _ _ _ c.loop-y.invariant.1 here (omega (arith, length-take-le _ _ room, c.row_count-n.ensures)) (omega (arith, c.requires, c.loop-y.auto.list))

pub loop-y-preserved : goal.loop-y-preserved
loop-y-preserved c =
    let room : c.row_count-n.result ≤ length c.args.marks.now = omega (arith, c.requires, c.row_count-n.ensures) in
    let inv = c.loop-y.invariant in
    elim c.if-marked.branch [
      | then-marked w ↦
          let here = mark_of_row _ _ _ _ room c.loop-y-test.true w.if-marked.true in
          let fits = counted_room _ c.args.table.now _ _ (length c.args.list.now) inv.1 here (omega (arith, length-take-le _ _ room, c.row_count-n.ensures)) (omega (arith, c.requires)) in
          (omega arith, rw w.m-is (counted_more _ _ _ inv.1 here), rw (w.list-is, w.m-is) (listing_more _ _ _ _ _ inv.2 inv.1 here fits))
      | else-marked w ↦
          let here = mark_of_row _ _ _ _ room c.loop-y-test.true w.if-marked.false in
          (omega arith, rw w.m-is (counted_skip _ _ _ inv.1 here), rw (w.list-is, w.m-is) (listing_skip _ _ _ _ _ inv.2 here))
    ]

pub returns : goal.returns
returns c =
    let room : c.row_count-n.result ≤ length c.args.marks.now = omega (arith, c.requires, c.row_count-n.ensures) in
    listing_done _ _ c.args.table.now _ _ _ c.loop-y.invariant.2 c.loop-y.invariant.1 (omega (arith, length-take-le _ _ room, c.row_count-n.ensures))
