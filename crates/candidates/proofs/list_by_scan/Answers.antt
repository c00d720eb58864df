-- The answers of `candidates::list_by_scan`: what its code leaves to show, by the invariants beside this file. Assumes nothing.
use mathlib.Core.Path.{◌≡◌, refl, sym, ap, ◌∙◌}
use native.Mathlib.Omega.{arith}
use lib.ListN.{length, length-set}
use Rattle.meaning.specs.Axis.{on, ordered, axis_nodes, candidates}
use Rattle.meaning.proofs.Lists.{length_ordered, keep_keep}
use Rattle.meaning.proofs.Filters.{chosen_start, chosen_skip, chosen_done}
use Rattle.candidates.proofs.Written.{counted_once, chosen_next}
use Rattle.candidates.proofs.list_by_scan.Goals as goal
use Rattle.candidates.proofs.list_by_scan.Goals.{then-holds, else-holds}

pub loop-i-init : goal.loop-i-init
loop-i-init c = (omega arith, c.row_count-n.ensures, refl, chosen_start _ _ _)

pub loop-i-preserved : goal.loop-i-preserved
loop-i-preserved c =
    let n = c.row_count-n.result in
    let r = c.is_reverse-reverse.result in
    let long : length (ordered r n) ≡ n = length_ordered r n in
    let at_y = c.nth-y.ensures.0 in
    let asked : on c.args.table.now c.args.axis c.args.x c.nth-y.result ≡ c.holds.result = sym c.holds.ensures in
    elim c.if-holds.branch [
      | then-holds w ↦ (
        omega (arith, counted_once w.passes_test.result, w.from-m.ensures, w.m-is),
        c.loop-i.invariant.1,
        ap length w.list-is ∙ simp length-set c.loop-i.invariant.2,
        rw (w.list-is, w.m-is, w.from-m.ensures) (chosen_next _ _ _ _ _ _ _ c.loop-i.invariant.3 (omega arith) (omega arith) at_y (rw (← at_y, asked, w.if-holds.true, ← c.principal-kind.ensures) (sym w.passes_test.ensures))),
      )
      | else-holds w ↦ (
        omega (arith, w.m-is),
        c.loop-i.invariant.1,
        ap length w.list-is ∙ c.loop-i.invariant.2,
        rw (w.list-is, w.m-is) (chosen_skip _ _ _ _ _ c.loop-i.invariant.3 (omega arith) (rw (← at_y, asked, w.if-holds.false) refl)),
      )
    ]

pub returns : goal.returns
unfolding candidates axis_nodes
returns c =
    let n = c.row_count-n.result in
    let r = c.is_reverse-reverse.result in
    let long : length (ordered r n) ≡ n = length_ordered r n in
    (rw (← c.is_reverse-reverse.ensures, ← c.row_count-n.ensures) (chosen_done _ _ _ _ _ c.loop-i.invariant.3 (omega arith) ∙ sym (keep_keep _ _ (ordered r n))), omega arith)
