-- `compose::pen::made_truth` meets its contract, by the sort in hand.
-- Assumes nothing.
use native.Mathlib.Omega.{arith}
use Rattle.text.specs.Composing.{truthful}
use Rattle.compose.proofs.Rows.{pen_kept, penned_as, truthful_numeral, truthful_truth, truthful_nodes, truthful_unheld}
use Rattle.compose.proofs.pen.made_truth.Goals as goal

pub returns-in-Numeral : goal.returns-in-Numeral
returns-in-Numeral c =
    let g = c.args in
    penned_as truthful 1 c.write_row.ensures
    (truthful_numeral g.hand g.rows.now c.in-Numeral.is) (omega arith)

pub returns-in-Truth : goal.returns-in-Truth
returns-in-Truth c =
    let g = c.args in
    penned_as truthful 1 (pen_kept g.hand g.rows.now) (truthful_truth g.hand g.rows.now c.in-Truth.is)
    (omega arith)

pub returns-in-Nodes : goal.returns-in-Nodes
returns-in-Nodes c =
    let g = c.args in
    penned_as truthful 1 c.write_row-in-Nodes.ensures
    (truthful_nodes g.hand g.rows.now c.in-Nodes.is) (omega arith)

pub returns-in-Unheld : goal.returns-in-Unheld
returns-in-Unheld c =
    let g = c.args in
    penned_as truthful 1 (pen_kept g.hand g.rows.now) (truthful_unheld g.hand g.rows.now c.in-Unheld.is)
    (omega arith)
