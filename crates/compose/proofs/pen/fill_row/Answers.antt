-- `compose::pen::fill_row` meets its contract, by the op.
-- Assumes nothing.
use native.Mathlib.Omega.{arith}
use Rattle.compose.proofs.Rows.{penned_as, penned_then, fill_step, fill_path, fill_sign, fill_number, fill_test, fill_truth}
use Rattle.compose.proofs.pen.fill_row.Goals as goal

pub returns-in-24 : goal.returns-in-24
returns-in-24 c =
    let g = c.args in
    penned_as _ 2 c.write_row.ensures
    (fill_step g.hand g.rows.now g.op g.a g.c g.d c.in-24.is) (omega arith)

pub returns-in-22-to-4294967295 : goal.returns-in-22-to-4294967295
returns-in-22-to-4294967295 c =
    let g = c.args in
    penned_as _ 2 c.write_row-in-22-to-4294967295.ensures
    (fill_path g.hand g.rows.now g.op g.a g.c g.d (λ e. omega arith) (omega arith)) (omega arith)

pub returns-in-9 : goal.returns-in-9
returns-in-9 c =
    let g = c.args in
    penned_as _ 2 c.write_row-in-9.ensures
    (fill_sign g.hand g.rows.now g.op g.a g.c g.d c.in-9.is) (omega arith)

pub returns-in-0-to-8 : goal.returns-in-0-to-8
returns-in-0-to-8 c =
    let g = c.args in
    penned_as _ 2 c.write_row-in-0-to-8.ensures
    (fill_number g.hand g.rows.now g.op g.a g.c g.d (λ e. omega arith) (omega arith)) (omega arith)

pub returns-in-10-to-15 : goal.returns-in-10-to-15
returns-in-10-to-15 c =
    let g = c.args in
    penned_as _ 2 c.write_row-in-10-to-15.ensures
    (fill_test g.hand g.rows.now g.op g.a g.c g.d (omega arith) (omega arith)) (omega arith)

pub returns-in_default : goal.returns-in_default
returns-in_default c =
    let g = c.args in
    let truth = c.made_truth-truth.ensures in
    penned_as _ 2 (penned_then truth c.write_row-in_default.ensures)
    (fill_truth g.hand g.rows.now g.op g.a g.c g.d _ _ truth.pen_is (omega arith) (omega arith)) (omega arith)
