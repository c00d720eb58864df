-- `path_check::check_path` meets its contract: the answer of the first check that applies.
-- Assumes nothing.
use Rattle.std.proofs.Common.{true, false, sym, arith}
use borrow.Author.Tests.{lt-ltb, le-ltb}
use Rattle.meaning.proofs.Checks.{length_answer, literal_answer, row_answer, depth_answer}
use Rattle.path_check.proofs.check_path.Goals as goal

pub returns-in_default : goal.returns-in_default
returns-in_default c = length_answer _ _ c.in_default.ensures

pub returns-in-Some-lowest_bad_literal : goal.returns-in-Some-lowest_bad_literal
returns-in-Some-lowest_bad_literal c = literal_answer _ _ c.in-Some.ensures.1 _ c.in-Some-lowest_bad_literal.ensures.0 c.in-Some-lowest_bad_literal.ensures.1

pub returns-in-Some-lowest_broken_row : goal.returns-in-Some-lowest_broken_row
returns-in-Some-lowest_broken_row c =
    let r = rw (c.in-Some.rows.counted.0, c.in-Some.ensures.0) at c.in-Some-lowest_broken_row.ensures in
    row_answer _ _ c.in-Some.ensures.1 _ (sym c.in_default-lowest_bad_literal.ensures) (omega arith) _ r.0 r.1

pub returns-then-depth_of-gt-MOST_DEPTH : goal.returns-then-depth_of-gt-MOST_DEPTH
returns-then-depth_of-gt-MOST_DEPTH c =
    let none = rw (c.in-Some.rows.counted.0, c.in-Some.ensures.0) at c.in_default-lowest_broken_row.ensures in
    let deep = rw (c.in-Some.rows.counted.0, c.in-Some.ensures.0) at c.depth_of.ensures in
    depth_answer _ _ c.in-Some.ensures.1 _ (sym c.in_default-lowest_bad_literal.ensures) (omega arith) _ (sym none) true
    (rw (← deep) (lt-ltb _ _ c.if-depth_of-gt-MOST_DEPTH.true)) (omega arith)

pub returns : goal.returns
returns c =
    let none = rw (c.in-Some.rows.counted.0, c.in-Some.ensures.0) at c.in_default-lowest_broken_row.ensures in
    let deep = rw (c.in-Some.rows.counted.0, c.in-Some.ensures.0) at c.depth_of.ensures in
    rw (c.in-Some.rows.counted.0, c.in-Some.ensures.0)
    (depth_answer _ _ c.in-Some.ensures.1 _ (sym c.in_default-lowest_bad_literal.ensures) (omega arith) _ (sym none) false
    (rw (← deep) (le-ltb _ _ c.if-depth_of-gt-MOST_DEPTH.false)) (omega arith))
