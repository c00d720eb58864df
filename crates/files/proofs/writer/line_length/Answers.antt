-- `files::writer::line_length` meets its contract: the line of a parent is two bytes longer than the others.
-- Assumes nothing.
use native.Mathlib.Omega.{arith}
use Rattle.files.proofs.Written.{line_parent, line_other}
use Rattle.files.proofs.writer.line_length.Goals as goal
use Rattle.files.proofs.writer.line_length.Goals.{then-i-eq2, else-i-eq2}

pub overflow_add-result : goal.overflow_add-result
overflow_add-result c = elim c.if-i-eq2.branch [ then-i-eq2 w ↦ omega arith | else-i-eq2 w ↦ omega arith ]

pub returns : goal.returns
returns c =
    let i = c.args.i in
    let n = c.args.n in
    elim c.if-i-eq2.branch [ then-i-eq2 w ↦ let e = line_parent i n w.if-i-eq2.true in (omega arith, omega arith) | else-i-eq2 w ↦ let e = line_other i n w.if-i-eq2.false in (omega arith, omega arith) ]
