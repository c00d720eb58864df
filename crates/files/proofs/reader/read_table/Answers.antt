-- `files::reader::read_table` meets its contract: by the first two lines.
-- Assumes nothing.
use Rattle.std.proofs.Common.{◌*◌, ◌≤◌, arith}
use Rattle.std.proofs.lemmas.Result.{err_from_is_err_and}
use Rattle.meaning.specs.Table.{most_rows}
use Rattle.files.specs.Parts.{HeadOf}
use Rattle.files.proofs.Passing.{head_few}
use Rattle.files.proofs.Outcome.{reads_bad}
use Rattle.files.proofs.reader.read_table.Goals as goal

pub returns-in_err-count : goal.returns-in_err-count
unfolding HeadOf
returns-in_err-count c =
    let p = err_from_is_err_and c.from_residual.result c.from_residual.ensures.1 in
    let b = c.in_err-count.ensures in
    rw (p.1, p.2, b.1) (reads_bad _ _ _ b.2)

pub overflow_mul-count : goal.overflow_mul-count
overflow_mul-count c = omega (arith, head_few _ _ _ c.in_ok-count.ensures)

pub read_rows-requires-else-count-le-FEW_NUMBERS : goal.read_rows-requires-else-count-le-FEW_NUMBERS
read_rows-requires-else-count-le-FEW_NUMBERS c =
    let h : 4 * c.in_ok-count.count ≤ 4 * most_rows = omega (arith, head_few _ _ _ c.in_ok-count.ensures) in
    (c.in_ok-count.ensures, h, omega arith)
