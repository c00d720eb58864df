-- `files::writer::put_table` meets its contract: the two first lines and those of the numbers are laid one behind the other.
-- Assumes nothing.
use native.Mathlib.Omega.{arith}
use Rattle.files.specs.Files.{line}
use Rattle.meaning.proofs.Tables.{length_within_lem}
use Rattle.files.proofs.Written.{bytes_length, table_laid}
use Rattle.files.proofs.writer.put_table.Goals as goal

pub put_line-second-requires : goal.put_line-second-requires
unfolding line
put_line-second-requires c = omega (arith, bytes_length c.args.table.now)

pub overflow_cast-table : goal.overflow_cast-table
overflow_cast-table c = omega (arith, (length_within_lem _ c.args.table.now c.requires.0).2)

pub put_line-third-requires : goal.put_line-third-requires
unfolding line
put_line-third-requires c = omega (arith, bytes_length c.args.table.now, c.put_line-second.auto.out)

pub put_numbers-requires : goal.put_numbers-requires
unfolding line
put_numbers-requires c = omega (arith, bytes_length c.args.table.now, c.put_line-second.auto.out, c.put_line-third.auto.out)

pub returns : goal.returns
unfolding line
returns c =
    let a = c.args in
    let one = c.put_line-second.ensures in
    let two = c.put_line-third.ensures in
    rw (c.put_numbers.ensures, two.1, two.0, one.1, one.0) (table_laid a.table.now a.out.now c.requires.1)
