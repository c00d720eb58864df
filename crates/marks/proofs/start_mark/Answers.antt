-- `marks::start_mark` meets its contract: the row that is marked is the start, if there is such a row.
-- Assumes nothing.
use Rattle.std.proofs.Common.{◌∙◌}
use Rattle.meaning.specs.Meaning.{start_of}
use Rattle.meaning.proofs.Marks.{listed_one, listed_outside}
use Rattle.marks.proofs.start_mark.Goals as goal

pub returns-then-x-marks : goal.returns-then-x-marks
unfolding start_of
returns-then-x-marks c = listed_one c.args.table.now c.args.marks.now _ c.requires.unmarked c.if-x-marks.true ∙ rw c.start_row-x.ensures

pub returns-else-x-marks : goal.returns-else-x-marks
unfolding start_of
returns-else-x-marks c = listed_outside c.args.table.now c.args.marks.now _ c.requires.unmarked c.requires.room c.if-x-marks.false ∙ rw c.start_row-x.ensures
