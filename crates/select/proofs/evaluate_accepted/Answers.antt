-- `select::evaluate_accepted` meets its contract: the marks that the path's select leaves are what is selected, and each outcome is that of
-- its check.
-- Assumes nothing.
use Rattle.std.proofs.Common.{refl, arith}
use Rattle.meaning.proofs.Checks.{table_accepted}
use Rattle.meaning.specs.Table.{most_rows}
use Rattle.meaning.proofs.Marks.{no_marks}
use Rattle.reach.proofs.Accepted.{accepted_rooted}
use Rattle.meaning.proofs.Outcome.{table_fits, path_fits, start_refused, all_handed}
use Rattle.select.proofs.evaluate_accepted.Goals as goal

pub returns-then-row_count-start : goal.returns-then-row_count-start
returns-then-row_count-start c =
    start_refused _ _ _ _ _ _ c.requires.0 c.requires.1 c.requires.2 (omega arith)

pub invariant_of-evaluation : goal.invariant_of-evaluation
invariant_of-evaluation c =
    record { small = table_fits _ c.requires.1; rooted = accepted_rooted _ (table_accepted _ c.requires.1) }

pub select-requires : goal.select-requires
select-requires c =
    (rw c.row_count-2.ensures (path_fits _ _ c.requires.2), refl, no_marks most_rows)

pub give_marks-requires : goal.give_marks-requires
give_marks-requires c =
    let fits = table_fits _ c.requires.1 in
    (fits, omega (arith, c.select.auto))

pub returns : goal.returns
returns c =
    all_handed _ _ _ _ _ _ c.requires.0 c.requires.1 c.requires.2 (omega arith) _ c.row_count-2.ensures _ c.select.ensures _ _ c.give_marks.ensures.0 c.give_marks.ensures.1
