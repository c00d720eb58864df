-- The answers of `path_check::lowest_broken_row`: the first broken row is the lowest, and none that was passed is. Assumes nothing.
use Rattle.std.proofs.Common.{sym, ◌∙◌, arith, ◌≡◌, true, false}
use Rattle.meaning.specs.Rows.{broken_row}
use Rattle.meaning.proofs.Checks.{passed_start, passed_more, passed_found, passed_all}
use Rattle.path_check.proofs.lowest_broken_row.Goals as goal

pub loop-row-init : goal.loop-row-init
loop-row-init c = (omega arith, c.by_none-lower.ensures.0, passed_start _)

pub returns-then-is_broken : goal.returns-then-is_broken
returns-then-is_broken c =
    let broken : broken_row c.args.rows.now.path.now c.args.literals c.loop-row.row ≡ true = cc in
    (passed_found _ _ _ c.loop-row.invariant.2 (omega arith) broken, omega arith)

pub loop-row-preserved : goal.loop-row-preserved
loop-row-preserved c =
    let sound : broken_row c.args.rows.now.path.now c.args.literals c.loop-row.row ≡ false = cc in
    (omega arith, cc, passed_more _ _ c.loop-row.invariant.2 sound)

pub returns : goal.returns
returns c = sym (passed_all _ _ _ c.loop-row.invariant.2 (omega arith)) ∙ omega arith
