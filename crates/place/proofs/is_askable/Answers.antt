-- `place::is_askable` meets its contract: a table is accepted exactly if its check is no refusal.
-- Assumes nothing.
use Rattle.std.proofs.Common.{arith}
use Rattle.meaning.specs.Answers.{askable}
use Rattle.meaning.proofs.Outcome.{accepted_told}
use Rattle.place.proofs.is_askable.Goals as goal

pub returns-then-is_err : goal.returns-then-is_err
unfolding askable
returns-then-is_err c =
    let here = accepted_told _ _ c.check_table.ensures in
    rw here (grind (arith, c))

pub returns-then-x-n : goal.returns-then-x-n
unfolding askable
returns-then-x-n c =
    let here = accepted_told _ _ c.check_table.ensures in
    rw here (grind (arith, c))

pub returns-else-x-n : goal.returns-else-x-n
unfolding askable
returns-else-x-n c =
    let here = accepted_told _ _ c.check_table.ensures in
    rw here (grind (arith, c))
