-- `reach::least_end` meets its contract: a number is above low exactly if the end of a row passed that gives is below it.
-- Assumes nothing.
use Rattle.std.proofs.Common.{◌+◌, ltb}
use Rattle.meaning.specs.Lists.{up_to}
use Rattle.meaning.specs.Table.{end}
use Rattle.reach.specs.Reach.{admitted, beyond}
use Rattle.reach.proofs.Sweep.{Gathered, giving}
use Rattle.reach.proofs.least_end.Given as goal

abbrev pub invariant-loop-i : goal.invariant-loop-i
invariant-loop-i l = Gathered (beyond + 1) (λ x z. ltb (end l.table x) z) (giving l.from (admitted l.table l.given)) (up_to l.i) (λ z. ltb l.low z)
