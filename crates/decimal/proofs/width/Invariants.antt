-- `decimal::width` meets its contract. The loop's invariant: what is counted, with the digits that are left, is one more than the digits of
-- n, which are at most ten. The measure is what is left of the number.
-- Assumes nothing.
use Prim.Native.Nat.{◌+◌, ◌≤◌}
use mathlib.Core.Path.{◌≡◌}
use lib.ListN.{length}
use Rattle.decimal.specs.Decimal.{digits}
use Rattle.decimal.proofs.width.Given as goal

abbrev pub invariant-loop-rest : goal.invariant-loop-rest
invariant-loop-rest l = (l.count + length (digits l.rest) ≡ length (digits l.n) + 1) × (length (digits l.n) ≤ 10)

abbrev pub decreases-loop-rest : goal.decreases-loop-rest
decreases-loop-rest l = l.rest
