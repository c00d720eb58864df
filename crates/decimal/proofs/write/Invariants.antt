-- `decimal::write` meets its contract. The loop's invariant: with the digits that are left laid where they belong, the slice would be what it
-- is to be; the next one stands before those that are written. The measure is what is left of the number.
-- Assumes nothing.
use Prim.Native.Nat.{◌+◌, ◌<◌}
use mathlib.Core.Path.{◌≡◌}
use lib.ListN.{length}
use Rattle.decimal.specs.Decimal.{digits, laid}
use Rattle.decimal.proofs.write.Given as goal

abbrev pub invariant-loop-rest : goal.invariant-loop-rest
invariant-loop-rest l =
    (l.last + 1 ≡ l.at + length (digits l.rest)) × (length l.out ≡ length l.initial.out) × (l.last < length l.initial.out) × (laid l.out l.at (digits l.rest) ≡ laid l.initial.out l.at (digits l.n))

abbrev pub decreases-loop-rest : goal.decreases-loop-rest
decreases-loop-rest l = l.rest
