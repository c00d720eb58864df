-- `remainder::rest_of_digits` meets its contract: the rest so far is that of the digits doubled so often.
-- Assumes nothing.
use Rattle.std.proofs.Common.{◌≡◌, ◌%◌, ◌<◌}
use Rattle.remainder.specs.Units.{size_of}
use Rattle.remainder.proofs.rest_of_digits.Given as goal

abbrev pub invariant-loop-i : goal.invariant-loop-i
invariant-loop-i l = (l.rest ≡ size_of l.digits l._i % l.divisor) × (l.rest < l.divisor)
