-- `remainder::Size::rest_by` meets its contract: a divisor far above is larger than any digits; the rest is found by the laws named there.
-- Assumes nothing.
use Rattle.std.proofs.Common.{arith}
use Rattle.remainder.proofs.Units.{left_out, far_above}
use Rattle.remainder.proofs.Size.rest_by.Goals as goal

pub returns-then-more-ge-FAR : goal.returns-then-more-ge-FAR
returns-then-more-ge-FAR c =
    left_out c.args.self.digits c.args.self.shift c.args.divisor.digits c.args.divisor.shift (omega arith)
    (far_above c.args.self.digits c.args.divisor.digits _ c.args.self.of_doubles.0 c.requires c.if-more-ge-FAR.true)
