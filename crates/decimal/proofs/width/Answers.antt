-- The answers of `decimal::width`: what its code leaves to show, by the invariants beside this file. Assumes nothing.
use Prim.Native.Nat.{◌+◌, ◌/◌}
use native.Mathlib.Omega.{arith}
use mathlib.Core.Path.{◌≡◌}
use lib.ListN.{length}
use Rattle.decimal.specs.Decimal.{digits}
use Rattle.decimal.proofs.Decimals.{width_few, width_more, width_some, width_ten}
use Rattle.decimal.proofs.width.Goals as goal

pub loop-rest-init : goal.loop-rest-init
loop-rest-init c = (omega arith, width_ten c.args.n (omega arith))

pub overflow_add-count : goal.overflow_add-count
overflow_add-count c = omega arith

pub loop-rest-smaller : goal.loop-rest-smaller
loop-rest-smaller c = omega arith

pub loop-rest-preserved : goal.loop-rest-preserved
loop-rest-preserved c =
    let e : length (digits c.loop-rest.rest) ≡ length (digits (c.loop-rest.rest / 10)) + 1 = width_more c.loop-rest.rest c.loop-rest-test.true in
    (omega arith, omega arith)

pub returns : goal.returns
returns c =
    let e : length (digits c.loop-rest.rest) ≡ 1 = width_few c.loop-rest.rest c.loop-rest-test.false in
    (omega arith, omega (arith, width_some c.args.n), omega arith)
