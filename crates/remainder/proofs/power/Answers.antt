-- `remainder::power` meets its contract: among the smallest doubles one bit is set, above them the exponent alone.
-- Assumes nothing.
use native.Mathlib.Omega.{arith}
use Prim.Native.Nat.{◌^◌, ◌≤◌}
use lib.Pow.{pow_mono}
use Rattle.std.proofs.lemmas.Float.{not_nan_f64_bits}
use Rattle.remainder.proofs.Units.{power_low, power_high}
use Rattle.remainder.proofs.power.Goals as goal

pub float_from_bits-result : goal.float_from_bits-result
float_from_bits-result c =
    let few : 2 ^ c.args.shift ≤ 2 ^ 51 = pow_mono {i = c.args.shift} {j = 51} (omega arith) in
    not_nan_f64_bits _ (omega arith)

pub float_from_bits-result-else-shift-lt52 : goal.float_from_bits-result-else-shift-lt52
float_from_bits-result-else-shift-lt52 c = not_nan_f64_bits _ (omega arith)

pub returns-then-shift-lt52 : goal.returns-then-shift-lt52
returns-then-shift-lt52 c =
    let few : 2 ^ c.args.shift ≤ 2 ^ 51 = pow_mono {i = c.args.shift} {j = 51} (omega arith) in
    power_low c.args.shift _ c.if-shift-lt52.true (omega arith)

pub returns-else-shift-lt52 : goal.returns-else-shift-lt52
returns-else-shift-lt52 c = power_high c.args.shift _ c.if-shift-lt52.false c.requires (omega arith)
