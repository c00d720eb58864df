-- Whole numbers as doubles: each of 32 bits is converted exactly, so positions compare as numbers do. By the kit's account
-- of rounding, which changes nothing that the format holds.
-- Assumes nothing.
use Prim.Native.Nat.{ℕ, ◌+◌, ◌*◌, ◌^◌, ◌<◌}
use mathlib.Core.Path.{◌≡◌, refl, sym}
use mathlib.Core.Bool.{Bool, true, false, ◌&&◌, ◌||◌, not}
use lib.Dec.{ltb→lt}
use lib.Ieee.{Float, nan, inf, fin, binary64, is_nan, low, prec, up, down}
use lib.Ieee as Ieee
use lib.Ieee.Exact.{HasValue, round_exact}
use lib.Pow.{shl_lt}
use native.Mathlib.Omega.{arith}
use borrow.Author.Tests.{eq-eqb}
use native.Mathlib.Nat.{lt_trans, mul-one}
use Rattle.meaning.specs.Meaning.{float, nonzero}

-- a whole number of 32 bits as a double is that number: finite, not negative, n over 1
pub float_exact : (n : ℕ) → n < 4294967296 → HasValue (float n) false n 1
unfolding float Ieee.of_int
float_exact n h =
    let small : n < 2 ^ prec binary64 = omega arith in
    let fine : 2 ^ (prec binary64 + low binary64) < 2 ^ (low binary64 + 1024) = ltb→lt _ _ tt in
    round_exact binary64 false n 1 n (low binary64) (omega arith) small (lt_trans (shl_lt (prec binary64) (low binary64) small) fine) (sym (mul-one _))

-- a double equals itself unless it is NaN
pub equals_itself : (x : Float) → Ieee.eq x x ≡ not (is_nan x)
unfolding Ieee.eq is_nan
equals_itself nan = refl
equals_itself (inf true) = refl
equals_itself (inf false) = refl
equals_itself (fin true m e) = rw (eq-eqb (m * up e * down e) (m * up e * down e) refl)
equals_itself (fin false m e) = rw (eq-eqb (m * up e * down e) (m * up e * down e) refl)
