-- What is ready for a link is ready for a lower one.
-- Assumes nothing.
use Prim.Native.Nat.{ℕ, ◌≤◌}
use mathlib.Core.List.{List}
use native.Mathlib.Omega.{arith}
use Rattle.cover.specs.Ready.{Ready}

pub lower : (t : List ℕ) (l m : ℕ) → Ready t l → m ≤ l → Ready t m
lower t l m h k = record { small = h.small; low = omega (arith, h.low); parents = h.parents }
