-- One entry more of a copy, whatever the entries are.
-- Assumes nothing.
use Prim.Native.Nat.{ℕ, suc, ◌+◌, ◌<◌}
use native.Mathlib.Omega.{arith}
use native.Mathlib.Numerals.{add-one}
use mathlib.Core.Path.{◌≡◌, sym}
use mathlib.Core.List.{List, ◌++◌}
use lib.ListN.{length, get_or, set, take, drop}
use lib.Seq.{take-suc, length-take-le, drop-cons, set_at, append_snoc}

pub copied_more :
    {A : Type 0} (from out : List A) (i : ℕ) (d : A) → i < length from → i < length out
    → set (take i from ++ drop i out) i (get_or from i d) ≡ take (i + 1) from ++ drop (i + 1) out
copied_more from out i d k h =
    rw (drop-cons out i d h, set_at (take i from) (get_or out i d) (drop (suc i) out) (get_or from i d) i (length-take-le i from (omega arith)), add-one, take-suc from i d k)
    (sym (append_snoc (take i from) (get_or from i d) (drop (suc i) out)))
