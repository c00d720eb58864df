-- Literals: equal values share one, and a new one stands behind the others.
-- Assumes nothing.
use Prim.Native.Nat.{ℕ, suc, ◌+◌, ◌<◌, ◌≤◌}
use native.Mathlib.Omega.{arith}
use native.Mathlib.Numerals.{add-one}
use mathlib.Core.Path.{◌≡◌}
use mathlib.Core.Bool.{Bool, true, false, cond}
use mathlib.Core.List.{List, [], ◌∷◌}
use lib.ListN.{length, take, set}
use lib.Seq.{length-take-le, take-suc-set}
use lib.Ieee.{Float}
use lib.Ieee as Ieee
use borrow.Author.Tests.{lt-ltb, le-ltb}
use Rattle.text.specs.Reading.{index_of, with}

pub index_most : (l : List Float) (x : Float) → index_of l x ≤ length l
unfolding index_of
index_most [] x = omega arith
index_most (y ∷ ys) x = by (Ieee.eq y x) (index_most ys x)
  where
    by : (t : Bool) → index_of ys x ≤ length ys → cond t 0 (suc (index_of ys x)) ≤ suc (length ys)
    by true h = omega arith
    by false h = omega arith

module _ (values : List Float) (n index : ℕ) (value : Float) (h : n < length values) (e : index ≡ index_of (take n values) value) where
  pub index_within : index ≤ n
  index_within = omega (arith, index_most (take n values) value, length-take-le n values (omega arith))

  pub literal_shared : index < n → take n values ≡ with (take n values) value
  unfolding with
  literal_shared l = rw (length-take-le n values (omega arith), lt-ltb (index_of (take n values) value) n (omega arith))

  pub literal_new : n ≤ index → take (n + 1) (set values n value) ≡ with (take n values) value
  unfolding with
  literal_new l =
      rw (length-take-le n values (omega arith), le-ltb (index_of (take n values) value) n (omega arith), add-one n)
      (take-suc-set values n value h)
