-- Laws of where a word stands in a list of words.
-- Assumes nothing.
use Prim.Native.Nat.{ℕ, zero, suc, ◌<◌, ◌≤◌}
use native.Mathlib.Omega.{arith}
use mathlib.Core.Path.{◌≡◌, refl}
use mathlib.Core.Bool.{Bool, true, false, cond}
use mathlib.Core.List.{List, [], ◌∷◌}
use lib.ListN.{length, get_or}
use Rattle.names.specs.Names.{same, position}

-- a word that is there stands there or earlier
pub position_within : (names : List (List ℕ)) (w : List ℕ) (i : ℕ) → i < length names → same (get_or names i []) w ≡ true
    → position names w ≤ i
unfolding position
position_within [] w i h e = absurd (omega arith)
position_within (v ∷ vs) w zero h e = rw e (omega arith)
position_within (v ∷ vs) w (suc i) h e = by (same v w) (position_within vs w i (omega arith) e)
  where
    by : (t : Bool) → position vs w ≤ i → cond t 0 (suc (position vs w)) ≤ suc i
    by true l = omega arith
    by false l = omega arith

-- one that is none of the first n stands behind them
pub position_behind : (names : List (List ℕ)) (w : List ℕ) (n : ℕ) → n ≤ length names
    → ((i : ℕ) → i < n → same (get_or names i []) w ≡ false) → n ≤ position names w
unfolding position
position_behind [] w n h f = omega arith
position_behind (v ∷ vs) w zero h f = omega arith
position_behind (v ∷ vs) w (suc n) h f =
    let more = position_behind vs w n (omega arith) (λ i l. f (suc i) (omega arith)) in
    rw (f 0 (omega arith)) (omega arith)

-- a word stands where it is said to
pub position_is : (names : List (List ℕ)) (w : List ℕ) → position names w < length names → same (get_or names (position names w) []) w ≡ true
unfolding position
position_is [] w h = absurd (omega arith)
position_is (v ∷ vs) w h = by (same v w) refl h (position_is vs w)
  where
    by : (t : Bool) → same v w ≡ t → cond t 0 (suc (position vs w)) < suc (length vs)
        → (position vs w < length vs → same (get_or vs (position vs w) []) w ≡ true)
        → same (get_or (v ∷ vs) (cond t 0 (suc (position vs w))) []) w ≡ true
    by true e l more = e
    by false e l more = more (omega arith)
