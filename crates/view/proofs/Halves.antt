-- The library's search by halves in a list that rises finds where a part begins.
-- Assumes nothing.
use Rattle.std.proofs.Common.{◌≡◌, ℕ, List, ◌<◌, ◌≤◌, length, get_or, true, false, arith}
use mathlib.Core.Logic.{⊎_elim}
use lib.Dec.{ltb}
use borrow.Author.Tests.{ltb-true, ltb-false}
use Rattle.std.specs.List.Sorted.{IsNonDecreasingBy, IsPartitionPoint}
use Rattle.std.proofs.lemmas.List.Sorted.{IsNonDecreasingBy-from_default}
use Rattle.meaning.specs.View.{begins}
use Rattle.meaning.proofs.Bools.{lt_or_ge}
use Rattle.meaning.proofs.Lists.{Rising, Monotone, Before}
use Rattle.meaning.proofs.View.{Bracket, bracket_met}

-- what rises does not fall
pub rises : (l : List ℕ) → Rising l → IsNonDecreasingBy (λ (y : ℕ). y) l
unfolding Monotone Before
rises l up = IsNonDecreasingBy-from_default (λ (y : ℕ). y) l 0 (λ i j h k. ⊎_elim (λ (m : i < j). omega (arith, up i j m k)) (λ (m : j ≤ i). let e : i ≡ j = omega arith in rw e (omega arith)) (lt_or_ge i j))

-- the entries below v end where the part begins
pub parted : (l : List ℕ) (v i : ℕ) → i ≤ length l → IsPartitionPoint (λ (y : ℕ). ltb y v ≡ true) (λ (y : ℕ). ltb y v ≡ false) l i → i ≡ begins l v
parted l v i h p =
    let b : Bracket l v i i = record {
      order = omega arith;
      within = h;
      below = λ j k. ltb-true (get_or l j 0) v (p.0 j 0 (omega arith) k);
      above = λ k. ltb-false (get_or l i 0) v (p.1 i 0 (omega arith) k);
    }
    in
    bracket_met b (omega arith)
