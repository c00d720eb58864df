-- Laws of a list of names that is not refused: its names differ, so that the i-th has number i; and no number is above 65,535.
-- Assumes nothing.
use Prim.Native.Nat.{ℕ, ◌<◌, ◌≤◌}
use native.Mathlib.Omega.{arith}
use mathlib.Core.Path.{◌≡◌}
use mathlib.Core.Logic.{⊎_elim}
use mathlib.Core.Bool.{true, false, ◌||◌, not}
use mathlib.Core.List.{List, []}
use lib.ListN.{length, get_or}
use lib.Dec.{ltb, leb}
use borrow.Author.Tests.{ltb-true, ltb-false, leb-false, not-false}
use Rattle.meaning.proofs.Bools.{lt_or_ge, or_none_l, or_none_r}
use Rattle.meaning.proofs.Lists.{below_none}
use Rattle.names.specs.Names.{most_names, good_name, position, bad_line, bad_names, is_named, number_of}
use Rattle.names.proofs.Words.{same_itself}
use Rattle.names.proofs.Places.{position_within}

module _ (names : List (List ℕ)) where
  -- what is known of a line that is not bad: its name is good, it does not stand earlier, and it is among the most
  pub record Fine (i : ℕ) : Type 0 where
    pub good : good_name (get_or names i []) ≡ true
    pub new : i ≤ position names (get_or names i [])
    pub few : i < most_names

  pub fine : (i : ℕ) → bad_line names i ≡ false → Fine i
  unfolding bad_line
  fine i h =
      let w : List ℕ = get_or names i [] in
      let p = or_none_l (not (good_name w) || ltb (position names w) i) (leb most_names i) h in
      record {
        good = not-false (good_name w) (or_none_l (not (good_name w)) (ltb (position names w) i) p);
        new = ltb-false (position names w) i (or_none_r (not (good_name w)) (ltb (position names w) i) p);
        few = leb-false most_names i (or_none_r (not (good_name w) || ltb (position names w) i) (leb most_names i) h);
      }

  module _ (accepted : bad_names names ≡ false) where
    pub each_fine : (i : ℕ) → i < length names → Fine i
    unfolding bad_names
    each_fine i h = fine i (below_none (bad_line names) (length names) accepted i h)

    -- the i-th name, from 0, stands at i and nowhere before
    pub different_names : (i : ℕ) → i < length names → position names (get_or names i []) ≡ i
    different_names i h = omega (arith, position_within names (get_or names i []) i h (same_itself (get_or names i [])), (each_fine i h).new)

    -- there are at most 65,535 names
    pub names_at_most : length names ≤ most_names
    names_at_most =
        ⊎_elim
        (λ (h : most_names < length names). absurd (omega (arith, (each_fine most_names h).few)))
        (λ (h : length names ≤ most_names). h)
        (lt_or_ge most_names (length names))

    -- so the number of a word that is named is at most 65,535
    pub number_at_most : (w : List ℕ) → is_named names w ≡ true → number_of names w ≤ most_names
    unfolding is_named number_of
    number_at_most w e = omega (arith, names_at_most, ltb-true (position names w) (length names) e)
