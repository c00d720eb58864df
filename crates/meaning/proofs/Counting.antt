-- Which predicates and steps count, row by row: the definitions at a link, from what is read of its row and what they give at the row's links.
-- Assumes nothing.
use Prim.Native.Nat.{ℕ, ◌+◌, ◌-◌}
use mathlib.Core.Path.{◌≡◌}
use mathlib.Core.Bool.{Bool, true, false, ◌||◌, cond}
use mathlib.Core.List.{List}
use lib.Dec.{eqb}
use native.Mathlib.Omega.{arith}
use Rattle.meaning.specs.Rows.{op_of, field, first_link, second_link, is_number}
use Rattle.meaning.specs.Tree.{Tree, tree, index_or_axis}
use Rattle.meaning.specs.Turning.{contextual, over_path, numeric, asks, counting, steps, some_step, first_step, counts}
use Rattle.meaning.proofs.Decoding.{op_is}
use Rattle.meaning.proofs.Trees.{tree_zero, tree_row}

-- ---- ops

module _ (p : List ℕ) (l : ℕ) where
  -- ---- no link

  pub asks_none : l ≡ 0 → false ≡ asks (tree p l)
  unfolding asks
  asks_none e = rw (e, tree_zero p)

  pub counting_none : l ≡ 0 → false ≡ counting (tree p l)
  unfolding counting
  counting_none e = rw (e, tree_zero p)

  pub counts_none : l ≡ 0 → false ≡ counts (tree p l)
  unfolding some_step
  counts_none e = rw (e, tree_zero p)

  -- no steps, and no first one
  pub steps_none : l ≡ 0 → 0 ≡ steps (tree p l)
  unfolding steps
  steps_none e = rw (e, tree_zero p)

  pub first_none : (fit : Tree → ℕ → Bool) → l ≡ 0 → 0 ≡ first_step fit (tree p l)
  unfolding first_step
  first_none fit e = rw (e, tree_zero p)

  -- ---- a row: its op, and its links a and b

  module _ (h : (l ≡ 0) → ⊥) where
    module _ (a b : ℕ) (is-a : a ≡ first_link p (l - 1)) (is_b : b ≡ second_link p (l - 1)) where
      pub steps_row : (n : ℕ) → n ≡ steps (tree p a) → n + 1 ≡ steps (tree p l)
      unfolding steps
      steps_row n f = rw (tree_row p l h, ← is-a, ← f)

      -- the first that fits: one before it, or the row's own
      pub first_row : (fit : Tree → ℕ → Bool) (n first r : ℕ) (own : Bool) → n ≡ steps (tree p a) → first ≡ first_step fit (tree p a) → own ≡ fit (tree p b) (index_or_axis p (l - 1))
          → r ≡ cond (eqb first 0) (cond own (n + 1) 0) first → r ≡ first_step fit (tree p l)
      unfolding first_step
      first_row fit n first r own f g k e = rw (tree_row p l h, ← is-a, ← is_b, ← f, ← g, ← k) e
