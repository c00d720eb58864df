-- Laws of links and of the tree that rows stand for: `tree_row` is the only unfolding of a tree that proofs use,
-- and the fuel of the reading does not matter, since a link names a lower row.
-- Assumes nothing.
use Prim.Native.Nat.{ℕ, zero, suc, ◌-◌, ◌≤◌}
use mathlib.Core.Path.{◌≡◌, refl}
use mathlib.Core.Bool.{Bool, true, false, cond}
use mathlib.Core.List.{List}
use lib.Dec.{leb}
use native.Mathlib.Omega.{arith}
use borrow.Author.Tests.{leb-true, le-leb}
use Rattle.meaning.specs.Rows.{op_at, field, fields_of, is_link, follow, first_link, second_link}
use Rattle.meaning.specs.Tree.{none, node, index_or_axis, test_at, linked, tree}

-- ---- links

pub follow_le : (r l : ℕ) → follow r l ≤ r
unfolding follow
follow_le r l = go (leb l r) refl
  where
    go : (b : Bool) → leb l r ≡ b → cond b l 0 ≤ r
    go true e = leb-true l r e
    go false e = omega arith

pub follow_in : (r l : ℕ) → l ≤ r → follow r l ≡ l
unfolding follow
follow_in r l h = rw (le-leb l r h)

link_le : (b : Bool) (r l : ℕ) → l ≤ r → cond b l 0 ≤ r
link_le true r l h = h
link_le false r l h = omega arith

pub first_le : (p : List ℕ) (r : ℕ) → first_link p r ≤ r
unfolding first_link
first_le p r = link_le (is_link (fields_of (op_at p r)).a) r (follow r (field p r 1)) (follow_le r (field p r 1))

pub second_le : (p : List ℕ) (r : ℕ) → second_link p r ≤ r
unfolding second_link
second_le p r = link_le (is_link (fields_of (op_at p r)).b) r (follow r (field p r 2)) (follow_le r (field p r 2))

-- ---- trees

-- fuel beyond the link does nothing
pub fuel_does_not_matter : (f g : ℕ) (p : List ℕ) (l : ℕ) → l ≤ f → l ≤ g → linked f p l ≡ linked g p l
unfolding linked
fuel_does_not_matter zero zero p l h k = refl
fuel_does_not_matter zero (suc g) p zero h k = refl
fuel_does_not_matter zero (suc g) p (suc r) h k = absurd (omega arith)
fuel_does_not_matter (suc f) zero p zero h k = refl
fuel_does_not_matter (suc f) zero p (suc r) h k = absurd (omega arith)
fuel_does_not_matter (suc f) (suc g) p zero h k = refl
fuel_does_not_matter (suc f) (suc g) p (suc r) h k =
    rw (
      fuel_does_not_matter f g p (first_link p r) (omega (arith, first_le p r)) (omega (arith, first_le p r)),
      fuel_does_not_matter f g p (second_link p r) (omega (arith, second_le p r)) (omega (arith, second_le p r)),
    )

pub tree_zero : (p : List ℕ) → tree p 0 ≡ none
unfolding tree linked
tree_zero p = refl

-- a row's tree is made of its links' trees
pub tree_suc : (p : List ℕ) (r : ℕ) → tree p (suc r) ≡ node (op_at p r) (tree p (first_link p r)) (tree p (second_link p r)) (index_or_axis p r) (test_at p r)
unfolding tree linked
tree_suc p r =
    let a : ℕ = first_link p r in
    let b : ℕ = second_link p r in
    rw (fuel_does_not_matter r a p a (first_le p r) (omega arith), fuel_does_not_matter r b p b (second_le p r) (omega arith))

-- the same of a link that is not 0
pub tree_row : (p : List ℕ) (l : ℕ) → ((l ≡ 0) → ⊥) → tree p l ≡ node (op_at p (l - 1)) (tree p (first_link p (l - 1))) (tree p (second_link p (l - 1))) (index_or_axis p (l - 1)) (test_at p (l - 1))
tree_row p zero h = absurd (h refl)
tree_row p (suc r) h = let e : suc r - 1 ≡ r = omega arith in rw e (tree_suc p r)
