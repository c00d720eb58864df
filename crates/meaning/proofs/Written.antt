-- Rows stored piece by piece are the rows of the tree: a run of stores behind a run of stores is one run, so what was written of a row's
-- links and then the row itself is what the row's tree writes.
-- Assumes nothing.
use Prim.Native.Nat.{ℕ, suc, ◌+◌, ◌-◌, ◌*◌, ◌<◌, ◌≤◌}
use mathlib.Core.Path.{◌≡◌, refl, sym, ap, ◌∙◌}
use mathlib.Core.Logic.{inl, inr}
use mathlib.Core.Bool.{cond}
use mathlib.Core.List.{List, [], ◌∷◌, ◌++◌}
use lib.Dec.{eqb}
use lib.ListN.{length, drop, set, get_or-eq_default}
use lib.Seq.{sets, sets-eq}
use native.Mathlib.Omega.{arith}
use borrow.Author.Tests.{eq-eqb, ne_eqb}
use Rattle.meaning.specs.Rows.{code, op_of, op_at, field, is_literal, first_link, second_link}
use Rattle.meaning.specs.Tree.{tree, index_or_axis, test_at}
use Rattle.meaning.specs.Turning.{inverses, inverse_of, predicates, test, weight, link, row, written}
use Rattle.meaning.proofs.Bools.{eq_or_ne}
use Rattle.meaning.proofs.Decoding.{past, NoneOf, none_past, op_past, code_of}
use Rattle.meaning.proofs.Trees.{tree_zero, tree_row}
use Rattle.meaning.proofs.ReadBack.{length_written}

-- ---- stores

-- a run of stores behind a run of stores
pub sets_append : (xs ys l : List ℕ) (i : ℕ) → sets l i (xs ++ ys) ≡ sets (sets l i xs) (i + length xs) ys
sets_append [] ys l i = let e : i ≡ i + 0 = omega arith in ap (λ (k : ℕ). sets l k ys) e
sets_append (x ∷ xs) ys l i =
    let e : suc i + length xs ≡ i + suc (length xs) = omega arith in
    sets_append xs ys (set l i x) (suc i) ∙ ap (λ (k : ℕ). sets (sets (set l i x) (suc i) xs) k ys) e

-- the same where it is known where the second begins
pub sets_behind : (xs ys l m : List ℕ) (i j : ℕ) → m ≡ sets l i xs → i + length xs ≡ j → sets m j ys ≡ sets l i (xs ++ ys)
sets_behind xs ys l m i j e f = rw (e, ← f) (sym (sets_append xs ys l i))

-- five stores one behind the other
pub five_stores : (l x₁ x₂ x₃ x₄ x₅ : List ℕ) (i a b c d e : ℕ)
    → x₁ ≡ set l i a → x₂ ≡ set x₁ (i + 1) b → x₃ ≡ set x₂ (i + 2) c → x₄ ≡ set x₃ (i + 3) d → x₅ ≡ set x₄ (i + 4) e
    → x₅ ≡ sets l i (a ∷ b ∷ c ∷ d ∷ e ∷ [])
five_stores l x₁ x₂ x₃ x₄ x₅ i a b c d e h₁ h₂ h₃ h₄ h₅ =
    let e₁ : i + 1 ≡ suc i = omega arith in
    let e₂ : i + 2 ≡ suc (suc i) = omega arith in
    let e₃ : i + 3 ≡ suc (suc (suc i)) = omega arith in
    let e₄ : i + 4 ≡ suc (suc (suc (suc i))) = omega arith in
    rw (h₅, h₄, h₃, h₂, h₁, e₁, e₂, e₃, e₄)

-- stores from the front on leave what was stored at the front
pub sets_front : (xs l : List ℕ) → length xs ≤ length l → sets l 0 xs ≡ xs ++ drop (length xs) l
sets_front xs l h = let z : 0 + length xs ≤ length l = omega arith in let e : 0 + length xs ≡ length xs = omega arith in rw e at (sets-eq xs l 0 z)

-- ---- inverse axes

-- ---- a row

module _ (p : List ℕ) (r n k a b c d : ℕ) (is-op : n ≡ field p r 0) (is_Known : k ≡ code (op_of n)) (is_c : c ≡ index_or_axis p r) (is-d : d ≡ test_at p r) where
  -- the five numbers of a literal's row, and of any other
  pub literal_row : k ≡ 1 → (k ∷ c ∷ b ∷ 0 ∷ d ∷ []) ≡ row (op_at p r) a b (index_or_axis p r) (test_at p r)
  unfolding row is_literal
  literal_row e = rw (← is-op, ← is_Known, ← is_c, ← is-d, eq-eqb k 1 e)

  pub other_row : (k ≡ 1 → ⊥) → (k ∷ a ∷ b ∷ c ∷ d ∷ []) ≡ row (op_at p r) a b (index_or_axis p r) (test_at p r)
  unfolding row is_literal
  other_row f = rw (← is-op, ← is_Known, ← is_c, ← is-d, ne_eqb k 1 f)

-- ---- what a link stands for

-- a row number plus one, none where the tree is none
pub link_from : (p : List ℕ) (l n m : ℕ) → m ≡ n + weight (tree p l) → cond (eqb l 0) 0 m ≡ link n (tree p l)
unfolding link weight
link_from p l n m e = elim (eq_or_ne l 0) [
  | inl z ↦ rw (z, tree_zero p)
  | inr f ↦ rw (ne_eqb l 0 f, e, tree_row p l f)
]

module _ (p : List ℕ) (l : ℕ) where
  -- a row's tree has the rows of its links' trees and one more
  pub weight_row : (l ≡ 0 → ⊥) → (a b : ℕ) → a ≡ first_link p (l - 1) → b ≡ second_link p (l - 1) → weight (tree p l) ≡ weight (tree p a) + weight (tree p b) + 1
  unfolding weight
  weight_row h a b is-a is_b = rw (tree_row p l h, ← is-a, ← is_b)

  -- no link stands for no rows
  pub write_none : (out : List ℕ) (at : ℕ) → l ≡ 0 → (at ≡ at + weight (tree p l)) × (out ≡ sets out (5 * at) (written at (tree p l)))
  unfolding weight written
  write_none out at e = rw (e, tree_zero p) (omega arith, refl)

  -- the whole of a, the whole of b, then the row itself
  pub write_row : (l ≡ 0 → ⊥) → (a b : ℕ) → a ≡ first_link p (l - 1) → b ≡ second_link p (l - 1) → (at m q u v : ℕ) (out x y z : List ℕ)
      → (m ≡ at + weight (tree p a)) × (x ≡ sets out (5 * at) (written at (tree p a)))
      → (q ≡ m + weight (tree p b)) × (y ≡ sets x (5 * m) (written m (tree p b)))
      → u ≡ cond (eqb a 0) 0 m → v ≡ cond (eqb b 0) 0 q
      → z ≡ sets y (5 * q) (row (op_at p (l - 1)) u v (index_or_axis p (l - 1)) (test_at p (l - 1)))
      → (q + 1 ≡ at + weight (tree p l)) × (z ≡ sets out (5 * at) (written at (tree p l)))
  unfolding weight written
  write_row h a b is-a is_b at m q u v out x y z f g i j k =
      let A : List ℕ = written at (tree p a) in
      let B : List ℕ = written m (tree p b) in
      let R : List ℕ = row (op_at p (l - 1)) u v (index_or_axis p (l - 1)) (test_at p (l - 1)) in
      let la : u ≡ link at (tree p a) = i ∙ link_from p a at m f.0 in
      let lb : v ≡ link m (tree p b) = j ∙ link_from p b m q g.0 in
      rw (tree_row p l h, ← is-a, ← is_b, ← f.0, ← la, ← lb) (
        omega arith,
        k
            ∙ sets_behind B R x y (5 * m) (5 * q) g.1 (omega (arith, length_written m (tree p b)))
            ∙ sets_behind A (B ++ R) out x (5 * at) (5 * m) f.1 (omega (arith, length_written at (tree p a))),
      )

  -- the predicates and the test of a chain's last step
  pub no_predicates : l ≡ 0 → tree p 0 ≡ predicates (tree p l)
  unfolding predicates
  no_predicates e = rw (e, tree_zero p)

  pub no_test : l ≡ 0 → 0 ≡ test (tree p l)
  unfolding test
  no_test e = rw (e, tree_zero p)
