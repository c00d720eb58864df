-- Laws of the axes, with the axis as a parameter: the inverse-axis law, and ancestors by the chain of parents.
-- Assumes nothing.
use Prim.Native.Nat.{ℕ, zero, suc, ◌<◌, ◌≤◌}
use mathlib.Core.Path.{◌≡◌, refl, sym, subst, ◌∙◌}
use mathlib.Core.Logic.{inl, inr}
use mathlib.Core.Bool.{Bool, true, false, ◌&&◌, ◌||◌, and-true}
use mathlib.Core.List.{List}
use borrow.Author.Tests.{lt-ltb}
use lib.Dec.{T, leb, ltb, eqb, ltb→lt, leb→le, eqb→eq, lt→ltb, le→leb}
use native.Mathlib.Omega.{arith}
use native.Mathlib.Nat.{eq-or-lt_of_le}
use Rattle.meaning.specs.Table.{parent_of, rows, end, accepted}
use Rattle.meaning.specs.Axis.{under, inside, on, principal}
use Rattle.meaning.specs.declared.Axis.{Axis}
use Rattle.meaning.specs.declared.Axis.TheVariants.{Ancestor, AncestorOrSelf, Attribute, Child, Descendant, DescendantOrSelf, Following, FollowingSibling, Itself, Parent, Preceding, PrecedingSibling}
use Rattle.meaning.proofs.Bools.{and_l, and_r, and_i, or_e, or_i_l, or_i_r, eqb_sym, eq→eqb, same, lt_or_ge}
use Rattle.meaning.proofs.Tables.{Plain, ChildRow, child, nest}
use Rattle.meaning.proofs.Places.{placed, placed_on}

-- the inverse of an axis; attribute has none
unfoldable pub inverse : Axis → Axis
inverse Itself = Itself
inverse Child = Parent
inverse Parent = Child
inverse Descendant = Ancestor
inverse Ancestor = Descendant
inverse DescendantOrSelf = AncestorOrSelf
inverse AncestorOrSelf = DescendantOrSelf
inverse Following = Preceding
inverse Preceding = Following
inverse FollowingSibling = PrecedingSibling
inverse PrecedingSibling = FollowingSibling
inverse Attribute = Itself

-- of two nodes that are no attributes one has a place on an axis of the other, which is not the attribute axis, exactly if the other has one
-- on the inverse axis of it
pub inverse_axis : (t : List ℕ) (a : Axis) → principal a ≡ 1 → (x y : ℕ) → Plain t x → Plain t y → placed t a x y ≡ placed t (inverse a) y x
unfolding on inverse principal
inverse_axis t a usual x y h k = rw (placed_on t a x y k.0, placed_on t (inverse a) y x h.0) (by a usual)
  where
    by : (a : Axis) → principal a ≡ 1 → on t a x y ≡ on t (inverse a) y x
    by Itself e = eqb_sym x y
    by Child e = rw k.1 (and-true (under t x y))
    by Parent e = rw h.1 (sym (and-true (under t y x)))
    by Descendant e = rw k.1 (and-true (inside t x y))
    by Ancestor e = rw h.1 (sym (and-true (inside t y x)))
    by DescendantOrSelf e = rw (eqb_sym x y, k.1, and-true (inside t x y))
    by AncestorOrSelf e = rw (eqb_sym x y, h.1, and-true (inside t y x))
    by Following e = rw (h.1, k.1)
    by Preceding e = rw (h.1, k.1)
    by FollowingSibling e = refl
    by PrecedingSibling e = refl
    by Attribute e = absurd (omega arith)

-- is y the parent of x, or its parent's parent, and so on, k steps at most?
unfoldable pub above : List ℕ → ℕ → ℕ → ℕ → Bool
above t zero x y = false
above t (suc k) x y = on t Parent x y || (ltb 0 x && above t k (parent_of t x) y)

module _ (t : List ℕ) (acc : accepted t ≡ true) where
  -- a node's ancestors are its parent and its parent's ancestors
  ancestor_step : (x y : ℕ) → 0 < x → x < rows t → on t Ancestor x y ≡ (on t Parent x y || on t Ancestor (parent_of t x) y)
  unfolding on under inside
  ancestor_step x y p h = same (on t Ancestor x y) (on t Parent x y || on t Ancestor (parent_of t x) y)
      (λ k.
      let a : y < x = ltb→lt y x (and_l (ltb y x) (leb x (end t y)) k) in
      let b : x ≤ end t y = leb→le x (end t y) (and_r (ltb y x) (leb x (end t y)) k) in
      elim (eq-or-lt_of_le (c.largest y a b)) [
        | inl e ↦ or_i_l (on t Parent x y) (on t Ancestor (parent_of t x) y) (and_i (ltb 0 x) (eqb (parent_of t x) y) (lt→ltb 0 x p) (eq→eqb (parent_of t x) y (sym e)))
        | inr l ↦ or_i_r (on t Parent x y) (on t Ancestor (parent_of t x) y) (and_i (ltb y (parent_of t x)) (leb (parent_of t x) (end t y)) (lt→ltb y (parent_of t x) l) (le→leb (parent_of t x) (end t y) (omega (arith, c.below))))
      ])
      (λ k. or_e (on t Parent x y) (on t Ancestor (parent_of t x) y) k
      (λ m.
      let e : parent_of t x ≡ y = eqb→eq (parent_of t x) y (and_r (ltb 0 x) (eqb (parent_of t x) y) m) in
      subst (λ (z : ℕ). T (ltb z x && leb x (end t z))) e (and_i (ltb (parent_of t x) x) (leb x (end t (parent_of t x))) (lt→ltb (parent_of t x) x c.below) (le→leb x (end t (parent_of t x)) c.reached)))
      (λ m.
      let a : y < parent_of t x = ltb→lt y (parent_of t x) (and_l (ltb y (parent_of t x)) (leb (parent_of t x) (end t y)) m) in
      let b : parent_of t x ≤ end t y = leb→le (parent_of t x) (end t y) (and_r (ltb y (parent_of t x)) (leb (parent_of t x) (end t y)) m) in
      let n : end t (parent_of t x) ≤ end t y = nest t acc y (parent_of t x) (omega (arith, c.below)) a b in
      and_i (ltb y x) (leb x (end t y)) (lt→ltb y x (omega (arith, c.below))) (le→leb x (end t y) (omega (arith, c.reached)))))
    where
      c : ChildRow t x
      c = child t acc x p h

  root_alone : (k y : ℕ) → on t Ancestor 0 y ≡ above t k 0 y
  unfolding on under inside above
  root_alone zero y = same (ltb y 0 && leb 0 (end t y)) false (λ h. absurd (omega (arith, ltb→lt y 0 (and_l (ltb y 0) (leb 0 (end t y)) h)))) (λ h. absurd h)
  root_alone (suc k) y = same (ltb y 0 && leb 0 (end t y)) false (λ h. absurd (omega (arith, ltb→lt y 0 (and_l (ltb y 0) (leb 0 (end t y)) h)))) (λ h. absurd h)

  -- ancestor by `end` agrees with the chain of parents
  pub ancestors_are_above : (k x y : ℕ) → x ≤ k → x < rows t → on t Ancestor x y ≡ above t k x y
  unfolding above
  ancestors_are_above zero x y h l = let e : x ≡ 0 = omega arith in rw e (root_alone 0 y)
  ancestors_are_above (suc k) x y h l = elim (lt_or_ge 0 x) [
    | inr z ↦ let e : x ≡ 0 = omega arith in rw e (root_alone (suc k) y)
    | inl p ↦
        let b : parent_of t x < x = (child t acc x p l).below in
        ancestor_step x y p l ∙ rw (lt-ltb 0 x p, ancestors_are_above k (parent_of t x) y (omega arith) (omega arith))
  ]
