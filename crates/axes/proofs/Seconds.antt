-- In an edition a test passes, and a step has for candidates, what the test that it is in edition 2 does (document 02, W-210).
-- Assumes nothing.
use Rattle.std.proofs.Common.{◌≡◌, refl, ap, ℕ, Bool, true, false, ◌||◌, ◌&&◌, cond, List, eqb}
use mathlib.Core.Logic.{inl, inr}
use mathlib.Core.Bool.{and-false}
use borrow.Author.Tests.{ne_eqb}
use Rattle.meaning.specs.Lists.{keep}
use Rattle.meaning.specs.Axis.{axis_nodes, principal, test_of, passes, candidates}
use Rattle.meaning.specs.declared.Axis.{Axis}
use Rattle.meaning.specs.declared.Test.{Test}
use Rattle.meaning.specs.declared.Test.TheVariants.{AnyNode, Star, Text, Comment, Instruction, Named}
use Rattle.meaning.proofs.Bools.{eq_or_ne}
use Rattle.meaning.proofs.Decoding.{test_rest}
use Rattle.meaning.proofs.Editions as E
use Rattle.axes.specs.Second.{in_second}

-- of a test by its number it is the test of the number that the number is in edition 2
pub second_number : (edition n : ℕ) → in_second edition (test_of n) ≡ test_of (E.in_second edition n)
unfolding test_of in_second E.in_second
second_number edition n = elim (eq_or_ne n 1) [
  | inl e ↦ rw e (star (eqb edition 1))
  | inr n1 ↦ rw (ne_eqb n 1 n1, and-false (eqb edition 1)) (elim (eq_or_ne n 0) [
    | inl e ↦ rw e
    | inr n0 ↦ elim (eq_or_ne n 2) [
      | inl e ↦ rw e
      | inr n2 ↦ elim (eq_or_ne n 3) [
        | inl e ↦ rw e
        | inr n3 ↦ elim (eq_or_ne n 4) [
          | inl e ↦ rw e
          | inr n4 ↦ rw (test_rest n n0 n1 n2 n3 n4)
        ]
      ]
    ]
  ])
]
  where
    star : (b : Bool) → cond b AnyNode Star ≡ test_of (cond (b && true) 0 1)
    star true = refl
    star false = refl

module _ (edition : ℕ) (t : List ℕ) where
  pub second_passes : (k : ℕ) (u : Test) (y : ℕ) → passes edition t k u y ≡ passes 2 t k (in_second edition u) y
  unfolding passes in_second
  second_passes k AnyNode y = refl
  second_passes k Star y = star (eqb edition 1)
    where
      star : (b : Bool) → (b || passes 2 t k Star y) ≡ passes 2 t k (cond b AnyNode Star) y
      star true = refl
      star false = refl
  second_passes k Text y = refl
  second_passes k Comment y = refl
  second_passes k Instruction y = refl
  second_passes k (Named name) y = refl

  pub second_candidates : (a : Axis) (u : Test) (x : ℕ) → candidates edition t a u x ≡ candidates 2 t a (in_second edition u) x
  unfolding candidates
  second_candidates a u x = ap (λ (p : ℕ → Bool). keep p (axis_nodes t a x)) (λ i y. second_passes (principal a) u y i)
