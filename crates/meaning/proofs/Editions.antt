-- The two editions (document 02, W-210): edition 1 is edition 2 with every `*` read as node(). Of a test's number, of a step's candidates and
-- of whole paths; on the attribute axis `*` matches any attribute in both. Numbers other than 1 mean what 2 means, and evaluation refuses
-- them.
-- Assumes nothing.
use Prim.Native.Nat.{ℕ}
use mathlib.Core.Path.{◌≡◌, refl, ap, ◌∙◌}
use mathlib.Core.Logic.{inl, inr}
use mathlib.Core.Bool.{Bool, true, false, ◌&&◌, ◌||◌, cond, and-true, and-false}
use mathlib.Core.List.{List}
use lib.ListN.{length}
use lib.Dec.{eqb}
use lib.Ieee.{Float}
use borrow.Author.Tests.{ne_eqb}
use Rattle.meaning.specs.Lists.{keep}
use Rattle.meaning.specs.Table.{rows, is_attribute}
use Rattle.meaning.specs.Axis.{axis_of, under, on, is_reverse, ordered, axis_nodes, principal, test_of, passes, candidates}
use Rattle.meaning.specs.declared.Axis.{Axis}
use Rattle.meaning.specs.declared.Axis.TheVariants.{Attribute}
use Rattle.meaning.specs.declared.Test.TheVariants.{Star}
use Rattle.meaning.specs.Tree.{Tree, none, node}
use Rattle.meaning.specs.Meaning.{float, holds, keep_at, start_of, union, value, select, walk, filtered}
use Rattle.meaning.specs.declared.Context.{Context}
use Rattle.meaning.proofs.Bools.{eq_or_ne}
use Rattle.meaning.proofs.Lists.{keep_keep}
use Rattle.meaning.proofs.Decoding.{test_rest}

-- the number of the test that says in edition 2 what test n says in an edition: 0, node(), for the `*` of edition 1
unfoldable pub in_second : ℕ → ℕ → ℕ
in_second edition n = cond (eqb edition 1 && eqb n 1) 0 n

-- the tree of a path with that test at every step
unfoldable pub read_in_second : ℕ → Tree → Tree
read_in_second edition none = none
read_in_second edition (node op a b c d) = node op (read_in_second edition a) (read_in_second edition b) c (in_second edition d)

module _ (edition : ℕ) (t : List ℕ) where
  -- a node passes the one where it passes the other
  pub second_passes : (k n y : ℕ) → passes edition t k (test_of n) y ≡ passes 2 t k (test_of (in_second edition n)) y
  unfolding passes test_of in_second
  second_passes k n y = elim (eq_or_ne n 1) [
    | inl e ↦ rw e (star (eqb edition 1))
    | inr n1 ↦ rw (ne_eqb n 1 n1, and-false (eqb edition 1)) (elim (eq_or_ne n 0) [
      | inl e ↦ rw e
      | inr n0 ↦ elim (eq_or_ne n 2) [
        | inl e ↦ rw e
        | inr n2 ↦ elim (eq_or_ne n 3) [
          | inl e ↦ rw e
          | inr n3 ↦ elim (eq_or_ne n 4) [
            | inl e ↦ rw e
            | inr n4 ↦ rw (test_rest n n0 n1 n2 n3 n4)
          ]
        ]
      ]
    ])
  ]
    where
      star : (b : Bool) → (b || passes 2 t k (test_of 1) y) ≡ passes 2 t k (test_of (cond (b && true) 0 1)) y
      star true = refl
      star false = refl

  -- so a step has the same candidates
  pub second_candidates : (a : Axis) (n x : ℕ) → candidates edition t a (test_of n) x ≡ candidates 2 t a (test_of (in_second edition n)) x
  unfolding candidates
  second_candidates a n x = ap (λ (p : ℕ → Bool). keep p (axis_nodes t a x)) (λ i y. second_passes (principal a) n y i)

  -- on the attribute axis `*` matches any attribute, whatever the edition
  pub star_attributes : (x : ℕ) → candidates edition t Attribute Star x ≡ axis_nodes t Attribute x
  unfolding candidates axis_nodes on principal passes
  star_attributes x =
      let l : List ℕ = ordered (is_reverse Attribute) (rows t) in
      keep_keep (on t Attribute x) (passes edition t 5 Star) l
      ∙ ap (λ (p : ℕ → Bool). keep p l) (λ i y. twice (under t x y) (is_attribute t y) (eqb edition 1) i)
    where
      twice : (u a e : Bool) → ((u && a) && (e || a)) ≡ (u && a)
      twice u true true = and-true (u && true)
      twice u true false = and-true (u && true)
      twice u false e = rw (and-false u)

module _ (edition : ℕ) (t : List ℕ) (literals : List Float) where
  mutual
    unfolding value read_in_second

    -- and a path selects the same nodes, for its expressions have the same values, its steps lead to the same nodes and its predicates keep
    -- the same
    second_value : (s : Tree) (x : Context) → value edition t literals s x ≡ value 2 t literals (read_in_second edition s) x
    second_value none x = refl
    second_value (node op a b c d) x = rw (second_value a x, second_value b x, second_select a x.node)

    pub second_select : (s : Tree) (x : ℕ) → select edition t literals s x ≡ select 2 t literals (read_in_second edition s) x
    second_select none x = refl
    second_select (node op a b c d) x = second_walk a (start_of t op x)

    second_walk : (s : Tree) (set : List ℕ) → walk edition t literals s set ≡ walk 2 t literals (read_in_second edition s) set
    second_walk none set = refl
    second_walk (node op a b c d) set =
        rw (second_walk a set)
        (ap (λ (step : ℕ → List ℕ). union t step (walk 2 t literals (read_in_second edition a) set))
        (λ i x. (second_filtered b (candidates edition t (axis_of c) (test_of d) x) ∙ ap (filtered 2 t literals (read_in_second edition b)) (second_candidates edition t (axis_of c) d x)) i))

    second_filtered : (s : Tree) (l : List ℕ) → filtered edition t literals s l ≡ filtered 2 t literals (read_in_second edition s) l
    second_filtered none l = refl
    second_filtered (node op a b c d) l =
        rw (second_filtered a l)
        (ap (λ (f : ℕ → ℕ → Bool). keep_at f 1 (filtered 2 t literals (read_in_second edition a) l))
        (λ i y j. holds (second_value b (record { node = y; position = float j; size = float (length (filtered 2 t literals (read_in_second edition a) l)) }) i) (float j)))
