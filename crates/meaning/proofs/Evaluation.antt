-- The meaning of the row that a link names, stated over what code has read of it: `tree_row` is the only unfolding.
-- Assumes nothing.
use Prim.Native.Nat.{ℕ, ◌-◌, ◌<◌}
use mathlib.Core.Path.{◌≡◌, refl, sym, ap, ◌∙◌}
use mathlib.Core.Logic.{inl, inr}
use mathlib.Core.Bool.{Bool, true, false, ◌&&◌, not, true≢false}
use mathlib.Core.List.{List}
use lib.ListN.{length, get_or}
use lib.Dec.{leb, eqb}
use lib.Ieee.{Float}
use native.Mathlib.Omega.{arith}
use borrow.Author.Tests.{lt-leb}
use Rattle.meaning.specs.Lists.{up_to, some}
use Rattle.meaning.specs.Axis.{axis_of, test_of, candidates}
use Rattle.meaning.specs.declared.Axis.{Axis}
use Rattle.meaning.specs.declared.Test.{Test}
use Rattle.meaning.specs.declared.Op.{Op}
use Rattle.meaning.specs.Rows.{code, op_of, op_at, first_link, second_link}
use Rattle.meaning.specs.Tree.{tree, index_or_axis, test_at}
use Rattle.meaning.specs.Meaning.{float, holds, applied, keep_at, start_of, union, value, select, walk, filtered}
use Rattle.meaning.specs.Turning.{over_path}
use Rattle.meaning.specs.declared.Value.{Value}
use Rattle.meaning.specs.declared.Value.TheVariants.{Truth}
use Rattle.meaning.specs.declared.Context.{Context}
use Rattle.meaning.proofs.Bools.{eq_or_ne}
use Rattle.meaning.proofs.Decoding.{agree, op_past, past, NoneOf, none_past}
use Rattle.meaning.proofs.Trees.{tree_zero, tree_row}
use Rattle.meaning.proofs.Applied.{takes_first, takes_second, second_first, operands_no_path, applied_agrees, decides, decided}
use Rattle.meaning.proofs.Marks.{listed, listed_none}

-- ---- rows

module _ (edition : ℕ) (t : List ℕ) (literals : List Float) (p : List ℕ) (l : ℕ) where
  pub value_none : (x : Context) → l ≡ 0 → Truth false ≡ value edition t literals (tree p l) x
  unfolding value
  value_none x e = rw (e, tree_zero p)

  pub filtered_none : (s : List ℕ) → l ≡ 0 → s ≡ filtered edition t literals (tree p l) s
  unfolding filtered
  filtered_none s e = rw (e, tree_zero p)

  pub walk_none : (s : List ℕ) → l ≡ 0 → s ≡ walk edition t literals (tree p l) s
  unfolding walk
  walk_none s e = rw (e, tree_zero p)

  pub select_none : (x : ℕ) (marks : List Bool) → l ≡ 0 → ((y : ℕ) → get_or marks y false ≡ false) → listed t marks ≡ select edition t literals (tree p l) x
  unfolding select
  select_none x marks e h = rw (e, tree_zero p) (listed_none t marks h)

-- what a predicate keeps of a list of k nodes: y at position i
abbrev pub kept_by : ℕ → List ℕ → List Float → List ℕ → ℕ → ℕ → ℕ → ℕ → Bool
kept_by edition t literals p b k y i = holds (value edition t literals (tree p b) (record { node = y; position = float i; size = float k })) (float i)

-- the same from what code computed
pub kept_by_lem : (edition : ℕ) (t : List ℕ) (literals : List Float) (p : List ℕ) (b k y i x : ℕ) (position size : Float) (v : Value) (r q : Bool) → x ≡ y → position ≡ float i → size ≡ float k
    → v ≡ value edition t literals (tree p b) (record { node = x; position = position; size = size }) → r ≡ holds v position → r ≡ q → kept_by edition t literals p b k y i ≡ q
kept_by_lem edition t literals p b k y i x position size v r q e f g u w z = rw (← e, ← f, ← g, ← u, ← w) z

-- the nodes that a step takes one node to
abbrev pub step_to : ℕ → List ℕ → List Float → List ℕ → ℕ → Axis → Test → ℕ → List ℕ
step_to edition t literals p b axis u x = filtered edition t literals (tree p b) (candidates edition t axis u x)

module _ (edition : ℕ) (t : List ℕ) (literals : List Float) (p : List ℕ) (l : ℕ) (some-row : (l ≡ 0) → ⊥) where
  module _ (x : Context) (op : Op) (index : ℕ) (r : Value) (is-op : op ≡ op_at p (l - 1)) (is-index : index ≡ index_or_axis p (l - 1)) where
    -- a value by what its op takes, whatever stands for the rest
    value_by : (u v : Value) (n : ℕ)
        → (takes_first op ≡ true → u ≡ value edition t literals (tree p (first_link p (l - 1))) x)
        → (takes_second op ≡ true → v ≡ value edition t literals (tree p (second_link p (l - 1))) x)
        → (over_path op ≡ true → n ≡ length (select edition t literals (tree p (first_link p (l - 1))) x.node))
        → r ≡ applied literals op index u v n x → r ≡ value edition t literals (tree p l) x
    unfolding value
    value_by u v n f s c e = rw (tree_row p l some-row, ← is-op, ← is-index) (e ∙ applied_agrees literals index u v _ _ n _ x x op f s c (λ _. refl))

    -- an op over a path
    pub value_over_path : (a n : ℕ) (u v : Value) (b : Bool) → b ≡ over_path op → b ≡ true → a ≡ first_link p (l - 1)
        → n ≡ length (select edition t literals (tree p a) x.node) → r ≡ applied literals op index u v n x → r ≡ value edition t literals (tree p l) x
    value_over_path a n u v b e h f g k = value_by u v n
        (λ q. absurd (true≢false (sym (sym e ∙ h) ∙ operands_no_path op q)))
        (λ q. absurd (true≢false (sym (sym e ∙ h) ∙ operands_no_path op (second_first op q))))
        (λ q. rw (← f) g) k

    module _ (over : Bool) (is-over : over ≡ over_path op) (not-over : over ≡ false) (u v : Value) (n : ℕ) (is-r : r ≡ applied literals op index u v n x) where
      -- an op that takes two operands
      pub value_two : (a b : ℕ) → a ≡ first_link p (l - 1) → b ≡ second_link p (l - 1) → u ≡ value edition t literals (tree p a) x → v ≡ value edition t literals (tree p b) x → r ≡ value edition t literals (tree p l) x
      value_two a b e f g h = value_by u v n
          (λ q. rw (← e) g)
          (λ q. rw (← f) h)
          (λ q. absurd (true≢false (sym q ∙ sym is-over ∙ not-over))) is-r

      -- an and or an or that its first operand decides
      pub value_decided : (a : ℕ) (b : Bool) → a ≡ first_link p (l - 1) → u ≡ value edition t literals (tree p a) x → b ≡ decides op u → b ≡ true → r ≡ value edition t literals (tree p l) x
      value_decided a b e g h k = value_by u (value edition t literals (tree p (second_link p (l - 1))) x) n
          (λ q. rw (← e) g)
          (λ q. refl)
          (λ q. absurd (true≢false (sym q ∙ sym is-over ∙ not-over))) (is-r ∙ decided literals index u v (value edition t literals (tree p (second_link p (l - 1))) x) n x op (sym h ∙ k))

      -- an op that takes one
      pub value_one : (a : ℕ) (two : Bool) → two ≡ takes_second op → two ≡ false → a ≡ first_link p (l - 1) → u ≡ value edition t literals (tree p a) x → r ≡ value edition t literals (tree p l) x
      value_one a two is-two not-two e g = value_by u v n
          (λ q. rw (← e) g)
          (λ q. absurd (true≢false (sym q ∙ sym is-two ∙ not-two)))
          (λ q. absurd (true≢false (sym q ∙ sym is-over ∙ not-over))) is-r

      -- an op that takes none
      pub value_leaf : (one : Bool) → one ≡ takes_first op → one ≡ false → r ≡ value edition t literals (tree p l) x
      value_leaf one is_one not-one = value_by u v n
          (λ q. absurd (true≢false (sym q ∙ sym is_one ∙ not-one)))
          (λ q. absurd (true≢false (sym (second_first op q) ∙ sym is_one ∙ not-one)))
          (λ q. absurd (true≢false (sym q ∙ sym is-over ∙ not-over))) is-r

  -- a predicate filters what those before it kept
  pub filtered_row : (a b k : ℕ) (s s' r : List ℕ) → a ≡ first_link p (l - 1) → b ≡ second_link p (l - 1)
      → s' ≡ filtered edition t literals (tree p a) s → length s' ≡ k → r ≡ keep_at (kept_by edition t literals p b k) 1 s' → r ≡ filtered edition t literals (tree p l) s
  unfolding filtered
  filtered_row a b k s s' r e f g n u = rw (tree_row p l some-row, ← e, ← f, ← g, n) u

  -- a step goes on from what those before it reached
  pub walk_row : (a b : ℕ) (axis : Axis) (u : Test) (s s' r : List ℕ) → a ≡ first_link p (l - 1) → b ≡ second_link p (l - 1) → axis ≡ axis_of (index_or_axis p (l - 1)) → u ≡ test_of (test_at p (l - 1))
      → s' ≡ walk edition t literals (tree p a) s → r ≡ union t (step_to edition t literals p b axis u) s' → r ≡ walk edition t literals (tree p l) s
  unfolding walk
  walk_row a b axis u s s' r e f g k h v = rw (tree_row p l some-row, ← e, ← f, ← g, ← k, ← h) v

  -- a path walks its steps from its start
  pub select_row : (x : ℕ) (op : Op) (a : ℕ) (s r : List ℕ) → op ≡ op_at p (l - 1) → a ≡ first_link p (l - 1)
      → s ≡ start_of t op x → r ≡ walk edition t literals (tree p a) s → r ≡ select edition t literals (tree p l) x
  unfolding select
  select_row x op a s r e f g u = rw (tree_row p l some-row, ← e, ← f) (u ∙ ap (λ (s : List ℕ). walk edition t literals (tree p a) s) g)
