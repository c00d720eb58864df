-- Whether a path whose steps do not count selects anything, for every node at once: backwards, from the nodes that fit its last
-- step to those that have one of them on its axis. What holds somewhere in a union holds, one step earlier, from some node of the set: two
-- quantifiers are exchanged at each step, by induction over the chain. Then the truths that narrow a set, by their op.
-- Assumes nothing.
use Prim.Native.Nat.{ℕ, ◌-◌, ◌<◌}
use mathlib.Core.Path.{◌≡◌, refl, sym, ap, ◌∙◌}
use mathlib.Core.Bool.{Bool, true, false, ◌&&◌, ◌||◌, not, cond, and-true, and-false, and_comm}
use mathlib.Core.List.{List, [], ◌∷◌}
use lib.ListN.{length}
use lib.Dec.{ltb, eqb}
use lib.Ieee.{Float}
use native.Mathlib.Omega.{arith}
use borrow.Author.Tests.{lt-ltb, ne_eqb}
use Rattle.meaning.specs.Lists.{keep, some, up_to}
use Rattle.meaning.specs.Table.{rows}
use Rattle.meaning.specs.Axis.{axis_of, test_of, on, principal}
use Rattle.meaning.specs.declared.Op.{Op}
use Rattle.meaning.specs.declared.Axis.{Axis}
use Rattle.meaning.specs.declared.Test.{Test}
use Rattle.meaning.specs.declared.Op.TheVariants.{Absolute, And, Exists, Negation, Or}
use Rattle.meaning.specs.Rows.{code, op_of, op_at, first_link, second_link}
use Rattle.meaning.specs.Tree.{Tree, none, node, tree, index_or_axis, test_at}
use Rattle.meaning.specs.Meaning.{applied, is_absolute, start_of, value, select, walk}
use Rattle.meaning.specs.Turning.{counting, counts, some_step}
use Rattle.meaning.proofs.Bools.{or_none_l, or_none_r}
use Rattle.meaning.proofs.Lists.{some_same}
use Rattle.meaning.proofs.Ops.{op_code}
use Rattle.meaning.proofs.Trees.{tree_zero, tree_row}
use Rattle.meaning.proofs.Windows.{some_below, some_or, some_and, some_keep, some_one}
use Rattle.meaning.proofs.Free.{true_at, ok, fits, free_walk}
use Rattle.meaning.proofs.Places.{placed, placed_on}

some_none : (l : List ℕ) → some (λ y. false) l ≡ false
unfolding some
some_none [] = refl
some_none (x ∷ xs) = some_none xs

some_all : (l : List ℕ) → some (λ y. true) l ≡ ltb 0 (length l)
unfolding some
some_all [] = refl
some_all (x ∷ xs) = sym (lt-ltb 0 (length (x ∷ xs)) (omega arith))

-- some x and some y, in either order
some_swap : (f : ℕ → ℕ → Bool) (l m : List ℕ) → some (λ x. some (f x) m) l ≡ some (λ y. some (λ x. f x y) l) m
unfolding some
some_swap f [] m = sym (some_none m)
some_swap f (x ∷ xs) m = rw (some_swap f xs m) (sym (some_or (f x) (λ y. some (λ x. f x y) xs) m))

shuffle : (o f g : Bool) → ((o && f) && g) ≡ ((g && f) && o)
shuffle true f g = rw (and-true (g && f)) (and_comm f g)
shuffle false f g = sym (and-false (g && f))

module _ (edition : ℕ) (t : List ℕ) (literals : List Float) where
  -- the nodes from which one step leads to a good node
  unfoldable pub before : Axis → Test → Tree → (ℕ → Bool) → ℕ → Bool
  before axis u e good w = some (λ z. (good z && fits edition t literals (principal axis) u e z) && on t axis w z) (up_to (rows t))

  -- the nodes from which a chain of steps leads to a good node
  unfoldable pub backs : Tree → (ℕ → Bool) → ℕ → Bool
  backs none good = good
  backs (node op a b c d) good = backs a (before (axis_of c) (test_of d) b good)

  -- a chain whose steps do not count leads from a set to some good node exactly if some node of the set is led back to
  pub walk_back : (s : Tree) → counts s ≡ false → (good : ℕ → Bool) (set : List ℕ) → some good (walk edition t literals s set) ≡ some (backs s good) set
  unfolding walk backs some_step before
  walk_back none h good set = refl
  walk_back (node op a b c d) h good set =
      let w : List ℕ = walk edition t literals a set in
      let f : ℕ → Bool = fits edition t literals (principal (axis_of c)) (test_of d) b in
      let o : ℕ → ℕ → Bool = placed t (axis_of c) in
      ap (some good) (free_walk edition t literals op a b c d set (or_none_r (counts a) (counting b) h))
      ∙ some_keep good (λ y. some (λ x. o x y && f y) w) (up_to (rows t))
      ∙ some_same (λ y. some (λ x. o x y && f y) w && good y) (λ y. some (λ x. (o x y && f y) && good y) w) (up_to (rows t)) (λ y. sym (some_and (λ x. o x y && f y) (good y) w))
      ∙ some_swap (λ y x. (o x y && f y) && good y) (up_to (rows t)) w
      ∙ some_same (λ x. some (λ y. (o x y && f y) && good y) (up_to (rows t))) (before (axis_of c) (test_of d) b good) w
      (λ x. some_below (λ y. (o x y && f y) && good y) (λ y. (good y && f y) && on t (axis_of c) x y) (rows t)
      (λ y k. rw (placed_on t (axis_of c) x y k) (shuffle (on t (axis_of c) x y) (f y) (good y))))
      ∙ walk_back a (or_none_l (counts a) (counting b) h) (before (axis_of c) (test_of d) b good) set

  -- a relative path whose steps do not count selects something from y exactly when y is reached back from all nodes
  pub exists_back : (s : Tree) → counts s ≡ false → (op : Op) (b : Tree) (c d : ℕ) → is_absolute op ≡ false → (y : ℕ) → y < rows t → ltb 0 (length (select edition t literals (node op s b c d) y)) ≡ backs s (λ z. true) y
  unfolding select start_of
  exists_back s h op b c d relative y l =
      let start : List ℕ = keep (eqb y) (up_to (rows t)) in
      rw relative
      (sym (some_all (walk edition t literals s start))
      ∙ walk_back s h (λ z. true) start
      ∙ some_one (backs s (λ z. true)) (rows t) y l)

  -- one step back from the good nodes that fit
  pub before_by : (axis : Axis) (u : Test) (e : Tree) (good fit : ℕ → Bool) → ((z : ℕ) → z < rows t → fit z ≡ (good z && fits edition t literals (principal axis) u e z)) → (w : ℕ) → some (λ z. fit z && on t axis w z) (up_to (rows t)) ≡ before axis u e good w
  unfolding before
  before_by axis u e good fit h w = some_below _ _ (rows t) (λ z l. rw (h z l))

  -- an absolute path selects the same from every node
  pub absolute_anywhere : (op : Op) (s b : Tree) (c d : ℕ) → is_absolute op ≡ true → (x y : ℕ) → select edition t literals (node op s b c d) x ≡ select edition t literals (node op s b c d) y
  unfolding select start_of
  absolute_anywhere op s b c d absolute x y = rw absolute

  -- ---- truths by their op

  module _ (a b : Tree) (c d y : ℕ) where
    -- and, or, not: by their operands; existence: by what the path selects
    pub true_and : true_at edition t literals (node And a b c d) y ≡ (true_at edition t literals a y && true_at edition t literals b y)
    unfolding value applied
    true_and = refl

    pub true_or : true_at edition t literals (node Or a b c d) y ≡ (true_at edition t literals a y || true_at edition t literals b y)
    unfolding value applied
    true_or = refl

    pub true_not : true_at edition t literals (node Negation a b c d) y ≡ not (true_at edition t literals a y)
    unfolding value applied
    true_not = refl

    pub true_exists : true_at edition t literals (node Exists a b c d) y ≡ ltb 0 (length (select edition t literals a y))
    unfolding value applied
    true_exists = refl

-- only Absolute is absolute
pub not_absolute : (op : Op) → (op ≡ Absolute → ⊥) → is_absolute op ≡ false
unfolding is_absolute
not_absolute op q = ne_eqb (code op) 23 (λ e. q (sym (op_code op) ∙ rw e (unfold op_of in refl)))

-- ---- rows, stated over what code has read of them

module _ (edition : ℕ) (t : List ℕ) (literals : List Float) (p : List ℕ) (l : ℕ) where
  -- no predicates: all hold
  pub ok_none : (y : ℕ) → l ≡ 0 → true ≡ ok edition t literals (tree p l) y
  unfolding ok
  ok_none y e = rw (e, tree_zero p)

  module _ (some-row : (l ≡ 0) → ⊥) (a : ℕ) (is-first : a ≡ first_link p (l - 1)) where
    module _ (b : ℕ) (is-second : b ≡ second_link p (l - 1)) where
      -- a predicate: those before it, and its own truth
      pub ok_row : (y : ℕ) → (ok edition t literals (tree p a) y && true_at edition t literals (tree p b) y) ≡ ok edition t literals (tree p l) y
      unfolding ok
      ok_row y = rw (tree_row p l some-row, ← is-first, ← is-second)

    module _ (op : Op) (is-op : op ≡ op_at p (l - 1)) where
      module _ (b : ℕ) (is-second : b ≡ second_link p (l - 1)) where
        -- and, or, not, existence: the same of rows
        pub and_row : op ≡ And → (y : ℕ) → (true_at edition t literals (tree p a) y && true_at edition t literals (tree p b) y) ≡ true_at edition t literals (tree p l) y
        and_row e y = rw (tree_row p l some-row, ← is-first, ← is-second, ← is-op, e) (sym (true_and edition t literals (tree p a) (tree p b) (index_or_axis p (l - 1)) (test_at p (l - 1)) y))

        pub or_row : op ≡ Or → (y : ℕ) → (true_at edition t literals (tree p a) y || true_at edition t literals (tree p b) y) ≡ true_at edition t literals (tree p l) y
        or_row e y = rw (tree_row p l some-row, ← is-first, ← is-second, ← is-op, e) (sym (true_or edition t literals (tree p a) (tree p b) (index_or_axis p (l - 1)) (test_at p (l - 1)) y))

        -- the two under one head: an or where any, else an and
        pub pair_row : (any : Bool) → op ≡ cond any Or And → (y : ℕ) → cond any (true_at edition t literals (tree p a) y || true_at edition t literals (tree p b) y) (true_at edition t literals (tree p a) y && true_at edition t literals (tree p b) y) ≡ true_at edition t literals (tree p l) y
        pair_row true e y = or_row e y
        pair_row false e y = and_row e y

      pub not_row : op ≡ Negation → (y : ℕ) → not (true_at edition t literals (tree p a) y) ≡ true_at edition t literals (tree p l) y
      not_row e y = rw (tree_row p l some-row, ← is-first, ← is-op, e) (sym (true_not edition t literals (tree p a) (tree p (second_link p (l - 1))) (index_or_axis p (l - 1)) (test_at p (l - 1)) y))

      pub exists_row : op ≡ Exists → (y : ℕ) → ltb 0 (length (select edition t literals (tree p a) y)) ≡ true_at edition t literals (tree p l) y
      exists_row e y = rw (tree_row p l some-row, ← is-first, ← is-op, e) (sym (true_exists edition t literals (tree p a) (tree p (second_link p (l - 1))) (index_or_axis p (l - 1)) (test_at p (l - 1)) y))

      -- a relative path whose steps do not count
      pub relative_row : (op ≡ Absolute → ⊥) → counts (tree p a) ≡ false → (y : ℕ) → y < rows t → backs edition t literals (tree p a) (λ z. true) y ≡ ltb 0 (length (select edition t literals (tree p l) y))
      relative_row q free y k =
          let relative : is_absolute op ≡ false = not_absolute op q in
          rw (tree_row p l some-row, ← is-first, ← is-op) (sym (exists_back edition t literals (tree p a) free op (tree p (second_link p (l - 1))) (index_or_axis p (l - 1)) (test_at p (l - 1)) relative y k))

      -- an absolute path
      pub absolute_row : op ≡ Absolute → (x y : ℕ) → select edition t literals (tree p l) x ≡ select edition t literals (tree p l) y
      absolute_row e x y =
          let absolute : is_absolute op ≡ true = rw e (unfold is_absolute code in refl) in
          rw (tree_row p l some-row, ← is-op) (absolute_anywhere edition t literals op (tree p (first_link p (l - 1))) (tree p (second_link p (l - 1))) (index_or_axis p (l - 1)) (test_at p (l - 1)) absolute x y)
