-- The existence of a relative path decided backwards over nodes that are near alone, where near covers all that its chain of
-- steps may come by from the nodes in question, by its axes and tests: for those nodes this is the same as backwards over all
-- nodes. By induction over the chain: a node that one step leads back from, to a node that the steps before it may reach, is
-- itself one that they and the step may reach, so it is near.
-- Assumes nothing.
use Prim.Native.Nat.{ℕ, ◌-◌, ◌<◌}
use mathlib.Core.Path.{◌≡◌, refl, sym, ◌∙◌}
use mathlib.Core.Bool.{Bool, true, false, ◌&&◌, and-true, and-false}
use mathlib.Core.List.{List}
use lib.Ieee.{Float}
use Rattle.meaning.specs.Lists.{some, up_to}
use Rattle.meaning.specs.Table.{rows}
use Rattle.meaning.specs.Axis.{axis_of, test_of, on, principal, passes}
use Rattle.meaning.specs.declared.Axis.{Axis}
use Rattle.meaning.specs.declared.Test.{Test}
use Rattle.meaning.specs.declared.Op.{Op}
use Rattle.meaning.specs.Rows.{first_link, second_link}
use Rattle.meaning.specs.Tree.{Tree, none, node, tree, index_or_axis, test_at}
use Rattle.meaning.proofs.Bools.{truly, is_true}
use Rattle.meaning.proofs.Lists.{some_from, has_up_to_from}
use Rattle.meaning.proofs.Trees.{tree_zero, tree_row}
use Rattle.meaning.proofs.Windows.{some_below}
use Rattle.meaning.proofs.Free.{ok}
use Rattle.meaning.proofs.Backward.{before, backs}

-- ---- what a chain may come by

module _ (edition : ℕ) (t : List ℕ) where
  -- what a chain of steps may reach from a set by its axes and tests, whatever its predicates say
  unfoldable pub ahead : Tree → (ℕ → Bool) → ℕ → Bool
  ahead none from y = from y
  ahead (node op a b c d) from y = some (λ x. ahead a from x && on t (axis_of c) x y) (up_to (rows t)) && passes edition t (principal (axis_of c)) (test_of d) y

  -- every node that a chain may come by is near
  unfoldable pub Covers : (ℕ → Bool) → Tree → (ℕ → Bool) → Type 0
  Covers near none from = Unit {0}
  Covers near (node op a b c d) from = Covers near a from × ((y : ℕ) → y < rows t → ahead (node op a b c d) from y ≡ true → near y ≡ true)

  -- what the axis reaches from there, and passes the test, is ahead
  ahead_more : (op : Op) (a b : Tree) (c d : ℕ) (from : ℕ → Bool) (w z : ℕ) → w < rows t → ahead a from w ≡ true → on t (axis_of c) w z ≡ true → passes edition t (principal (axis_of c)) (test_of d) z ≡ true → ahead (node op a b c d) from z ≡ true
  unfolding ahead
  ahead_more op a b c d from w z l h o p =
      let f : ℕ → Bool = λ x. ahead a from x && on t (axis_of c) x z in
      let g : f w ≡ true = rw (h, o) in
      rw (is_true (some f (up_to (rows t))) (some_from f (up_to (rows t)) w (truly g) (has_up_to_from (rows t) w l)), p)

  -- what is ahead depends on the rows of the set alone
  ahead_agree : (s : Tree) (f g : ℕ → Bool) → ((x : ℕ) → x < rows t → f x ≡ g x) → (y : ℕ) → y < rows t → ahead s f y ≡ ahead s g y
  unfolding ahead
  ahead_agree none f g h y l = h y l
  ahead_agree (node op a b c d) f g h y l = rw (some_below (λ x. ahead a f x && on t (axis_of c) x y) (λ x. ahead a g x && on t (axis_of c) x y) (rows t) (λ x m. rw (ahead_agree a f g h x m)))

  -- whether all is near too
  pub covers_agree : (s : Tree) (near f g : ℕ → Bool) → ((x : ℕ) → x < rows t → f x ≡ g x) → Covers near s f → Covers near s g
  unfolding Covers
  covers_agree none near f g h k = tt
  covers_agree (node op a b c d) near f g h k = (covers_agree a near f g h k.0, λ y l r. k.1 y l (ahead_agree (node op a b c d) f g h y l ∙ r))

  -- all rows are near
  pub covers_all : (s : Tree) (near from : ℕ → Bool) → ((y : ℕ) → y < rows t → near y ≡ true) → Covers near s from
  unfolding Covers
  covers_all none near from h = tt
  covers_all (node op a b c d) near from h = (covers_all a near from h, λ y l r. h y l)

  -- more is near
  pub covers_more : (s : Tree) (near more from : ℕ → Bool) → Covers near s from → ((y : ℕ) → y < rows t → near y ≡ true → more y ≡ true) → Covers more s from
  unfolding Covers
  covers_more none near more from k h = tt
  covers_more (node op a b c d) near more from k h = (covers_more a near more from k.0 h, λ y l r. h y l (k.1 y l r))

-- ---- backwards over what is near

-- near and good are the same as good where the axis and the test hold
guarded : (g n h p k o : Bool) → (o ≡ true → p ≡ true → (n ≡ true) × (g ≡ h)) → (((g && n) && (p && k)) && o) ≡ ((h && (p && k)) && o)
guarded g n h p k false f = and-false ((g && n) && (p && k)) ∙ sym (and-false (h && (p && k)))
guarded g n h false k true f = rw (and-false (g && n), and-false h)
guarded g n h true k true f = let r : (n ≡ true) × (g ≡ h) = f refl refl in rw (r.0, r.1, and-true h)

module _ (edition : ℕ) (t : List ℕ) (literals : List Float) where
  -- the nodes from which a chain of steps leads, over nodes that are near alone, to a good node
  unfoldable pub backs_near : (ℕ → Bool) → Tree → (ℕ → Bool) → ℕ → Bool
  backs_near near none good = good
  backs_near near (node op a b c d) good = backs_near near a (before edition t literals (axis_of c) (test_of d) b (λ z. good z && near z))

  -- what is reached back over what is near depends on the good rows alone
  pub near_agree : (near : ℕ → Bool) (s : Tree) (f g : ℕ → Bool) → ((z : ℕ) → z < rows t → f z ≡ g z) → (y : ℕ) → y < rows t → backs_near near s f y ≡ backs_near near s g y
  unfolding backs_near before
  near_agree near none f g h y l = h y l
  near_agree near (node op a b c d) f g h y l = near_agree near a (before edition t literals (axis_of c) (test_of d) b (λ z. f z && near z)) (before edition t literals (axis_of c) (test_of d) b (λ z. g z && near z)) (λ w m. some_below _ _ (rows t) (λ z k. rw (h z k))) y l

  -- for the nodes whose chain comes by near ones alone it is the same as over all nodes
  pub near_backs : (s : Tree) (near from : ℕ → Bool) → Covers edition t near s from → (f g : ℕ → Bool) → ((z : ℕ) → z < rows t → ahead edition t s from z ≡ true → f z ≡ g z)
      → (y : ℕ) → y < rows t → from y ≡ true → backs_near near s f y ≡ backs edition t literals s g y
  unfolding backs_near backs before Covers
  near_backs none near from k f g h y l e = h y l (unfold ahead in e)
  near_backs (node op a b c d) near from k f g h y l e =
      near_backs a near from k.0 (before edition t literals (axis_of c) (test_of d) b (λ z. f z && near z)) (before edition t literals (axis_of c) (test_of d) b g) one y l e
    where
      one : (w : ℕ) → w < rows t → ahead edition t a from w ≡ true → before edition t literals (axis_of c) (test_of d) b (λ z. f z && near z) w ≡ before edition t literals (axis_of c) (test_of d) b g w
      one w m r = some_below _ _ (rows t) (λ z n. guarded (f z) (near z) (g z) (passes edition t (principal (axis_of c)) (test_of d) z) (ok edition t literals b z) (on t (axis_of c) w z)
          (λ o p. let x : ahead edition t (node op a b c d) from z ≡ true = ahead_more edition t op a b c d from w z m r o p in (k.1 z n x, h z n x)))

-- ---- rows, stated over what code has read of them

module _ (edition : ℕ) (t : List ℕ) (p : List ℕ) (l : ℕ) where
  -- no steps: the set itself, and nothing on the way
  pub ahead_none : (from : ℕ → Bool) (y : ℕ) → l ≡ 0 → from y ≡ ahead edition t (tree p l) from y
  unfolding ahead
  ahead_none from y e = rw (e, tree_zero p)

  pub covers_none : (near from : ℕ → Bool) → l ≡ 0 → Covers edition t near (tree p l) from
  unfolding Covers
  covers_none near from e = rw (e, tree_zero p) tt

  module _ (some-row : (l ≡ 0) → ⊥) (a : ℕ) (is-first : a ≡ first_link p (l - 1)) where
    -- a step: those before it, then its axis and its test
    pub ahead_row : (c d : ℕ) → c ≡ index_or_axis p (l - 1) → d ≡ test_at p (l - 1) → (from : ℕ → Bool) (y : ℕ) → (some (λ x. ahead edition t (tree p a) from x && on t (axis_of c) x y) (up_to (rows t)) && passes edition t (principal (axis_of c)) (test_of d) y) ≡ ahead edition t (tree p l) from y
    unfolding ahead
    ahead_row c d e f from y = rw (tree_row p l some-row, ← is-first, ← e, ← f)

    pub covers_row : (near from : ℕ → Bool) → Covers edition t near (tree p a) from → ((y : ℕ) → y < rows t → ahead edition t (tree p l) from y ≡ true → near y ≡ true) → Covers edition t near (tree p l) from
    unfolding Covers
    covers_row near from k h = rw (tree_row p l some-row, ← is-first) (k, rw (tree_row p l some-row, ← is-first) at h)

module _ (edition : ℕ) (t : List ℕ) (literals : List Float) (p : List ℕ) (l : ℕ) (near : ℕ → Bool) where
  -- no steps: the good nodes themselves
  pub near_none : (good : ℕ → Bool) (y : ℕ) → l ≡ 0 → good y ≡ backs_near edition t literals near (tree p l) good y
  unfolding backs_near
  near_none good y e = rw (e, tree_zero p)

  -- a step: one step back from the near ones, then those before it
  pub near_row : (some-row : (l ≡ 0) → ⊥) (a b : ℕ) (axis : Axis) (u : Test) → a ≡ first_link p (l - 1) → b ≡ second_link p (l - 1) → axis ≡ axis_of (index_or_axis p (l - 1)) → u ≡ test_of (test_at p (l - 1)) → (good : ℕ → Bool) (y : ℕ)
      → backs_near edition t literals near (tree p a) (before edition t literals axis u (tree p b) (λ z. good z && near z)) y ≡ backs_near edition t literals near (tree p l) good y
  unfolding backs_near
  near_row some-row a b axis u is-first is-second e f good y = rw (tree_row p l some-row, ← is-first, ← is-second, e, f)
