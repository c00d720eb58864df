-- Independence of the position: an expression that does not ask for position and size has one value at a node, so predicates
-- that do not count filter node by node. By induction over the tree, each op taking only what it takes.
-- Assumes nothing.
use Prim.Native.Nat.{ℕ}
use mathlib.Core.Path.{◌≡◌, refl, sym, ap, ◌∙◌}
use mathlib.Core.Bool.{Bool, true, false, ◌&&◌, ◌||◌, not, true≢false, and_assoc}
use mathlib.Core.List.{List}
use lib.ListN.{length}
use lib.Ieee.{Float}
use Rattle.meaning.specs.Lists.{keep, some, has, up_to}
use Rattle.meaning.specs.Table.{rows}
use Rattle.meaning.specs.Axis.{axis_of, test_of, principal, passes, candidates}
use Rattle.meaning.specs.declared.Axis.{Axis}
use Rattle.meaning.specs.declared.Test.{Test}
use Rattle.meaning.specs.declared.Op.{Op}
use Rattle.meaning.specs.Tree.{Tree, none, node}
use Rattle.meaning.specs.Meaning.{float, truth_of, holds, value, select, walk, filtered, union}
use Rattle.meaning.specs.Turning.{contextual, over_path, numeric, asks, counting}
use Rattle.meaning.specs.declared.Context.{Context}
use Rattle.meaning.proofs.Bools.{or_none_l, or_none_r}
use Rattle.meaning.proofs.Lists.{some_same, has_keep, keep_up_to, keep_all, keep_keep, keep_at_free}
use Rattle.meaning.proofs.Places.{placed, candidate_is}
use Rattle.meaning.proofs.Applied.{takes_first, second_first, operands_no_path, applied_agrees, applied_truth}

-- the context of a node, its position and size left open
abbrev pub at : ℕ → Float → Float → Context
at y p s = record { node = y; position = p; size = s }

module _ (edition : ℕ) (t : List ℕ) (literals : List Float) where
  -- an expression that does not ask for position and size has the same value at each of them
  pub positions_do_not_matter : (e : Tree) → asks e ≡ false → (y : ℕ) (p s q r : Float) → value edition t literals e (at y p s) ≡ value edition t literals e (at y q r)
  unfolding value asks
  positions_do_not_matter none h y p s q r = refl
  positions_do_not_matter (node op a b c d) h y p s q r =
      let n : ℕ = length (select edition t literals a y) in
      let parts : takes_first op ≡ true → (asks a || asks b) ≡ false = λ f. rw (operands_no_path op f) at (or_none_r (contextual op) (not (over_path op) && (asks a || asks b)) h) in
      applied_agrees literals c (value edition t literals a (at y p s)) (value edition t literals b (at y p s)) (value edition t literals a (at y q r)) (value edition t literals b (at y q r)) n n (at y p s) (at y q r) op
      (λ f. positions_do_not_matter a (or_none_l (asks a) (asks b) (parts f)) y p s q r)
      (λ f. positions_do_not_matter b (or_none_r (asks a) (asks b) (parts (second_first op f))) y p s q r)
      (λ f. refl)
      (λ f. absurd (true≢false (sym f ∙ or_none_l (contextual op) (not (over_path op) && (asks a || asks b)) h)))

  -- an expression that is not a number is a truth
  holds_truth : (e : Tree) → numeric e ≡ false → (x : Context) (p : Float) → holds (value edition t literals e x) p ≡ truth_of (value edition t literals e x)
  unfolding value numeric
  holds_truth none h x p = refl
  holds_truth (node op a b c d) h x p = applied_truth literals c (value edition t literals a x) (value edition t literals b x) (length (select edition t literals a x.node)) x p op h

  -- does an expression that does not count hold at a node?
  abbrev pub true_at : Tree → ℕ → Bool
  true_at e y = truth_of (value edition t literals e (at y (float 0) (float 0)))

  -- do all predicates of a chain hold at a node, whatever its position?
  unfoldable pub ok : Tree → ℕ → Bool
  ok none y = true
  ok (node op a b c d) y = ok a y && true_at b y

  -- predicates that do not count filter node by node
  pub filtered_free : (e : Tree) → counting e ≡ false → (l : List ℕ) → filtered edition t literals e l ≡ keep (ok e) l
  unfolding filtered ok counting
  filtered_free none h l = sym (keep_all l)
  filtered_free (node op a b c d) h l =
      let g : numeric b || asks b ≡ false = or_none_r (counting a) (numeric b || asks b) h in
      let kept : List ℕ = filtered edition t literals a l in
      let size : Float = float (length kept) in
      keep_at_free (λ y i. holds (value edition t literals b (at y (float i) size)) (float i)) (true_at b)
      (λ y i. holds_truth b (or_none_l (numeric b) (asks b) g) (at y (float i) size) (float i)
      ∙ ap truth_of (positions_do_not_matter b (or_none_r (numeric b) (asks b) g) y (float i) size (float 0) (float 0))) 1 kept
      ∙ ap (keep (true_at b)) (filtered_free a (or_none_l (counting a) (numeric b || asks b) h) l)
      ∙ keep_keep (ok a) (true_at b) l

  -- does a node pass a test, of the kind k for `*` and names, and all predicates of a chain?
  abbrev pub fits : ℕ → Test → Tree → ℕ → Bool
  fits k u e y = passes edition t k u y && ok e y

  -- a step that does not count reaches what has a place on the axis, passes the test and holds
  pub free_step : (a : Axis) (u : Test) (e : Tree) (x y : ℕ) → counting e ≡ false → has (filtered edition t literals e (candidates edition t a u x)) y ≡ (placed t a x y && fits (principal a) u e y)
  free_step a u e x y h =
      ap (λ (l : List ℕ). has l y) (filtered_free e h (candidates edition t a u x))
      ∙ has_keep (ok e) (candidates edition t a u x) y
      ∙ rw (candidate_is edition t a x u y) (and_assoc (placed t a x y) (passes edition t (principal a) u y) (ok e y))

  -- the same of the last step of a chain, from a set
  pub free_walk : (op : Op) (a b : Tree) (c d : ℕ) (set : List ℕ) → counting b ≡ false
      → walk edition t literals (node op a b c d) set ≡ keep (λ y. some (λ x. placed t (axis_of c) x y && fits (principal (axis_of c)) (test_of d) b y) (walk edition t literals a set)) (up_to (rows t))
  unfolding walk union
  free_walk op a b c d set h = keep_up_to _ _ (rows t) (λ y l. some_same _ _ (walk edition t literals a set) (λ x. free_step (axis_of c) (test_of d) b x y h))
