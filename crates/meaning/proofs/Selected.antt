-- What a path selects is strictly ascending, so no node is selected twice: each set of nodes is kept of the rows, which ascend.
-- Assumes nothing.
use Prim.Native.Nat.{ℕ, ◌<◌}
use mathlib.Core.Bool.{Bool, false}
use mathlib.Core.List.{List}
use lib.ListN.{length, get_or}
use lib.Ieee.{Float}
use native.Mathlib.Omega.{arith}
use Rattle.meaning.specs.Lists.{up_to, keep}
use Rattle.meaning.specs.Axis.{ordered}
use Rattle.meaning.specs.Tree.{Tree, none, node}
use Rattle.meaning.specs.Meaning.{start_of, union, select, walk}
use Rattle.meaning.specs.Answers.{path_tree, selected}
use Rattle.meaning.proofs.Lists.{Before, Monotone, Rising, order_monotone, keep_monotone}

kept_rows_rise : (p : ℕ → Bool) (n : ℕ) → Rising (keep p (up_to n))
unfolding ordered
kept_rows_rise p n = keep_monotone false p (up_to n) (order_monotone false n)

module _ (edition : ℕ) (t : List ℕ) (literals : List Float) where
  walk_rises : (s : Tree) (set : List ℕ) → Rising set → Rising (walk edition t literals s set)
  unfolding walk union
  walk_rises none set up = up
  walk_rises (node op a b c d) set up = kept_rows_rise _ _

  select_rises : (s : Tree) (x : ℕ) → Rising (select edition t literals s x)
  unfolding select start_of Monotone
  select_rises none x = λ i j h k. absurd (omega arith)
  select_rises (node op a b c d) x = walk_rises a (start_of t op x) (kept_rows_rise _ _)

  -- what is selected is strictly ascending, on every table and for every path
  pub evaluate_ascending : (p : List ℕ) (start i j : ℕ) → i < j → j < length (selected edition t p literals start)
      → get_or (selected edition t p literals start) i 0 < get_or (selected edition t p literals start) j 0
  unfolding Monotone Before
  evaluate_ascending p start = select_rises (path_tree p) start
