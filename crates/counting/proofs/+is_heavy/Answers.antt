-- The answers of `counting::is_heavy`: no link names nothing that is heavy. Assumes nothing.
use Rattle.std.proofs.Common.{ℕ, List, ◌≡◌, false, arith}
use Rattle.meaning.specs.Tree.{tree}
use Rattle.meaning.proofs.Trees.{tree_zero}
use Rattle.counting.specs.Heavy.{heavy}
use Rattle.counting.proofs.+is_heavy.Goals as goal

-- no link
heavy_none : (p : List ℕ) (l : ℕ) → l ≡ 0 → false ≡ heavy (tree p l)
unfolding heavy
heavy_none p l e = rw (e, tree_zero p)

pub returns-in_default : goal.returns-in_default
returns-in_default t c = heavy_none _ _ (omega (arith, c.in_default.ensures))
