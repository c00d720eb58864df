-- `names::index` meets its contract. The loop's invariant is `Indexing`: the lines before this one are indexed and not bad. The measure is
-- what is left of the list.
-- Assumes nothing.
use Prim.Native.Nat.{◌-◌}
use lib.ListN.{length}
use Rattle.names.proofs.Passing.{Indexing}
use Rattle.names.proofs.index.Given as goal

abbrev pub invariant-loop-at : goal.invariant-loop-at
invariant-loop-at l =
    Indexing l.list (length l.initial.heads) (length l.initial.nexts) (length l.initial.starts) l.heads l.nexts l.starts l.line l.at

abbrev pub decreases-loop-at : goal.decreases-loop-at
decreases-loop-at l = length l.list - l.at
