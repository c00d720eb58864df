-- `candidates::list_by_scan` meets its contract. The loop's invariant: the first m of the list are the candidates among the first
-- i rows of the axis's order.
-- Assumes nothing.
use Prim.Native.Nat.{◌≤◌}
use mathlib.Core.Path.{◌≡◌}
use lib.ListN.{length}
use mathlib.Core.Bool.{◌&&◌}
use Rattle.meaning.specs.Table.{rows}
use Rattle.meaning.specs.Axis.{on, principal, passes, ordered}
use Rattle.meaning.proofs.Filters.{Chosen}
use Rattle.candidates.proofs.list_by_scan.Given as goal

abbrev pub invariant-loop-i : goal.invariant-loop-i
invariant-loop-i l =
    (l.m ≤ l.i) × (l.n ≡ rows l.table) × (length l.list ≡ length l.initial.list) × Chosen (λ y. on l.table l.axis l.x y && passes 2 l.table (principal l.axis) l.test y) (ordered l.reverse l.n) l.list l.m l.i
