-- `candidates::list_range` meets its contract. The loop's invariant: the first m of the list are what passes of the range before y.
-- Assumes nothing.
use Prim.Native.Nat.{◌-◌, ◌≤◌}
use mathlib.Core.Path.{◌≡◌}
use mathlib.Core.Bool.{◌&&◌}
use lib.ListN.{length}
use Rattle.meaning.specs.Table.{rows}
use Rattle.meaning.specs.Axis.{passes}
use Rattle.meaning.proofs.Ranges.{own_or_plain, Ranged}
use Rattle.candidates.proofs.list_range.Given as goal

abbrev pub invariant-loop-y : goal.invariant-loop-y
invariant-loop-y l =
    (l.from ≤ l.y) × (l.y - l.from ≤ l.to - l.from) × (l.m ≤ l.y - l.from) × (length l.list ≡ length l.initial.list) × Ranged (λ y. own_or_plain l.table l.x y && passes 2 l.table 1 l.test y) (rows l.table) l.from l.to l.list l.m l.y
