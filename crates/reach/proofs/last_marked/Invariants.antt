-- `reach::last_marked` meets its contract: no row passed gives.
-- Assumes nothing.
use Rattle.std.proofs.Common.{ℕ, ◌≡◌, ◌<◌, ◌≤◌, false}
use Rattle.meaning.specs.Table.{rows}
use Rattle.reach.specs.Reach.{admitted}
use Rattle.reach.proofs.Sweep.{giving}
use Rattle.reach.proofs.last_marked.Given as goal

abbrev pub invariant-loop-i : goal.invariant-loop-i
invariant-loop-i l = (l.high ≡ 0) × ((x : ℕ) → l.i ≤ x → x < rows l.table → giving l.from (admitted l.table l.given) x ≡ false)
