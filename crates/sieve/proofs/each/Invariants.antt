-- `sieve::each` meets its contract: the items passed are what f makes of them, and the others are as they were.
-- Assumes nothing.
use Rattle.std.proofs.Common.{◌≡◌, ℕ, ◌<◌, ◌≤◌, get_or}
use Rattle.sieve.proofs.each.Given as goal

abbrev pub invariant-loop-y : goal.invariant-loop-y
invariant-loop-y g l =
    ((k : ℕ) (d : _) → k < l.y → goal.F-post g l.f k (get_or l.fn.items k d) (get_or l.item-items k d))
    × ((k : ℕ) (d : _) → l.y ≤ k → k < l.n → get_or l.item-items k d ≡ get_or l.fn.items k d)
