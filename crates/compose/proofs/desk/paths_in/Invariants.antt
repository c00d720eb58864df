-- `compose::desk::paths_in`: the count is that of the frames passed.
use Rattle.std.proofs.Common.{◌≡◌, ◌≤◌, ℕ, List}
use Rattle.text.specs.Composing.{paths_in}
use Rattle.compose.specs.Standing.{frames_of}
use Rattle.compose.proofs.desk.paths_in.Given as goal

abbrev pub invariant-loop-i : goal.invariant-loop-i
invariant-loop-i l = (l.count ≤ l.i) × ((opens : List ℕ) → l.count ≡ paths_in (frames_of l.ops opens l.i))
