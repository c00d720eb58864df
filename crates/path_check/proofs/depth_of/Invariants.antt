-- `path_check::depth_of` meets its contract. The invariant: each link up to the rows passed has its depth at its number.
-- Assumes nothing.
use Rattle.std.proofs.Common.{◌≡◌, length}
use Rattle.path_check.specs.Passes.{Depths}
use Rattle.path_check.proofs.depth_of.Given as goal

abbrev pub invariant-loop-row : goal.invariant-loop-row
invariant-loop-row l = (length l.depths ≡ 257) × Depths l.rows.path.now l.row l.depths
