-- `tokens::runs::run_end` meets its contract. The loop's invariant: the run from `at` ends where the one from `i` does.
-- Assumes nothing.
use Rattle.std.proofs.Common.{◌≡◌}
use Rattle.text.specs.Tokens.{run_end}
use Rattle.tokens.proofs.runs.run_end.Given as goal

abbrev pub invariant-loop-at : goal.invariant-loop-at
invariant-loop-at l = run_end l.run l.text l.at ≡ run_end l.run l.text l.i
