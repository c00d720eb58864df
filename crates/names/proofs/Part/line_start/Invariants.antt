-- `names::Part::line_start`: the line that is passed to begins at `at`, within the list.
use Rattle.std.proofs.Common.{◌≡◌, ◌≤◌, suc, length}
use Rattle.names.specs.Index.{line_start}
use Rattle.names.proofs.Part.line_start.Given as goal

abbrev pub invariant-loop : goal.invariant-loop
invariant-loop l =
    (l.at ≡ line_start l.self.list.now l.counter) × (line_start l.self.list.now (suc l.line) ≤ length l.self.list.now) × (l.at ≤ length l.self.list.now)
