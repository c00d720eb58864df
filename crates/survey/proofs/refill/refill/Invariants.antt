-- `survey::refill::refill`: the trace stands behind its tokens, and the window holds the levels that it is for.
use Rattle.std.proofs.Common.{◌≡◌}
use Rattle.survey.specs.Standing.{Traced}
use Rattle.survey.proofs.refill.refill.Given as goal

abbrev pub invariant-loop : goal.invariant-loop
invariant-loop l = Traced l.text l.window.levels l.lo l.hi l.t × (l.t.count ≡ l.counter)
