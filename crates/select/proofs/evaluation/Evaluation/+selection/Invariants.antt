-- The cycle's measures and the invariants of its loops. The measure is the link, four times, plus one for a member that calls another at its
-- own link, two for one that calls such a one (a step, an existence), and three for a truth, which may call that.
-- Assumes nothing.
use Rattle.std.proofs.Common.{◌≡◌, ◌+◌, ◌*◌, ◌≤◌, length}
use Rattle.meaning.proofs.Evaluation.{kept_by, step_to}
use Rattle.meaning.proofs.Filters.{Kept}
use Rattle.meaning.proofs.Free.{true_at}
use Rattle.meaning.proofs.Marks.{Reached}
use Rattle.meaning.specs.Table.{most_rows, rows}
use Rattle.meaning.specs.Tree.{tree}
use Rattle.sieve.specs.Sieve.{SievedTo}
use Rattle.select.proofs.evaluation.Evaluation.+selection.Given as goal

abbrev pub decreases-back : goal.decreases-back
decreases-back l = 4 * l.link

abbrev pub decreases-decide : goal.decreases-decide
decreases-decide l = 4 * l.link + 3

abbrev pub decreases-decide_back : goal.decreases-decide_back
decreases-decide_back l = 4 * l.link + 1

abbrev pub decreases-decide_each : goal.decreases-decide_each
decreases-decide_each l = 4 * l.link + 1

abbrev pub decreases-decide_not : goal.decreases-decide_not
decreases-decide_not l = 4 * l.link

abbrev pub decreases-decide_pair : goal.decreases-decide_pair
decreases-decide_pair l = 4 * l.link

abbrev pub decreases-decide_path : goal.decreases-decide_path
decreases-decide_path l = 4 * l.link + 2

abbrev pub decreases-expression : goal.decreases-expression
decreases-expression l = 4 * l.link

abbrev pub decreases-keep : goal.decreases-keep
decreases-keep l = 4 * l.link

abbrev pub decreases-narrow : goal.decreases-narrow
decreases-narrow l = 4 * l.link + 1

abbrev pub decreases-select : goal.decreases-select
decreases-select l = 4 * l.link

abbrev pub decreases-spread : goal.decreases-spread
decreases-spread l = 4 * l.step.predicates + 1

abbrev pub decreases-step : goal.decreases-step
decreases-step l = 4 * l.step.predicates + 2

abbrev pub decreases-step_back : goal.decreases-step_back
decreases-step_back l = 4 * l.step.predicates + 2

abbrev pub decreases-stride : goal.decreases-stride
decreases-stride l = 4 * l.step.predicates + 2

abbrev pub decreases-tally : goal.decreases-tally
decreases-tally l = 4 * l.link + 1

abbrev pub decreases-thin : goal.decreases-thin
decreases-thin l = 4 * l.link

abbrev pub decreases-walk : goal.decreases-walk
decreases-walk l = 4 * l.link

abbrev pub invariant-decide_each-loop-node : goal.invariant-decide_each-loop-node
invariant-decide_each-loop-node l =
    (l.n ≡ rows l.self.table.now)
    × (length l.states ≡ length l.initial.states)
    × SievedTo (true_at l.self.edition l.self.table.now l.self.literals.now (tree l.self.path.now l.link)) l.active l.node l.n l.initial.states l.states

abbrev pub invariant-keep-loop-i : goal.invariant-keep-loop-i
invariant-keep-loop-i l =
    (l.m ≤ l.i)
    × (length l.nodes ≡ length l.initial.nodes)
    × Kept (kept_by l.self.edition l.self.table.now l.self.literals.now l.self.path.now l.test l.k) l.k l.initial.nodes l.nodes l.m l.i

abbrev pub invariant-step-loop-x : goal.invariant-step-loop-x
invariant-step-loop-x l =
    (l.n ≡ rows l.self.table.now)
    × (length l.marks ≡ most_rows)
    × (length l.next ≡ most_rows)
    × (length l.list ≡ most_rows)
    × Reached (step_to l.self.edition l.self.table.now l.self.literals.now l.self.path.now l.step.predicates l.step.axis l.step.test) l.marks l.x l.next
