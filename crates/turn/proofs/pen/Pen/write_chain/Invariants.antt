-- `Pen::write_chain` meets its contract: the loop's invariant is `Behind`: the rows of some steps stand at the front, and with the steps that
-- are left they make the chain. The measure is the link, which falls.
-- Assumes nothing.
use Rattle.std.proofs.Common.{◌≡◌}
use Rattle.turn.proofs.Chain.{Behind}
use Rattle.turn.proofs.pen.Pen.write_chain.Given as goal

abbrev pub invariant-loop-row : goal.invariant-loop-row
invariant-loop-row l =
    Behind l.path l.last l.initial.self.out.now l.initial.self.at l.self.out.now l.self.at l.from × (l.self.out.ghost_name ≡ l.initial.self.out.ghost_name)

abbrev pub decreases-loop-row : goal.decreases-loop-row
decreases-loop-row l = l.from
