-- `compose::pass::pass_over` meets its contract. The loop's invariant: behind the tokens that were read the slices hold the machine's draft,
-- and at most 257 rows are committed. The measure is what is left of the text.
-- Assumes nothing.
use Prim.Native.Nat.{◌-◌}
use lib.ListN.{length}
use Rattle.compose.proofs.Passing.{Passing}
use Rattle.compose.proofs.pass.pass_over.Given as goal

abbrev pub invariant-loop-next : goal.invariant-loop-next
invariant-loop-next l =
    Passing l.text l.names.list.now l.rows l.frames.ops l.frames.opens l.values l.state l.next

abbrev pub decreases-loop-next : goal.decreases-loop-next
decreases-loop-next l =
    length l.text - l.next.begin
