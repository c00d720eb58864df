-- `compose::desk::settle_frames` meets its contract. The loop's invariant: what is left to settle from where it stands is what is to be settled
-- from its start. The measure is the number of frames.
-- Assumes nothing.
use Rattle.compose.proofs.Frames.{Settling}
use Rattle.compose.proofs.desk.settle_frames.Given as goal

abbrev pub invariant-loop-rows : goal.invariant-loop-rows
invariant-loop-rows l = Settling l.k l.frames.ops l.frames.opens l.initial.rows l.initial.left l.rows l.left

abbrev pub decreases-loop-rows : goal.decreases-loop-rows
decreases-loop-rows l = l.left.height
