-- `Pen::write` meets its contract. The measure is the link, which falls. Assumes nothing.
use Rattle.turn.proofs.pen.Pen.+write.Given as goal

abbrev pub decreases-write : goal.decreases-write
decreases-write l = l.from
