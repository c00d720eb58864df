-- A set is sifted, in an edition, by the test that says in edition 2 what a step's test says.
-- Assumes nothing.
use Rattle.std.proofs.Common.{◌≡◌, ℕ, Bool, List}
use Rattle.meaning.specs.declared.Axis.{Axis}
use Rattle.meaning.specs.declared.Test.{Test}
use Rattle.axes.specs.Second.{in_second}
use Rattle.axes.proofs.Seconds.{second_passes}
use Rattle.marks.specs.Sets.{Sifted}

-- sifted in edition 2 by what the test is there, a set is sifted in the edition
pub by_second : (edition : ℕ) (t : List ℕ) (axis : Axis) (u read : Test) (entry exit : List Bool) → in_second edition u ≡ read → Sifted 2 t axis read entry exit → Sifted edition t axis u entry exit
unfolding Sifted
by_second edition t axis u read entry exit e s y l = rw (second_passes, e) (s y l)
