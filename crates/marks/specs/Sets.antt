-- Sets of nodes, as marks: what a test, another set, or what is added to a set makes of them.
-- Assumes nothing: these are definitions.
use Rattle.std.specs.Prelude.{ℕ, ◌<◌, ◌≡◌, Bool, false, ◌&&◌, ◌||◌, List, get_or}
use Rattle.meaning.specs.Table.{rows}
use Rattle.meaning.specs.Axis.{principal, passes}
use Rattle.meaning.specs.declared.Axis.{Axis}
use Rattle.meaning.specs.declared.Test.{Test}

-- of the rows those stay marked that pass, in an edition, the test of a step on an axis
unfoldable pub Sifted : ℕ → List ℕ → Axis → Test → List Bool → List Bool → Type 0
Sifted edition t axis test entry exit = (y : ℕ) → y < rows t → get_or exit y false ≡ (get_or entry y false && passes edition t (principal axis) test y)

-- of the rows those stay marked that the other set has too
unfoldable pub Met : List ℕ → List Bool → List Bool → List Bool → Type 0
Met t others entry exit = (y : ℕ) → y < rows t → get_or exit y false ≡ (get_or entry y false && get_or others y false)

-- the rows that the other set has are marked too
unfoldable pub Joined : List ℕ → List Bool → List Bool → List Bool → Type 0
Joined t others entry exit = (y : ℕ) → y < rows t → get_or exit y false ≡ (get_or entry y false || get_or others y false)
