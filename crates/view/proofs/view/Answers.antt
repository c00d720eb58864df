-- `view::view` meets its contract: the two ends cut the part out of the list.
-- Assumes nothing.
use native.Mathlib.Omega.{arith}
use mathlib.Core.Path.{refl}
use Rattle.meaning.proofs.View.{part_cuts, part_shows}
use Rattle.view.proofs.view.Goals as goal

pub overflow_add-end : goal.overflow_add-end
overflow_add-end c = omega (arith, (part_cuts _ _ _ _ c.ends_of-part.ensures).within)

pub offset_bounds-list-begin : goal.offset_bounds-list-begin
offset_bounds-list-begin c = omega (arith, (part_cuts _ _ _ _ c.ends_of-part.ensures).within)

pub slice_bounds-result-end : goal.slice_bounds-result-end
slice_bounds-result-end c = (part_cuts _ _ _ _ c.ends_of-part.ensures).within

pub returns : goal.returns
returns c = part_shows _ _ _ _ _ c.ends_of-part.ensures refl refl refl
