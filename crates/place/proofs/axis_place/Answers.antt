-- `place::axis_place` meets its contract: by what may be asked, and the place.
-- Assumes nothing.
use mathlib.Core.Path.{sym, ◌∙◌}
use Rattle.meaning.specs.Answers.{axis_place}
use Rattle.meaning.proofs.Places.{asked_rows}
use Rattle.place.proofs.axis_place.Goals as goal

pub returns-then-not-is_askable : goal.returns-then-not-is_askable
unfolding axis_place
returns-then-not-is_askable c = rw (← c.is_askable.ensures, c.if-not-is_askable.true)

pub place_on-requires : goal.place_on-requires
place_on-requires c = asked_rows _ _ _ _ (sym c.is_askable.ensures ∙ c.if-not-is_askable.false)

pub returns : goal.returns
unfolding axis_place
returns c = rw (← c.is_askable.ensures, c.if-not-is_askable.false, ← c.from.ensures) c.place_on.ensures.0
