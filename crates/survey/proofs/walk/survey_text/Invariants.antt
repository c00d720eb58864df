-- `survey::walk::survey_text` meets its contract. The invariant: the survey stands in the text, or it has ended with what is found.
-- The measure is the number of bytes left, and one until it has ended.
-- Assumes nothing.
use Rattle.survey.specs.Standing.{Surveyed}
use Rattle.survey.proofs.Advancing.{steps_left}
use Rattle.survey.proofs.walk.survey_text.Given as goal

abbrev pub invariant-loop-s : goal.invariant-loop-s
invariant-loop-s l = Surveyed l.text l.names.list.now l.window.levels l.s

abbrev pub decreases-loop-s : goal.decreases-loop-s
decreases-loop-s l = steps_left l.text l.s
