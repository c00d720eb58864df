-- `tokens::words::axis_kind` meets its contract: a word is an axis if it is in the list. Assumes nothing.
use Rattle.text.specs.Tokens.{axis_names}
use Rattle.tokens.proofs.Sought.{axis_named, axis_unknown}
use Rattle.tokens.proofs.words.axis_kind.Goals as goal

pub returns-then-word_in-lt13 : goal.returns-then-word_in-lt13
unfolding axis_names
returns-then-word_in-lt13 c = axis_named _ (rw c.word_in.ensures at c.if-word_in-lt13.true)

pub returns-else-word_in-lt13 : goal.returns-else-word_in-lt13
unfolding axis_names
returns-else-word_in-lt13 c = axis_unknown _ (rw c.word_in.ensures at c.if-word_in-lt13.false)
