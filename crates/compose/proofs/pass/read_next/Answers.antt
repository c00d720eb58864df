-- `compose::pass::read_next` meets its contract.
-- Assumes nothing.
use mathlib.Core.Path.{sym, ◌∙◌, ap}
use Rattle.text.specs.Limited.{source, value_at}
use Rattle.compose.proofs.pass.read_next.Goals as goal

pub returns : goal.returns
unfolding source
returns c = (
  c.read_token.ensures.0,
  λ i
      p. c.read_token.ensures.1 _ i
      (c.word_number-number.ensures i p) (λ e. c.number_value-value.ensures e ∙ ap (value_at c.args.text.now) (sym p)),
)
