-- `compose::words::number_value` meets its contract.
-- Assumes nothing.
use Rattle.compose.proofs.words.number_value.Goals as goal

pub value-requires : goal.value-requires
value-requires c =
    let told = c.requires.number_ends c.if-kind-eq-NUMBER.true in
    (c.requires.ordered, c.requires.within, told.0, told.1)

pub returns : goal.returns
returns c = λ e. absurd (c.if-kind-eq-NUMBER.false e)
