-- `compose::mode::is_ending`: each answer by the test that led to it.
use Rattle.std.proofs.Common.{arith}
use borrow.Author.Tests.{eq-eqb, ne_eqb}
use Rattle.compose.proofs.Modes.{ends_at}
use Rattle.compose.proofs.mode.is_ending.Goals as goal

pub returns-then-mode-eq3 : goal.returns-then-mode-eq3
returns-then-mode-eq3 c =
    let third = eq-eqb c.args.mode 3 c.if-mode-eq3.true in
    rw third (rw third at (ends_at c.args.mode (omega arith)))

pub returns-else-mode-eq3 : goal.returns-else-mode-eq3
returns-else-mode-eq3 c = rw (ne_eqb c.args.mode 3 c.if-mode-eq3.false) at (ends_at c.args.mode (omega arith))
