-- `tokens::lexer::next_token` meets its contract: behind spaces a token, or the end.
-- Assumes nothing.
use native.Mathlib.Omega.{arith}
use Rattle.tokens.proofs.Found.{found_token, found_end}
use Rattle.tokens.proofs.lexer.next_token.Goals as goal

pub returns-then-begin-text : goal.returns-then-begin-text
returns-then-begin-text c = found_token _ _ _ _ c.run_end-begin.ensures.0 _ c.if-begin-text.true c.lexeme_at-found.ensures

pub returns : goal.returns
returns c = found_end _ _ _ _ c.run_end-begin.ensures.0 (omega arith)
