-- `survey::look::look` meets its contract: a token that can be read, or none.
-- Assumes nothing.
use Rattle.tokens.proofs.Found.{token_within}
use Rattle.survey.proofs.Looking.{seen, unseen}
use Rattle.survey.proofs.look.look.Goals as goal

pub run_end-behind-requires : goal.run_end-behind-requires
run_end-behind-requires c = (token_within _ _ _ _ c.next_token-token.ensures c.if-kind-lt33.true).1

pub returns-then-kind-lt33 : goal.returns-then-kind-lt33
returns-then-kind-lt33 c = seen _ _ _ _ _ c.next_token-token.ensures _ _ c.if-kind-lt33.true c.act_at-act.ensures c.run_end-behind.ensures.0

pub returns : goal.returns
returns c = unseen _ _ _ _ _ c.next_token-token.ensures c.if-kind-lt33.false
