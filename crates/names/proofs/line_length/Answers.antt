-- The answer of `names::line_length`: the first line feed, or the end.
use Rattle.std.proofs.Common.{◌≡◌, ap, ◌∙◌, length, eqb, rules, arith}
use borrow.Author.Tests.{tests}
use Rattle.std.specs.Option.{unwrap_or}
use Rattle.std.proofs.lemmas.Iterator.{YieldsList-from_slice}
use Rattle.std.proofs.lemmas.Iterator.Search.{position_from_yields_List}
use Rattle.names.specs.Index.{line_length}
use Rattle.names.proofs.Words.{first_feed, found_or_end, line_within}
use Rattle.names.proofs.line_length.Goals as goal

pub returns : goal.returns
returns c =
    let s = c.args.rest.now in
    let found = position_from_yields_List (λ b. eqb b 10) _ _ c.position.result c.position.ensures.ran (YieldsList-from_slice s cc) (λ x b q k. search (rules, tests)) in
    let e : c.unwrap_or.result ≡ line_length s = c.unwrap_or.ensures ∙ ap (λ o. unwrap_or o (length s)) (rw first_feed at found) ∙ found_or_end (line_length s) (length s) (line_within s) in
    (e, omega (arith, line_within s))
