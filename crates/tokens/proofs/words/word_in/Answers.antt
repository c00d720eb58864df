-- `tokens::words::word_in` meets its contract: where the word stands first is its position. Assumes nothing.
use Rattle.std.proofs.Common.{rules, tests, ◌≡◌, map, ℕ, List, Bor, sym, ◌∙◌}
use Rattle.std.proofs.lemmas.Iterator.{IsFirst-from_position, YieldsList-from_slice, index_from_first}
use Rattle.names.specs.Names.{position}
use Rattle.tokens.proofs.Sought.{position_none, position_hit, position_miss}
use Rattle.tokens.proofs.words.word_in.Goals as goal

pub returns : goal.returns
returns c =
    let w : List ℕ = c.args.word.now in
    let first = IsFirst-from_position _ _ _ (λ x. x.now ≡ w) (λ x. x.now ≡ w → ⊥) c.position.ensures.ran
    (YieldsList-from_slice c.args.words.now cc) (λ x q k. search (rules, tests)) (λ x q k. search (rules, tests)) in
    c.unwrap_or.ensures
    ∙ sym
    (index_from_first (λ (ws : List (Bor (List ℕ))). position (map (λ v. v.now) ws) w) (λ x. x.now ≡ w) (λ x. x.now ≡ w → ⊥)
    (position_none w) (λ x xs h. position_hit x.now w (map (λ v. v.now) xs) h) (λ x xs h. position_miss x.now w (map (λ v. v.now) xs) h)
    c.args.words.now c.position.result first)
