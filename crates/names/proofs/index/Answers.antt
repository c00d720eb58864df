-- The answers of `names::index`: what its code leaves to show, by the invariants beside this file.
use Rattle.std.proofs.Common.{sym, ◌∙◌, length-set, rules, arith}
use Rattle.names.proofs.Passing.{indexing_starts, indexing_more, line_from, has_room, first_bad, all_indexed}
use Rattle.names.proofs.index.Goals as goal

pub loop-at-init : goal.loop-at-init
loop-at-init c =
    indexing_starts _ c.args.heads.now c.args.nexts.now _ _ (c.fill.ensures.after (λ y e. search rules)) c.requires

pub returns-then-is_bad_line : goal.returns-then-is_bad_line
returns-then-is_bad_line c =
    let inv = c.loop-at.invariant in
    record {
      indexed = first_bad _ _ _ _ _ _ _ _ _ inv c.loop-at-test.true (sym c.is_bad_line.ensures ∙ c.if-is_bad_line.true);
      lengths = (inv.same_heads ∙ c.fill.ensures.len, inv.same_nexts ∙ length-set c.args.nexts.now 0 0, inv.same_starts);
    }

pub add_line-requires : goal.add_line-requires
add_line-requires c =
    let inv = c.loop-at.invariant in
    let next = line_from _ _ _ _ _ _ _ _ _ inv _ c.loop-at-test.true c.line_length.ensures.0 in
    (inv.indexed, next, has_room _ _ _ _ _ _ _ _ _ inv c.loop-at-test.true (sym c.is_bad_line.ensures ∙ c.if-is_bad_line.false))

pub loop-at-preserved : goal.loop-at-preserved
loop-at-preserved c =
    let inv = c.loop-at.invariant in
    let next = line_from _ _ _ _ _ _ _ _ _ inv _ c.loop-at-test.true c.line_length.ensures.0 in
    indexing_more _ _ _ _ _ _ _ _ _ inv _ _ _ _ next (sym c.is_bad_line.ensures ∙ c.if-is_bad_line.false)
    c.add_line.ensures
    (search rules)
    (search rules)
    (search rules)

pub returns-clause-indexed : goal.returns-clause-indexed
returns-clause-indexed c = all_indexed _ _ _ _ _ _ _ _ _ c.loop-at.invariant (omega arith)
