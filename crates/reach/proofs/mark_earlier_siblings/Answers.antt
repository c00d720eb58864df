-- The answers of `reach::mark_earlier_siblings`: what its code leaves to show, by the invariant beside this file. Assumes nothing.
use Rattle.std.proofs.Common.{◌≡◌, refl, ◌+◌, ◌-◌, ◌<◌, false, length, get_or, rules, arith}
use lib.ListN.{get_or-replicate}
use Rattle.std.proofs.lemmas.List.{length-set}
use Rattle.meaning.specs.Table.{rows, most_rows, parent_of}
use Rattle.meaning.proofs.Windows.{up_from}
use Rattle.meaning.proofs.Marks.{down_start, down_more, down_ahead}
use Rattle.reach.specs.declared.Asked.TheVariants.{Plain}
use Rattle.reach.specs.Reach.{admitted}
use Rattle.reach.proofs.Sweep.{Gathered, gathered_top, gathered_down, giving, gives, over, rooted, earlier_hit, down_hits, sibling_flag}
use Rattle.reach.proofs.mark_earlier_siblings.Goals as goal

pub loop-i-init : goal.loop-i-init
loop-i-init c = rw c.row_count-i.ensures (search rules, gathered_top _ _ _ _ _ (λ y l. get_or-replicate most_rows y false false (omega (arith, c.requires.small))), down_start _ _ _)

pub pass_sibling-requires : goal.pass_sibling-requires
pass_sibling-requires c =
    let low : c.loop-i.i - 1 < rows c.args.table.now = omega (arith, c.row_count-i.ensures) in
    (low, omega (arith, low, c.requires.long), omega (arith, rooted _ c.requires.parents _ low, c.requires.small, c.loop-i.invariant.0))

pub loop-i-preserved : goal.loop-i-preserved
loop-i-preserved c =
    let inv = c.loop-i.invariant in
    let i = c.loop-i.i in
    let t = c.args.table.now in
    let from = c.args.marks.now in
    let seen = c.loop-i.seen in
    let back : i ≡ i - 1 + 1 = omega arith in
    let low : i - 1 < rows t = omega (arith, c.row_count-i.ensures) in
    let old = down_ahead _ _ _ _ _ (i - 1) inv.2 (omega arith) low in
    let flag : parent_of t (i - 1) < length seen = omega (arith, rooted _ c.requires.parents _ low, c.requires.small, inv.0) in
    let after : Gathered (rows t) (over t) (giving from (admitted t Plain)) (up_from (i - 1 + 1) (rows t - (i - 1 + 1))) (λ q. get_or seen q false) = rw (← back) inv.1 in
    let own = gives from (admitted t Plain) (i - 1) _ _ old refl in
    rw (c.pass_sibling.ensures.marked, c.pass_sibling.ensures.flagged) (
      simp length-set inv.0,
      gathered_down _ _ _ (rows t) (i - 1) _ _ low after (λ q l. rw (← own) (sibling_flag t seen (i - 1) _ _ flag q)),
      down_more _ (rows t) from c.loop-i.marks (i - 1) _ (rw (← back) inv.2) (omega (arith, c.requires.long)) (earlier_hit _ _ _ low c.requires.parents _ after),
    )

pub returns : goal.returns
returns c = down_hits _ _ _ _ _ (let e : c.loop-i.i ≡ 0 = omega arith in rw (← e) c.loop-i.invariant.2) refl
