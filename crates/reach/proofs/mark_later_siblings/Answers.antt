-- The answers of `reach::mark_later_siblings`: what its code leaves to show, by the invariant beside this file. Assumes nothing.
use Rattle.std.proofs.Common.{refl, ◌<◌, false, length, rules, arith}
use lib.ListN.{get_or-replicate}
use Rattle.std.proofs.lemmas.List.{length-set}
use Rattle.meaning.specs.Table.{rows, most_rows, parent_of}
use Rattle.meaning.proofs.Marks.{wrote_start, wrote_more, wrote_ahead}
use Rattle.reach.specs.declared.Asked.TheVariants.{Plain}
use Rattle.reach.specs.Reach.{admitted}
use Rattle.reach.proofs.Sweep.{gathered_start, gathered_more, gives, rooted, later_hit, up_hits, sibling_flag}
use Rattle.reach.proofs.mark_later_siblings.Goals as goal

pub loop-i-init : goal.loop-i-init
loop-i-init c = (search rules, gathered_start _ _ _ _ (λ y l. get_or-replicate most_rows y false false (omega (arith, c.requires.small))), wrote_start _ _)

pub pass_sibling-requires : goal.pass_sibling-requires
pass_sibling-requires c =
    let low : c.loop-i.i < rows c.args.table.now = omega (arith, c.row_count-i-end.ensures) in
    (low, omega (arith, low, c.requires.long), omega (arith, rooted _ c.requires.parents _ low, c.requires.small, c.loop-i.invariant.0))

pub loop-i-preserved : goal.loop-i-preserved
loop-i-preserved c =
    let inv = c.loop-i.invariant in
    let i = c.loop-i.i in
    let t = c.args.table.now in
    let low : i < rows t = omega (arith, c.row_count-i-end.ensures) in
    let old = wrote_ahead _ _ _ _ i inv.2 (omega arith) in
    let flag : parent_of t i < length c.loop-i.seen = omega (arith, rooted _ c.requires.parents _ low, c.requires.small, inv.0) in
    let own = gives c.args.marks.now (admitted t Plain) i _ _ old refl in
    rw (c.pass_sibling.ensures.marked, c.pass_sibling.ensures.flagged) (
      simp length-set inv.0,
      gathered_more _ _ _ _ _ _ inv.1 (λ q l. rw (← own) (sibling_flag t c.loop-i.seen i _ _ flag q)),
      wrote_more _ _ _ _ _ inv.2 (omega (arith, c.requires.long)) (later_hit _ _ _ low c.requires.parents _ inv.1),
    )

pub returns : goal.returns
returns c = up_hits _ _ _ _ _ c.loop-i.invariant.2 (omega (arith, c.row_count-i-end.ensures))
