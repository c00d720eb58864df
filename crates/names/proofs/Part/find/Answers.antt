-- The answers of `names::Part::find`: the search goes along the chain of the word's hash.
use Rattle.std.proofs.Common.{◌≡◌, sym, ◌∙◌, arith}
use Rattle.names.proofs.Chains.{placed, searching_starts, searching_more, searching_found, searching_none}
use Rattle.names.proofs.Part.find.Goals as goal

pub loop-number-init : goal.loop-number-init
loop-number-init c =
    let hash = c.hash-slot.ensures in
    searching_starts _ _ _ _ _ c.args.self.now.indexed _ _ hash.0 hash.1

pub is_line-requires : goal.is_line-requires
is_line-requires c = placed _ _ _ _ _ c.args.self.now.indexed _ (omega (arith, c.loop-number.invariant.within))

pub returns-then-is_line : goal.returns-then-is_line
returns-then-is_line c =
    let same = sym c.is_line.ensures ∙ c.if-is_line.true in
    searching_found _ _ _ _ _ c.args.self.now.indexed _ _ c.loop-number-test.true c.loop-number.invariant same

pub loop-number-smaller : goal.loop-number-smaller
loop-number-smaller c =
    let next = searching_more _ _ _ _ _ c.args.self.now.indexed _ _ c.loop-number-test.true c.loop-number.invariant (sym c.is_line.ensures ∙ c.if-is_line.false) in
    next.0

pub loop-number-preserved : goal.loop-number-preserved
loop-number-preserved c =
    let next = searching_more _ _ _ _ _ c.args.self.now.indexed _ _ c.loop-number-test.true c.loop-number.invariant (sym c.is_line.ensures ∙ c.if-is_line.false) in
    next.1

pub returns : goal.returns
returns c =
    let z : c.loop-number.number ≡ 0 = omega arith in
    searching_none _ _ _ _ _ c.args.self.now.indexed _ (rw z at c.loop-number.invariant)
