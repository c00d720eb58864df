-- The answers of `path_check::lowest_bad_literal`: the first bad literal is the lowest, and what was passed is allowed. Assumes nothing.
use Rattle.std.proofs.Common.{ℕ, List, ◌≡◌, ◌<◌, false, leb, sym, ◌∙◌, arith}
use Rattle.std.specs.Prelude.{Float}
use Rattle.meaning.proofs.Checks.{passed_start, passed_more, passed_found, passed_all}
use borrow.Author.Tests.{leb-false}
use Rattle.meaning.specs.Rows.{bad_literal_at}
use Rattle.meaning.proofs.Bools.{or_none_l}
use Rattle.path_check.proofs.lowest_bad_literal.Goals as goal

-- a literal that is allowed is among the first 64
among_first : (literals : List Float) (i : ℕ) → bad_literal_at literals i ≡ false → i < 64
unfolding bad_literal_at
among_first literals i h = leb-false 64 i (or_none_l (leb 64 i) _ h)

pub loop-i-init : goal.loop-i-init
loop-i-init c = (omega arith, passed_start _)

pub returns-then-is_bad_literal_at : goal.returns-then-is_bad_literal_at
returns-then-is_bad_literal_at c =
    (passed_found _ _ _ c.loop-i.invariant.1 (omega arith) (sym c.is_bad_literal_at.ensures ∙ c.if-is_bad_literal_at.true), omega arith, omega arith)

pub loop-i-preserved : goal.loop-i-preserved
loop-i-preserved c =
    let good = sym c.is_bad_literal_at.ensures ∙ c.if-is_bad_literal_at.false in
    (omega (arith, among_first _ _ good), passed_more _ _ c.loop-i.invariant.1 good)

pub returns : goal.returns
returns c = sym (passed_all _ _ _ c.loop-i.invariant.1 (omega arith)) ∙ omega arith
