-- The answers of `tokens::runs::run_end`: what its code leaves to show, by the invariant beside this file. Assumes nothing.
use Rattle.std.proofs.Common.{arith, sym, ◌∙◌}
use Rattle.text.proofs.Lexemes.{run_on, run_stop, run_past}
use Rattle.tokens.proofs.runs.run_end.Goals as goal

pub returns-then-not-does_pass : goal.returns-then-not-does_pass
returns-then-not-does_pass c =
    let a = c.args in
    let p = sym c.does_pass.ensures ∙ c.if-not-does_pass.true in
    (sym (run_stop a.run a.text.now c.loop-at.at (omega arith) p) ∙ c.loop-at.invariant, omega arith, omega arith)

pub loop-at-preserved : goal.loop-at-preserved
loop-at-preserved c =
    let a = c.args in
    let p = sym c.does_pass.ensures ∙ c.if-not-does_pass.false in
    run_on a.run a.text.now c.loop-at.at (omega arith) p ∙ c.loop-at.invariant

pub returns : goal.returns
returns c =
    let a = c.args in
    let ends = run_past a.run a.text.now c.loop-at.at c.loop-at-test.false in
    (omega (arith, ends, c.loop-at.invariant), omega arith, omega arith)
