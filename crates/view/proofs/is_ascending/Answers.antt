-- The answers of `view::is_ascending`: what its code leaves to show, by the invariant beside this file. Assumes nothing.
use Rattle.std.proofs.Common.{◌∙◌, sym, ap, not}
use Rattle.meaning.proofs.Checks.{passed_start, passed_more}
use Rattle.meaning.proofs.View.{ascending_whole, ascending_broken}
use Rattle.view.proofs.is_ascending.Goals as goal

pub loop-i-init : goal.loop-i-init
loop-i-init c = passed_start _

pub returns-then-not-entry_fits : goal.returns-then-not-entry_fits
returns-then-not-entry_fits c = sym (ascending_broken _ _ _ c.loop-i-test.true (sym c.entry_fits.ensures ∙ c.if-not-entry_fits.true))

pub loop-i-preserved : goal.loop-i-preserved
loop-i-preserved c = passed_more _ _ c.loop-i.invariant (ap not (sym c.entry_fits.ensures ∙ c.if-not-entry_fits.false))

pub returns : goal.returns
returns c = sym (ascending_whole _ _ _ c.loop-i-test.false c.loop-i.invariant)
