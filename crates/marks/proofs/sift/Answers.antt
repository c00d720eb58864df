-- `marks::sift` meets its contract: each test's pass is that of the test that is read in edition 2.
-- Assumes nothing.
use Rattle.std.proofs.Common.{false, sym, ◌∙◌, get_or}
use mathlib.Core.Bool.{and-true}
use Rattle.meaning.specs.Axis.{passes}
use Rattle.axes.proofs.Seconds.{second_passes}
use Rattle.marks.specs.Sets.{Sifted}
use Rattle.marks.proofs.Sifting.{by_second}
use Rattle.marks.proofs.sift.Goals as goal

pub returns-in-AnyNode : goal.returns-in-AnyNode
unfolding Sifted passes
returns-in-AnyNode c y l = rw (second_passes, ← c.in_second.ensures, c.in-AnyNode.is) (sym (and-true (get_or c.args.marks.now y false)))

pub returns-in-Star : goal.returns-in-Star
returns-in-Star c = by_second c.args.edition c.args.table.now c.args.axis c.args.test _ c.args.marks.now _ (sym c.in_second.ensures ∙ c.in-Star.is) c.keep_passing.ensures

pub returns-in-Text : goal.returns-in-Text
returns-in-Text c = by_second c.args.edition c.args.table.now c.args.axis c.args.test _ c.args.marks.now _ (sym c.in_second.ensures ∙ c.in-Text.is) c.keep_passing-in-Text.ensures

pub returns-in-Comment : goal.returns-in-Comment
returns-in-Comment c = by_second c.args.edition c.args.table.now c.args.axis c.args.test _ c.args.marks.now _ (sym c.in_second.ensures ∙ c.in-Comment.is) c.keep_passing-in-Comment.ensures

pub returns-in-Instruction : goal.returns-in-Instruction
returns-in-Instruction c = by_second c.args.edition c.args.table.now c.args.axis c.args.test _ c.args.marks.now _ (sym c.in_second.ensures ∙ c.in-Instruction.is) c.keep_passing-in-Instruction.ensures

pub returns-in-Named : goal.returns-in-Named
returns-in-Named c = by_second c.args.edition c.args.table.now c.args.axis c.args.test _ c.args.marks.now _ (sym c.in_second.ensures ∙ c.in-Named.is) c.keep_passing-in-Named.ensures
