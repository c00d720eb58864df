-- The answers of `tokens::words::class_among`: the entry that is looked at is the word's, or the table goes on behind it. Assumes nothing.
use Rattle.std.proofs.Common.{rules, tests, [], sym, ◌∙◌}
use Rattle.tokens.specs.declared.Class.TheVariants.{Opening}
use Rattle.tokens.proofs.Sought.{among_here, among_behind}
use Rattle.tokens.proofs.words.class_among.Goals as goal

pub returns-then-eq : goal.returns-then-eq
returns-then-eq c =
    sym (among_here c.args.table.now c.args.other c.args.word.now c.loop-name.name-index (record { ref_ptr = (0, 0); now = [] }, Opening) c.loop-name-test.true (search (rules, tests)))
    ∙ c.loop-name.invariant

pub loop-name-preserved : goal.loop-name-preserved
loop-name-preserved c =
    sym (among_behind c.args.table.now c.args.other c.args.word.now c.loop-name.name-index (record { ref_ptr = (0, 0); now = [] }, Opening) c.loop-name-test.true (search (rules, tests)))
    ∙ c.loop-name.invariant
