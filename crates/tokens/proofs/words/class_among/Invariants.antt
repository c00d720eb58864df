-- The loop's invariant of `tokens::words::class_among`: the class beside the word among the entries that are left is the one in the whole table.
-- Assumes nothing.
use Rattle.std.proofs.Common.{◌≡◌, drop}
use Rattle.tokens.proofs.Sought.{among}
use Rattle.tokens.proofs.words.class_among.Given as goal

abbrev pub invariant-loop-name : goal.invariant-loop-name
invariant-loop-name l = among (drop l.name-index l.table) l.other l.word ≡ among l.table l.other l.word
