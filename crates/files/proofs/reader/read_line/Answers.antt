-- `files::reader::read_line` meets its contract: no line is found where its key, its number or its line feed is not there.
-- Assumes nothing.
use Rattle.std.proofs.Common.{◌≡◌, sym, ◌∙◌, true, get_or, arith}
use lib.Dec.{eqb}
use Rattle.files.proofs.Keyed.{feed_inside, no_key, no_number, no_feed, line_found}
use Rattle.files.proofs.reader.read_line.Goals as goal

pub returns-then-not-stands_at : goal.returns-then-not-stands_at
returns-then-not-stands_at c = no_key _ _ _ (sym c.stands_at.ensures ∙ c.if-not-stands_at.true)

pub returns-in_err-n : goal.returns-in_err-n
returns-in_err-n c = rw c.from_residual.ensures (no_number _ _ _ (sym c.read.ensures ∙ c.in_err-n.was))

pub returns-then-not-feed_at : goal.returns-then-not-feed_at
returns-then-not-feed_at c = no_feed _ _ _ _ _ (sym c.read.ensures ∙ c.in_ok-n.was) (sym c.feed_at.ensures ∙ c.if-not-feed_at.true)

pub overflow_add-result : goal.overflow_add-result
overflow_add-result c =
    let fed : eqb (get_or c.args.file.now c.in_ok-n.end 0) 10 ≡ true = sym c.feed_at.ensures ∙ c.if-not-feed_at.false in
    omega (arith, feed_inside c.args.file.now _ fed)

pub returns : goal.returns
returns c =
    let fed : eqb (get_or c.args.file.now c.in_ok-n.end 0) 10 ≡ true = sym c.feed_at.ensures ∙ c.if-not-feed_at.false in
    line_found _ _ _ _ _ (sym c.read.ensures ∙ c.in_ok-n.was) (sym c.stands_at.ensures ∙ c.if-not-stands_at.false) fed
