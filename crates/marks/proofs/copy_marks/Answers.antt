-- `marks::copy_marks` meets its contract: the rows come first in both sets.
-- Assumes nothing.
use Rattle.std.proofs.Common.{◌<◌, false, arith, length, drop}
use Rattle.std.proofs.lemmas.List.{get_or_append_left, get_or-take, length-take-le}
use Rattle.meaning.proofs.Marks.{listed, listed_by}
use Rattle.marks.proofs.copy_marks.Goals as goal

pub returns : goal.returns
unfolding listed
returns c =
    let n = c.row_count-n.result in
    let to = c.copy_from_slice.new.self in
    let copied = c.copy_from_slice.ensures.after in
    let all = length-take-le n c.args.to.now (omega (arith, c.requires, c.row_count-n.ensures)) in
    listed_by _ _ _ (λ y l.
    let low : y < n = omega (arith, c.row_count-n.ensures) in
    let there : y < length to = omega (arith, all, c.copy_from_slice.ensures.len) in
    rw (get_or_append_left to (drop n c.args.to.now) false y there, copied, get_or-take n c.args.from.now y false low))
