-- `names::add_line` meets its contract: the stores are those of one line more.
-- Assumes nothing.
use native.Mathlib.Omega.{arith}
use native.Mathlib.Numerals.{add-one}
use mathlib.Core.Path.{◌≡◌, ap, ◌∙◌}
use lib.ListN.{length, length-set}
use Rattle.names.specs.Index.{hash_of, line_hash}
use Rattle.names.proofs.Lines.{line_part}
use Rattle.names.proofs.Indexing.{indexed_more}
use Rattle.names.proofs.Matching.{line_limits}
use Rattle.names.proofs.add_line.Goals as goal

pub slice_bounds-hash-end : goal.slice_bounds-hash-end
slice_bounds-hash-end c = (line_limits _ _ _ _ c.requires.1).2

pub bounds-nexts-0 : goal.bounds-nexts-0
bounds-nexts-0 c =
    let room = c.requires.2 in
    rw length-set (omega (arith, room.chained))

pub returns : goal.returns
unfolding line_hash
returns c =
    let list = c.args.list.now in
    let line = c.args.line in
    let from = c.requires.1 in
    let hash = c.hash-slot.ensures in
    let slot : c.hash-slot.result ≡ line_hash list (length c.args.heads.now) line =
    hash.0 ∙ ap (hash_of _) (line_part list line _ _ from.begins from.ends) in
    rw (add-one line, c.note_start.ensures)
    (indexed_more list line _ _ _ _ _ c.requires.0 c.requires.2 slot hash.1 from.begins)
