-- `candidates::list_subtree` meets its contract: the descendants with x itself are the rows of the range.
-- Assumes nothing.
use mathlib.Core.Path.{sym, ◌∙◌}
use Rattle.meaning.specs.Axis.{principal, candidates}
use Rattle.meaning.proofs.Lists.{keep_keep}
use Rattle.meaning.proofs.Ranges.{subtree_range}
use Rattle.candidates.proofs.list_subtree.Goals as goal

pub returns : goal.returns
unfolding candidates principal
returns c =
    let done = c.list_range.ensures in
    let past = c.past_subtree-past.ensures in
    (done.0 ∙ sym (rw (subtree_range _ _ _ past) (keep_keep _ _ _)), done.1)
