-- `cover::cover_active` meets its contract: the rows that are retained from all are the active ones.
-- Assumes nothing.
use mathlib.Core.Bool.{true, false}
use lib.ListN.{get_or-replicate}
use native.Mathlib.Omega.{arith}
use Rattle.meaning.specs.Table.{most_rows}
use Rattle.cover.proofs.Covering.{covers_active}
use Rattle.cover.proofs.cover_active.Goals as goal

pub returns : goal.returns
returns c =
    covers_active _ _ _ _ _ _ _ _ _ _ _ c.row_count.ensures (λ y l. get_or-replicate most_rows y true false (omega (arith, l, c.requires.ready.small))) c.retain.ensures c.cover.ensures
