-- What `reach` asks of a table's parents holds of an accepted table.
-- Assumes nothing.
use Prim.Native.Nat.{ℕ}
use mathlib.Core.Path.{◌≡◌}
use mathlib.Core.Bool.{true}
use mathlib.Core.List.{List}
use Rattle.meaning.specs.Table.{accepted}
use Rattle.meaning.proofs.Tables.{parent_first}
use Rattle.reach.specs.Reach.{Rooted}

-- an accepted table's parents stand before their children
pub accepted_rooted : (t : List ℕ) → accepted t ≡ true → Rooted t
unfolding Rooted
accepted_rooted t acc = parent_first t acc
