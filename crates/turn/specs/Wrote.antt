-- What the pen has written.
-- Assumes nothing: these are definitions.
use Rattle.std.specs.Prelude.{ℕ, ◌+◌, ◌*◌, ◌≡◌, List}
use Rattle.std.proofs.lemmas.List.Edits.{sets}
use Rattle.turn.specs.declared.pen.Pen.{Pen}

-- these n rows behind those that stood, in the same output
pub record Wrote (before after : Pen) (rows : List ℕ) (n : ℕ) : Type 0 where
  pub same : after.out.ghost_name ≡ before.out.ghost_name
  pub next : after.at ≡ before.at + n
  pub stored : after.out.now ≡ sets before.out.now (5 * before.at) rows
