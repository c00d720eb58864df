-- What a pass over the rows behind a sound root knows.
-- Assumes nothing: this is a definition.
use Rattle.std.specs.Prelude.{ℕ, ◌<◌, ◌≡◌, false, List}
use Rattle.table_check.specs.Next.{Next}
use Rattle.table_check.specs.Names.{Seen, stopped}

-- with room for the names below k it stopped at no row below i; it knows where the next child of each of them must stand, and the last
-- element among them with an attribute of each name
pub record Passing (t : List ℕ) (k i : ℕ) (last seen : List ℕ) : Type 0 where
  pub passed : (j : ℕ) → j < i → stopped t k j ≡ false
  pub known : Next t i last
  pub names : Seen t i seen
