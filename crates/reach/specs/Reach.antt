-- What an axis, or the way back along it, reaches from a set of nodes, as marks: a Bool for each row, in and out.
-- Assumes nothing: these are definitions.
use Rattle.std.specs.Prelude.{ℕ, ◌<◌, ◌≤◌, ◌≡◌, Bool, true, false, ◌&&◌, not, List, length, get_or}
use Rattle.meaning.specs.Lists.{up_to, some}
use Rattle.meaning.specs.Table.{most_rows, rows, parent_of, is_attribute}
use Rattle.reach.specs.declared.Asked.{Asked}
use Rattle.reach.specs.declared.Asked.TheVariants.{All, Plain, Attributes}

-- is y what r says of some marked x?
unfoldable pub hit : List ℕ → (ℕ → ℕ → Bool) → List Bool → ℕ → Bool
hit t r from y = some (λ x. get_or from x false && r x y) (up_to (rows t))

-- a row is marked exactly if it is what r says of some marked row: on its axis, or with it on its own axis
unfoldable pub Hits : List ℕ → (ℕ → ℕ → Bool) → List Bool → List Bool → Type 0
Hits t r from to = (y : ℕ) → y < rows t → get_or to y false ≡ hit t r from y

-- is row i one of those asked for: of all rows, of those that are no attributes, or of the attributes?
unfoldable pub admitted : List ℕ → Asked → ℕ → Bool
admitted t All i = true
admitted t Plain i = not (is_attribute t i)
admitted t Attributes i = is_attribute t i

-- no row's parent stands after it
unfoldable pub Rooted : List ℕ → Type 0
Rooted t = (y : ℕ) → y < rows t → parent_of t y ≤ y

-- what is asked of a table and its marks: no more rows than a table may have, a mark for each row, parents before their children
pub record Room (t : List ℕ) (marks : List Bool) : Type 0 where
  pub small : rows t ≤ most_rows
  pub long : rows t ≤ length marks
  pub parents : Rooted t

-- a number that no subtree's end reaches: a row's number and its size have 32 bits each
abbrev pub beyond : ℕ
beyond = 8589934592
