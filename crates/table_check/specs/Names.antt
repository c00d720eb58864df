-- What the table checker knows of attributes' names on its way.
-- Assumes nothing: these are definitions.
use Rattle.std.specs.Prelude.{ℕ, ◌<◌, ◌≤◌, ◌≡◌, Bool, ◌&&◌, ◌||◌, List, get_or, T, leb}
use Rattle.meaning.specs.Table.{name, parent_of, is_attribute, broken}

-- is row i an attribute whose name is not below k?
unfoldable pub unlisted : List ℕ → ℕ → ℕ → Bool
unlisted t k i = is_attribute t i && leb k (name t i)

-- does a pass with room for the names below k stop at row i: is it broken, or has its name no room?
unfoldable pub stopped : List ℕ → ℕ → ℕ → Bool
stopped t k i = broken t i || unlisted t k i

-- with the rows below i passed, seen has for each name the last element with an attribute of that name, and 0 where there is none
pub record Seen (t : List ℕ) (i : ℕ) (seen : List ℕ) : Type 0 where
  pub some : (n : ℕ) → 0 < get_or seen n 0 → (j : ℕ) × (j < i) × T (is_attribute t j) × (name t j ≡ n) × (parent_of t j ≡ get_or seen n 0)
  pub last : (j : ℕ) → j < i → T (is_attribute t j) → parent_of t j ≤ get_or seen (name t j) 0
