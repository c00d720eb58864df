-- What the table checker knows on its way: the table's first element, and where the next child of each row that it has passed must stand.
-- Assumes nothing: these are definitions.
use Rattle.std.specs.Prelude.{ℕ, ◌+◌, ◌<◌, ◌≡◌, Bool, true, false, ◌&&◌, Option, Some, None, List, get_or, leb}
use Rattle.meaning.specs.Lists.{lowest}
use Rattle.meaning.specs.Table.{kind, name, size, rows, end, is_element, good_root, good_name, good_size, good_parent, broken}

-- the lowest row of kind 1, and the row count where there is none
abbrev pub first_element : List ℕ → ℕ
first_element t = lowest (is_element t) (rows t)

-- the lowest number below n with p, if there is one
abbrev pub Lowest : (ℕ → Bool) → ℕ → Option ℕ → Type 0
Lowest p n (Some i) = (i < n) × (i ≡ lowest p n)
Lowest p n None = n ≡ lowest p n

-- the first element behind a good root, and none behind any other
abbrev pub RootIs : List ℕ → Option ℕ → Type 0
RootIs t (Some i) = (good_root t ≡ true) × (i ≡ first_element t)
RootIs t None = good_root t ≡ false

-- what the rules ask of a row's own numbers: kinds 1 to 5, its name, its size
abbrev pub good_numbers : ℕ → ℕ → ℕ → Bool
good_numbers kind name size = leb 1 kind && leb kind 5 && good_name kind name && good_size kind size

-- of row i: those, and its parent
abbrev pub well_placed : List ℕ → ℕ → Bool
well_placed t i = good_numbers (kind t i) (name t i) (size t i) && good_parent t i

-- with the rows below i passed, m is where the next child of row p must stand: every row between p and m ends before m;
-- m is past i only behind such a row, and before i only where p's own subtree, which ends in the table, ends before m
pub record Stands (t : List ℕ) (i p m : ℕ) : Type 0 where
  pub within : end t p < rows t
  pub ended : (k : ℕ) → p < k → k < m → k < i → end t k < m
  pub taken : i < m → (k : ℕ) × (p < k) × (k < i) × (m ≡ end t k + 1)
  pub closed : m < i → end t p < m

-- so it is of every row below i, where last has the row before that place, the last one of p's subtree that was passed
unfoldable pub Next : List ℕ → ℕ → List ℕ → Type 0
Next t i last = (p : ℕ) → p < i → Stands t i p (get_or last p 0 + 1)

-- i is a row but not the root, and no row before it is broken
pub record Behind (t : List ℕ) (i : ℕ) : Type 0 where
  pub inner : 0 < i
  pub row : i < rows t
  pub sound : (j : ℕ) → j < i → broken t j ≡ false
