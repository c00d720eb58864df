-- A path turned round (document 01, "Turning round"; document 02, W-209): which steps count, which are on the attribute axis, inverse axes,
-- the turned tree, rows in postorder.
-- Assumes nothing: these are definitions.
use Rattle.std.specs.Prelude.{ℕ, ◌+◌, Bool, false, ◌&&◌, ◌||◌, not, cond, List, [], ◌∷◌, ◌++◌, get_or, eqb}
use Rattle.meaning.specs.Axis.{last_axis}
use Rattle.meaning.specs.declared.Op.{Op}
use Rattle.meaning.specs.declared.Op.TheVariants.{Step}
use Rattle.meaning.specs.Rows.{code, is_number, is_literal}
use Rattle.meaning.specs.Tree.{Tree, none, node}

-- ops 2 and 3, position() and last()
unfoldable pub contextual : Op → Bool
contextual op = eqb (code op) 2 || eqb (code op) 3

-- ops 20 and 21, over a path of their own
unfoldable pub over_path : Op → Bool
over_path op = eqb (code op) 20 || eqb (code op) 21

-- is the expression a number?
unfoldable pub numeric : Tree → Bool
numeric none = false
numeric (node op a b c d) = is_number op

-- does the expression hold op 2 or 3 not inside a path of its own?
unfoldable pub asks : Tree → Bool
asks none = false
asks (node op a b c d) = contextual op || (not (over_path op) && (asks a || asks b))

-- a step counts if one of its predicates is a number, or holds op 2 or 3 not inside a path of its own
unfoldable pub counting : Tree → Bool
counting none = false
counting (node op a b c d) = counting a || (numeric b || asks b)

-- the number of steps of a chain
unfoldable pub steps : Tree → ℕ
steps none = 0
steps (node op a b c d) = steps a + 1

-- do the predicates and the axis of some step of a chain fit?
unfoldable pub some_step : (Tree → ℕ → Bool) → Tree → Bool
some_step fit none = false
some_step fit (node op a b c d) = some_step fit a || fit b c

-- the number, from 1, of the first step of a chain whose predicates and axis fit; 0 where none does
unfoldable pub first_step : (Tree → ℕ → Bool) → Tree → ℕ
first_step fit none = 0
first_step fit (node op a b c d) =
    let r : ℕ = first_step fit a in
    cond (eqb r 0) (cond (fit b c) (steps a + 1) 0) r

-- does a step count: by its predicates
abbrev pub is_counting : Tree → ℕ → Bool
is_counting predicates axis = counting predicates

-- is it on the attribute axis?
abbrev pub is_of_attributes : Tree → ℕ → Bool
is_of_attributes predicates axis = eqb axis last_axis

-- does a step of a chain count? Is one on the attribute axis?
abbrev pub counts : Tree → Bool
counts s = some_step is_counting s

abbrev pub of_attributes : Tree → Bool
of_attributes s = some_step is_of_attributes s

-- inverse axes: 0 with itself; 1 and 2, 3 and 4, 5 and 6, 7 and 8, 9 and 10 with each other; 11 has none, and 0 fills its place
abbrev pub inverses : List ℕ
inverses = 0 ∷ 2 ∷ 1 ∷ 4 ∷ 3 ∷ 6 ∷ 5 ∷ 8 ∷ 7 ∷ 10 ∷ 9 ∷ 0 ∷ []

unfoldable pub inverse_of : ℕ → ℕ
inverse_of n = get_or inverses n 0

-- the predicates P and the test t of a chain's last step; before the first step stands node()
unfoldable pub predicates : Tree → Tree
predicates none = none
predicates (node op a b c d) = b

unfoldable pub test : Tree → ℕ
test none = 0
test (node op a b c d) = d

-- for i from k down to 1, behind the steps `done`: the inverse of ai with t(i-1) P(i-1), at i = 1 with node()
unfoldable pub back : Tree → Tree → Tree
back none done = done
back (node op a b c d) done = back a (node Step done (predicates a) (inverse_of c) (test a))

-- the turned path is self::tk Pk, then the steps back
unfoldable pub turned : Tree → Tree
turned none = none
turned (node op a b c d) = node op (back a (node Step none (predicates a) 0 (test a))) none 0 0

-- the number of rows of a tree
unfoldable pub weight : Tree → ℕ
weight none = 0
weight (node op a b c d) = weight a + weight b + 1

-- the link to a tree whose rows begin at row n: its last row's number plus one
unfoldable pub link : ℕ → Tree → ℕ
link n none = 0
link n (node op a b c d) = n + weight (node op a b c d)

-- a row: its op, its links (of a literal: its index), its axis and test
unfoldable pub row : Op → ℕ → ℕ → ℕ → ℕ → List ℕ
row op l m c d = code op ∷ cond (is_literal op) c l ∷ m ∷ cond (is_literal op) 0 c ∷ d ∷ []

-- rows in postorder, the whole of a before the whole of b, then the row itself; the first is row n
unfoldable pub written : ℕ → Tree → List ℕ
written n none = []
written n (node op a b c d) = written n a ++ (written (n + weight a) b ++ row op (link n a) (link (n + weight a) b) c d)
