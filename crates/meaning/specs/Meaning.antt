-- What a path selects (document 01, "Meaning") in an edition of the rule sheets (document 02, W-210). Numbers are IEEE 754 doubles by the
-- kit's account, `lib.Ieee`.
-- Assumes nothing: these are definitions.
use Rattle.std.specs.Prelude.{ℕ, ◌+◌, Bool, false, ◌&&◌, ◌||◌, not, cond, List, [], ◌∷◌, length, get_or, ltb, eqb, pos, Float}
use Rattle.std.specs.Float.{binary64, nan}
use Rattle.std.specs.Float.Ieee.{is_nan, of_int}
use Rattle.std.specs.Float.Ieee as Ieee
use Rattle.meaning.specs.Lists.{up_to, keep, some, has}
use Rattle.meaning.specs.Table.{rows}
use Rattle.meaning.specs.Axis.{axis_of, test_of, candidates}
use Rattle.meaning.specs.declared.Op.{Op}
use Rattle.meaning.specs.declared.Op.TheVariants.{Absolute, Add, And, Count, Divide, Equal, Exists, Greater, GreaterEqual, Last, Less, LessEqual, Literal, Multiply, Negate, Negation, Or, Position, Predicate, Relative, Remainder, Step, Subtract, TruthOf, Unequal, Unknown}
use Rattle.meaning.specs.Rows.{code}
use Rattle.meaning.specs.Tree.{Tree, none, node}
use Rattle.meaning.specs.declared.Value.{Value}
use Rattle.meaning.specs.declared.Value.TheVariants.{Truth, Number}
use Rattle.meaning.specs.declared.Context.{Context}

-- a whole number as a double
unfoldable pub float : ℕ → Float
float n = of_int binary64 (pos n)

-- the value of an expression is either a truth or a number
abbrev pub number_of : Value → Float
number_of (Truth b) = nan
number_of (Number x) = x

abbrev pub truth_of : Value → Bool
truth_of (Truth b) = b
truth_of (Number x) = false

-- a predicate that is a number keeps the node whose position equals it
abbrev pub holds : Value → Float → Bool
holds (Truth b) position = b
holds (Number x) position = Ieee.eq x position

-- the truth of a number: neither zero nor NaN
unfoldable pub nonzero : Float → Bool
nonzero x = not (is_nan x || Ieee.eq x (float 0))

-- the table of ops: i is a literal's index, u and v are the operands, n is how many nodes the op's path selects
unfoldable pub applied : List Float → Op → ℕ → Value → Value → ℕ → Context → Value
applied literals Literal i u v n x = Number (get_or literals i nan)
applied literals Position i u v n x = Number x.position
applied literals Last i u v n x = Number x.size
applied literals Add i u v n x = Number (Ieee.add binary64 (number_of u) (number_of v))
applied literals Subtract i u v n x = Number (Ieee.sub binary64 (number_of u) (number_of v))
applied literals Multiply i u v n x = Number (Ieee.mul binary64 (number_of u) (number_of v))
applied literals Divide i u v n x = Number (Ieee.div binary64 (number_of u) (number_of v))
applied literals Remainder i u v n x = Number (Ieee.rem binary64 (number_of u) (number_of v))
applied literals Negate i u v n x = Number (Ieee.neg (number_of u))
applied literals Equal i u v n x = Truth (Ieee.eq (number_of u) (number_of v))
applied literals Unequal i u v n x = Truth (Ieee.ne (number_of u) (number_of v))
applied literals Less i u v n x = Truth (Ieee.lt (number_of u) (number_of v))
applied literals LessEqual i u v n x = Truth (Ieee.le (number_of u) (number_of v))
applied literals Greater i u v n x = Truth (Ieee.lt (number_of v) (number_of u))
applied literals GreaterEqual i u v n x = Truth (Ieee.le (number_of v) (number_of u))
applied literals And i u v n x = Truth (truth_of u && truth_of v)
applied literals Or i u v n x = Truth (truth_of u || truth_of v)
applied literals Negation i u v n x = Truth (not (truth_of u))
applied literals TruthOf i u v n x = Truth (nonzero (number_of u))
applied literals Exists i u v n x = Truth (ltb 0 n)
applied literals Count i u v n x = Number (float n)
applied literals Relative i u v n x = Truth false
applied literals Absolute i u v n x = Truth false
applied literals Step i u v n x = Truth false
applied literals Predicate i u v n x = Truth false
applied literals Unknown i u v n x = Truth false

-- keeps the nodes at which f holds, positions counted from i
unfoldable pub keep_at : (ℕ → ℕ → Bool) → ℕ → List ℕ → List ℕ
keep_at f i [] = []
keep_at f i (y ∷ ys) = cond (f y i) (y ∷ keep_at f (i + 1) ys) (keep_at f (i + 1) ys)

unfoldable pub is_absolute : Op → Bool
is_absolute op = eqb (code op) 23

-- a relative path starts from the given node x, an absolute one from node 0: the set of that one node of the table
unfoldable pub start_of : List ℕ → Op → ℕ → List ℕ
start_of t op x = keep (eqb (cond (is_absolute op) 0 x)) (up_to (rows t))

-- each step takes every node of the set so far, and the union goes on
unfoldable pub union : List ℕ → (ℕ → List ℕ) → List ℕ → List ℕ
union t step set = keep (λ y. some (λ x. has (step x) y) set) (up_to (rows t))

module _ (edition : ℕ) (t : List ℕ) (literals : List Float) where
  unfoldable mutual
    -- the value of an expression in a context
    pub value : Tree → Context → Value
    value none x = Truth false
    value (node op a b c d) x =
        let u : Value = value a x in
        let v : Value = value b x in
        let n : ℕ = length (select a x.node) in
        applied literals op c u v n x

    -- the nodes that a path selects from node x
    pub select : Tree → ℕ → List ℕ
    select none x = []
    select (node op a b c d) x = walk a (start_of t op x)

    -- the nodes that a chain of steps reaches from a set
    pub walk : Tree → List ℕ → List ℕ
    walk none set = set
    walk (node op a b c d) set =
        union t (λ x. filtered b (candidates edition t (axis_of c) (test_of d) x)) (walk a set)

    -- predicates work in turn; after each, positions run from 1 again over those kept and last() is their count
    pub filtered : Tree → List ℕ → List ℕ
    filtered none l = l
    filtered (node op a b c d) l =
        let kept : List ℕ = filtered a l in
        keep_at (λ y i. holds (value b (record { node = y; position = float i; size = float (length kept) })) (float i)) 1 kept
