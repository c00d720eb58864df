-- The path form (document 01, "The path form"): five numbers a row, op, a, b, c, d; beside it the literals.
-- Assumes nothing: these are definitions.
use Rattle.std.specs.Prelude.{ℕ, ◌+◌, ◌-◌, ◌*◌, ◌/◌, ◌%◌, Bool, true, false, ◌&&◌, ◌||◌, not, cond, List, [], ◌∷◌, length, get_or, leb, ltb, eqb, Float}
use Rattle.std.specs.Float.{binary64, nan}
use Rattle.std.specs.Float.Ieee.{is_nan, to_bits}
use Rattle.meaning.specs.Lists.{up_to, some}
use Rattle.meaning.specs.Axis.{last_axis}
use Rattle.meaning.specs.declared.Op.{Op}
use Rattle.meaning.specs.declared.Op.TheVariants.{Absolute, Add, And, Count, Divide, Equal, Exists, Greater, GreaterEqual, Last, Less, LessEqual, Literal, Multiply, Negate, Negation, Or, Position, Predicate, Relative, Remainder, Step, Subtract, TruthOf, Unequal, Unknown}
use Rattle.meaning.specs.declared.Field.{Field}
use Rattle.meaning.specs.declared.Field.TheVariants.{AxisNumber, ExpressionLink, LiteralIndex, NumberLink, PathLink, PredicateOrNone, StepLink, StepOrNone, TestNumber, TruthLink, Unused}
use Rattle.meaning.specs.declared.Fields.{Fields}

-- the most rows of a path, and the most literals
abbrev pub most_path_rows : ℕ
most_path_rows = 256

abbrev pub most_literals : ℕ
most_literals = 64

-- field f of row r: op, a, b, c, d are 0 to 4
abbrev pub field : List ℕ → ℕ → ℕ → ℕ
field p r f = get_or p (5 * r + f) 0

abbrev pub rows_of : List ℕ → ℕ
rows_of p = length p / 5

-- a multiple of 5, and 1 to 256 rows
unfoldable pub path_length_allowed : List ℕ → Bool
path_length_allowed p = eqb (length p % 5) 0 && leb 1 (rows_of p) && leb (rows_of p) most_path_rows

-- a literal has bits below 0x7FF0000000000000 (finite, sign bit clear)
unfoldable pub bad_literal : Float → Bool
bad_literal x = is_nan x || leb 0x7FF0000000000000 (to_bits binary64 x)

-- is the literal at index i not allowed, or past the 64th?
unfoldable pub bad_literal_at : List Float → ℕ → Bool
bad_literal_at literals i = leb most_literals i || bad_literal (get_or literals i nan)

-- ops 1 to 25, each at its number
abbrev pub ops : List Op
ops =
    Unknown ∷ Literal ∷ Position ∷ Last ∷ Add ∷ Subtract ∷ Multiply ∷ Divide ∷ Remainder ∷ Negate
    ∷ Equal ∷ Unequal ∷ Less ∷ LessEqual ∷ Greater ∷ GreaterEqual ∷ And ∷ Or ∷ Negation ∷ TruthOf ∷ Exists ∷ Count
    ∷ Relative ∷ Absolute ∷ Step ∷ Predicate ∷ []

unfoldable pub op_of : ℕ → Op
op_of n = get_or ops n Unknown

abbrev pub op_at : List ℕ → ℕ → Op
op_at p r = op_of (field p r 0)

-- what a field holds: nothing, a literal index, an axis, a test, or a link to a row of a sort; the last two may be no link
abbrev holding : Field → Field → Field → Field → Fields
holding a b c d = record { a = a; b = b; c = c; d = d }

-- the table of ops: what each op's fields hold
unfoldable pub fields_of : Op → Fields
fields_of Literal = holding LiteralIndex Unused Unused Unused
fields_of Position = holding Unused Unused Unused Unused
fields_of Last = holding Unused Unused Unused Unused
fields_of Add = holding NumberLink NumberLink Unused Unused
fields_of Subtract = holding NumberLink NumberLink Unused Unused
fields_of Multiply = holding NumberLink NumberLink Unused Unused
fields_of Divide = holding NumberLink NumberLink Unused Unused
fields_of Remainder = holding NumberLink NumberLink Unused Unused
fields_of Negate = holding NumberLink Unused Unused Unused
fields_of Equal = holding NumberLink NumberLink Unused Unused
fields_of Unequal = holding NumberLink NumberLink Unused Unused
fields_of Less = holding NumberLink NumberLink Unused Unused
fields_of LessEqual = holding NumberLink NumberLink Unused Unused
fields_of Greater = holding NumberLink NumberLink Unused Unused
fields_of GreaterEqual = holding NumberLink NumberLink Unused Unused
fields_of And = holding TruthLink TruthLink Unused Unused
fields_of Or = holding TruthLink TruthLink Unused Unused
fields_of Negation = holding TruthLink Unused Unused Unused
fields_of TruthOf = holding NumberLink Unused Unused Unused
fields_of Exists = holding PathLink Unused Unused Unused
fields_of Count = holding PathLink Unused Unused Unused
fields_of Relative = holding StepLink Unused Unused Unused
fields_of Absolute = holding StepOrNone Unused Unused Unused
fields_of Step = holding StepOrNone PredicateOrNone AxisNumber TestNumber
fields_of Predicate = holding PredicateOrNone ExpressionLink Unused Unused
fields_of Unknown = holding Unused Unused Unused Unused

-- the number of an op
unfoldable pub code : Op → ℕ
code Literal = 1
code Position = 2
code Last = 3
code Add = 4
code Subtract = 5
code Multiply = 6
code Divide = 7
code Remainder = 8
code Negate = 9
code Equal = 10
code Unequal = 11
code Less = 12
code LessEqual = 13
code Greater = 14
code GreaterEqual = 15
code And = 16
code Or = 17
code Negation = 18
code TruthOf = 19
code Exists = 20
code Count = 21
code Relative = 22
code Absolute = 23
code Step = 24
code Predicate = 25
code Unknown = 0

-- ops 1 to 9 and 21 are numbers; 10 to 20 are truths
unfoldable pub is_number : Op → Bool
is_number op = (leb 1 (code op) && leb (code op) 9) || eqb (code op) 21

unfoldable pub is_truth : Op → Bool
is_truth op = leb 10 (code op) && leb (code op) 20

-- relative and absolute paths are 22 and 23, a step is 24, a predicate 25, a literal 1
unfoldable pub is_path : Op → Bool
is_path op = eqb (code op) 22 || eqb (code op) 23

unfoldable pub is_step : Op → Bool
is_step op = eqb (code op) 24

unfoldable pub is_predicate : Op → Bool
is_predicate op = eqb (code op) 25

unfoldable pub is_literal : Op → Bool
is_literal op = eqb (code op) 1

unfoldable pub is_unknown : Op → Bool
is_unknown op = eqb (code op) 0

-- is the field a link field?
unfoldable pub is_link : Field → Bool
is_link Unused = false
is_link LiteralIndex = false
is_link AxisNumber = false
is_link TestNumber = false
is_link NumberLink = true
is_link TruthLink = true
is_link ExpressionLink = true
is_link PathLink = true
is_link StepLink = true
is_link StepOrNone = true
is_link PredicateOrNone = true

-- may a field of this kind hold a link to a row of this op?
unfoldable pub takes : Field → Op → Bool
takes Unused op = false
takes LiteralIndex op = false
takes AxisNumber op = false
takes TestNumber op = false
takes NumberLink op = is_number op
takes TruthLink op = is_truth op
takes ExpressionLink op = is_number op || is_truth op
takes PathLink op = is_path op
takes StepLink op = is_step op
takes StepOrNone op = is_step op
takes PredicateOrNone op = is_predicate op

-- may a field of this kind be 0, for no link?
unfoldable pub may_miss : Field → Bool
may_miss Unused = false
may_miss LiteralIndex = false
may_miss AxisNumber = false
may_miss TestNumber = false
may_miss NumberLink = false
may_miss TruthLink = false
may_miss ExpressionLink = false
may_miss PathLink = false
may_miss StepLink = false
may_miss StepOrNone = true
may_miss PredicateOrNone = true

-- a link in row r is a row number plus one and lies in 1..r; it is missing, out of range or of the wrong sort otherwise
unfoldable pub good_link : List ℕ → ℕ → Field → ℕ → Bool
good_link p r f l = cond (eqb l 0) (may_miss f) (leb l r && takes f (op_at p (l - 1)))

-- tests 0 to 4, and 16 + k for k from 1 to 65,535
unfoldable pub good_test : ℕ → Bool
good_test n = leb n 4 || (leb 17 n && leb n 65551)

-- is v allowed in a field of row r? A literal index is below the number of literals; axes are 0 to 11
unfoldable pub good_field : List ℕ → ℕ → ℕ → Field → ℕ → Bool
good_field p literals r Unused v = eqb v 0
good_field p literals r LiteralIndex v = ltb v literals
good_field p literals r AxisNumber v = leb v last_axis
good_field p literals r TestNumber v = good_test v
good_field p literals r NumberLink v = good_link p r NumberLink v
good_field p literals r TruthLink v = good_link p r TruthLink v
good_field p literals r ExpressionLink v = good_link p r ExpressionLink v
good_field p literals r PathLink v = good_link p r PathLink v
good_field p literals r StepLink v = good_link p r StepLink v
good_field p literals r StepOrNone v = good_link p r StepOrNone v
good_field p literals r PredicateOrNone v = good_link p r PredicateOrNone v

unfoldable pub good_fields : List ℕ → ℕ → ℕ → Bool
good_fields p literals r =
    good_field p literals r (fields_of (op_at p r)).a (field p r 1)
    && good_field p literals r (fields_of (op_at p r)).b (field p r 2)
    && good_field p literals r (fields_of (op_at p r)).c (field p r 3)
    && good_field p literals r (fields_of (op_at p r)).d (field p r 4)

-- a link field of row r with a value in 1..r links that row, whatever its sort; 0 where it links none
unfoldable pub follow : ℕ → ℕ → ℕ
follow r l = cond (leb l r) l 0

unfoldable pub first_link : List ℕ → ℕ → ℕ
first_link p r = cond (is_link (fields_of (op_at p r)).a) (follow r (field p r 1)) 0

unfoldable pub second_link : List ℕ → ℕ → ℕ
second_link p r = cond (is_link (fields_of (op_at p r)).b) (follow r (field p r 2)) 0

-- does row r hold the link l?
unfoldable pub links : List ℕ → ℕ → ℕ → Bool
links p r l = eqb (first_link p r) l || eqb (second_link p r) l

-- does a row below n hold the link l?
unfoldable pub linked_below : List ℕ → ℕ → ℕ → Bool
linked_below p n l = some (λ r. links p r l) (up_to n)

-- it links a row that a lower row, or its own earlier field, already links
unfoldable pub links_again : List ℕ → ℕ → Bool
links_again p r =
    (ltb 0 (first_link p r) && linked_below p r (first_link p r))
    || (ltb 0 (second_link p r) && (linked_below p r (second_link p r) || eqb (first_link p r) (second_link p r)))

-- it is not the last row and no row links it; it is the last row and not op 22 or 23
unfoldable pub misplaced : List ℕ → ℕ → Bool
misplaced p r = cond (eqb (r + 1) (rows_of p)) (not (is_path (op_at p r))) (not (linked_below p (rows_of p) (r + 1)))

-- a row is broken if its op is unknown, a field is not allowed, it links a row again, or it stands in the wrong place
unfoldable pub broken_row : List ℕ → ℕ → ℕ → Bool
broken_row p literals r = is_unknown (op_at p r) || not (good_fields p literals r) || links_again p r || misplaced p r
