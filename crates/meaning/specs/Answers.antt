-- Numbers given back (document 01; 13 and 14 of document 02, W-209 and W-210), and a node's place on an axis (document 02, W-203): the
-- answer of each public function and what its output slice holds, from its inputs.
-- Checks run in the order of the numbers, 14 before all others and 13 between 9 and 10; the first that applies is given, and no other.
-- Assumes nothing: these are definitions.
use Rattle.std.specs.Prelude.{ℕ, ◌+◌, ◌*◌, Bool, false, ◌&&◌, ◌||◌, not, cond, List, ◌++◌, length, drop, leb, ltb, eqb, Float, Result, Ok, Err}
use Rattle.meaning.specs.Lists.{up_to, some, lowest}
use Rattle.meaning.specs.Table.{rows, length_allowed, broken, accepted}
use Rattle.meaning.specs.Axis.{axis_of, last_axis, place}
use Rattle.meaning.specs.Rows.{rows_of, path_length_allowed, most_path_rows, bad_literal_at, broken_row}
use Rattle.meaning.specs.Tree.{Tree, none, node, tree, depth, most_depth}
use Rattle.meaning.specs.Meaning.{select, is_absolute}
use Rattle.meaning.specs.Turning.{first_step, is_counting, is_of_attributes, turned, written}
use Rattle.meaning.specs.declared.Answer.{Answer}
use Rattle.meaning.specs.declared.Refusal.{Refusal}
use Rattle.meaning.specs.declared.Refusal.TheVariants.{TableLength, BrokenRow, PathLength, BadLiteral, BrokenPathRow, TooDeep, NoSuchNode, NoRoom, StepCounts, AbsolutePath, NoRoomToTurn, StepOnAttributes, NoSuchEdition}

abbrev pub answer : ℕ → ℕ → Answer
answer n p = record { number = n; place = p }

-- a refusal as its number and place
abbrev pub refused : Refusal → Answer
refused TableLength = answer 1 0
refused (BrokenRow i) = answer 2 i
refused PathLength = answer 3 0
refused (BadLiteral i) = answer 4 i
refused (BrokenPathRow r) = answer 5 r
refused TooDeep = answer 6 0
refused (NoSuchNode x) = answer 7 x
refused (NoRoom n) = answer 8 n
refused (StepCounts k) = answer 9 k
refused AbsolutePath = answer 10 0
refused (NoRoomToTurn n) = answer 11 n
refused (StepOnAttributes k) = answer 13 k
refused (NoSuchEdition edition) = answer 14 edition

-- what a function gives back as a number and a place: 0 with its count, or its refusal
abbrev pub told : Result ℕ Refusal → Answer
told (Ok n) = answer 0 n
told (Err r) = refused r

-- a check: where it applies its number and place are given, else what follows
abbrev pub check : Bool → ℕ → ℕ → Answer → Answer
check applies number place next = cond applies (answer number place) next

-- 1: table length not allowed; 2: broken table row, the lowest one
unfoldable pub table_checks : List ℕ → Answer → Answer
table_checks t next =
    check (not (length_allowed t)) 1 0
    (check (some (broken t) (up_to (rows t))) 2 (lowest (broken t) (rows t))
    next)

-- the tree of a whole path
abbrev pub path_tree : List ℕ → Tree
path_tree p = tree p (rows_of p)

-- 3: path length not allowed; 4: literal not allowed, the lowest bad index; 5: broken path row, the lowest one; 6: depth above 8
unfoldable pub path_checks : List ℕ → List Float → Answer → Answer
path_checks p literals next =
    check (not (path_length_allowed p)) 3 0
    (check (some (bad_literal_at literals) (up_to (length literals))) 4 (lowest (bad_literal_at literals) (length literals))
    (check (some (broken_row p (length literals)) (up_to (rows_of p))) 5 (lowest (broken_row p (length literals)) (rows_of p))
    (check (ltb most_depth (depth (path_tree p))) 6 0
    next)))

-- the table checker: the place of its 0 is the row count
unfoldable pub table_answer : List ℕ → Answer
table_answer t = table_checks t (answer 0 (rows t))

-- may a place be asked at all? The table is accepted, the number is an axis's, and x and y are rows
unfoldable pub askable : List ℕ → ℕ → ℕ → ℕ → Bool
askable t axis x y = accepted t && leb axis last_axis && ltb x (rows t) && ltb y (rows t)

-- the place of y on the axis with this number of x; 0 where it is not there or may not be asked
unfoldable pub axis_place : List ℕ → ℕ → ℕ → ℕ → ℕ
axis_place t axis x y = cond (askable t axis x y) (place t (axis_of axis) x y) 0

-- the path checker: the place of its 0 is the row count
unfoldable pub path_answer : List ℕ → List Float → Answer
path_answer p literals = path_checks p literals (answer 0 (rows_of p))

-- the editions of rule sheets are 1 and 2
unfoldable pub is_edition : ℕ → Bool
is_edition edition = eqb edition 1 || eqb edition 2

-- the nodes that a path of rows selects from a node, in an edition
abbrev pub selected : ℕ → List ℕ → List ℕ → List Float → ℕ → List ℕ
selected edition t p literals start = select edition t literals (path_tree p) start

-- 8: more selected than the output holds; 0: all of it is written
abbrev pub handed : List ℕ → ℕ → Answer
handed nodes room = check (ltb room (length nodes)) 8 (length nodes) (answer 0 (length nodes))

-- evaluation. 14: no edition; then the table and the path; 7: start node not below the row count; then 8 or 0
unfoldable pub evaluation : ℕ → List ℕ → List ℕ → List Float → ℕ → ℕ → Answer
evaluation edition t p literals start room =
    check (not (is_edition edition)) 14 edition
    (table_checks t
    (path_checks p literals
    (check (leb (rows t) start) 7 start
    (handed (selected edition t p literals start) room))))

-- on 0 what was written stands at the front and the rest is unchanged; every other number leaves the output unchanged
unfoldable pub output : Answer → List ℕ → List ℕ → List ℕ
output a front out = cond (eqb a.number 0) (front ++ drop (length front) out) out

unfoldable pub evaluated : ℕ → List ℕ → List ℕ → List Float → ℕ → List ℕ → List ℕ
evaluated edition t p literals start out = output (evaluation edition t p literals start (length out)) (selected edition t p literals start) out

-- the number of the first top-level step that counts, and of the first on the attribute axis, 0 where none is; and is the top path absolute?
unfoldable pub counting_step : Tree → ℕ
counting_step none = 0
counting_step (node op a b c d) = first_step is_counting a

unfoldable pub attribute_step : Tree → ℕ
attribute_step none = 0
attribute_step (node op a b c d) = first_step is_of_attributes a

unfoldable pub absolute_path : Tree → Bool
absolute_path none = false
absolute_path (node op a b c d) = is_absolute op

-- turning. 9: a step counts; 13: a step is on the attribute axis; 10: the path is absolute; 11: rows + 1 above 256, or the output shorter
-- than 5 times that
unfoldable pub turning : List ℕ → List Float → ℕ → Answer
turning p literals room =
    path_checks p literals
    (check (ltb 0 (counting_step (path_tree p))) 9 (counting_step (path_tree p))
    (check (ltb 0 (attribute_step (path_tree p))) 13 (attribute_step (path_tree p))
    (check (absolute_path (path_tree p)) 10 0
    (check (ltb most_path_rows (rows_of p + 1) || ltb room (5 * (rows_of p + 1))) 11 (rows_of p + 1)
    (answer 0 (rows_of p + 1))))))

-- the rows of the turned path
abbrev pub turned_rows : List ℕ → List ℕ
turned_rows p = written 0 (turned (path_tree p))

unfoldable pub turned_output : List ℕ → List Float → List ℕ → List ℕ
turned_output p literals out = output (turning p literals (length out)) (turned_rows p) out
