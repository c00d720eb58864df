-- Composing: the rows, the literals and the depth of a text without faults, token by token. A frame is a row to come; round brackets and
-- boolean() are counted in the frame that they stand behind. It is a way to compute, and need not be believed: a law says that it writes the
-- rows of the text's tree.
-- Assumes nothing: these are definitions.
use Rattle.std.specs.Prelude.{ℕ, ◌+◌, ◌-◌, max, Bool, ◌&&◌, ◌||◌, cond, List, [], ◌∷◌, ◌++◌, get_or, eqb, ltb, leb, Float}
use Rattle.meaning.specs.Rows.{code}
use Rattle.names.specs.Names.{position}
use Rattle.text.specs.declared.Sort.{Sort}
use Rattle.text.specs.declared.Sort.TheVariants.{Numeral, Truth, Nodes, Unheld}
use Rattle.text.specs.Grammar.{Token, opening, closing, '[', ']', dot, dots, at, comma, '::', NameTest, NodeType, 'processing_instruction', FunctionName, AxisName, Literal, Number, VariableReference, '/', '//', '|', '+', '-', '=', '!=', '<', '<=', '>', '>=', MultiplyOperator, 'and', 'or', 'div', 'mod', unknown}
use Rattle.text.specs.Machine.{Mode, operand, has, signing, ending}
use Rattle.text.specs.Syntax.{read_all}
use Rattle.text.specs.Limited.{Source, place, word_of, function_names, axis_number, value_at}
use Rattle.text.specs.Reading.{index_of, with, operation, name_number, type_number}
use Rattle.text.specs.Survey.{mode_after, begins}

-- A row to come: its op, the link that it has already, a step's axis and test; how many round brackets are open behind it, and which of
-- those was the last boolean(), from 1. The bracket of not() and count() is not counted.
pub data Frame : Type 0 where
  frame : ℕ → ℕ → ℕ → ℕ → ℕ → ℕ → Frame

-- the link and the sort in hand, the number of rows written, and the rows
pub data Pen : Type 0 where
  pen : ℕ → Sort → ℕ → List ℕ → Pen

pub data Desk : Type 0 where
  desk : List Frame → Pen → Desk

-- what was read last, the axis of the step to come, the literals so far, the most paths around each other so far, and the desk
pub data Draft : Type 0 where
  draft : Mode → ℕ → List Float → ℕ → Desk → Draft

-- ---- rows

-- a row is written, and is then in hand
unfoldable pub put : ℕ → ℕ → ℕ → ℕ → ℕ → Sort → Pen → Pen
put op a b c d v (pen l u n out) = pen (n + 1) v (n + 1) (out ++ (op ∷ a ∷ b ∷ c ∷ d ∷ []))

abbrev pub link_of : Pen → ℕ
link_of (pen l u n out) = l

-- the same over the link in hand alone
abbrev pub over : ℕ → Sort → Pen → Pen
over op v p = put op (link_of p) 0 0 0 v p

-- where a truth is wanted, a number gets op 19 and a path op 20
unfoldable pub truthful : Pen → Pen
truthful (pen l Numeral n out) = over 19 Truth (pen l Numeral n out)
truthful (pen l Truth n out) = pen l Truth n out
truthful (pen l Nodes n out) = over 20 Truth (pen l Nodes n out)
truthful (pen l Unheld n out) = pen l Unheld n out

-- a path that is a whole predicate gets op 20
unfoldable pub predicable : Pen → Pen
predicable (pen l Numeral n out) = pen l Numeral n out
predicable (pen l Truth n out) = pen l Truth n out
predicable (pen l Nodes n out) = over 20 Truth (pen l Nodes n out)
predicable (pen l Unheld n out) = pen l Unheld n out

-- nothing is in hand
abbrev pub emptied : Pen → Pen
emptied (pen l u n out) = pen 0 Unheld n out

-- how strongly the row of each op to come binds: or, and, equality, comparison, sums, products, a sign; paths; steps. Brackets are 0.
abbrev pub strengths : List ℕ
strengths = 0 ∷ 0 ∷ 0 ∷ 0 ∷ 5 ∷ 5 ∷ 6 ∷ 6 ∷ 6 ∷ 7 ∷ 3 ∷ 3 ∷ 4 ∷ 4 ∷ 4 ∷ 4 ∷ 2 ∷ 1 ∷ 0 ∷ 0 ∷ 0 ∷ 0 ∷ 9 ∷ 9 ∷ 11 ∷ 0 ∷ []

unfoldable pub strength_of : ℕ → ℕ
strength_of op = get_or strengths op 0

-- a frame's row, with its last operand in hand; and and or want a truth
unfoldable pub row_of : Frame → Pen → Pen
row_of (frame op a c d o t) p =
    cond (eqb op 24) (put op a (link_of p) c d Unheld p)
    (cond (leb 22 op) (over op Nodes p)
    (cond (eqb op 9) (over op Numeral p)
    (cond (leb op 9) (put op a (link_of p) 0 0 Numeral p)
    (cond (leb op 15) (put op a (link_of p) 0 0 Truth p)
    (put op a (link_of (truthful p)) 0 0 Truth (truthful p))))))

-- it binds at least as strongly as k, and no bracket is open behind it
unfoldable pub may_fill : ℕ → Frame → Bool
may_fill k (frame op a c d o t) = leb k (strength_of op) && eqb o 0

-- the frames at the top that bind at least as strongly as k are filled
unfoldable pub settle : ℕ → List Frame → Pen → Desk
settle k [] p = desk [] p
settle k (f ∷ fs) p = cond (may_fill k f) (settle k fs (row_of f p)) (desk (f ∷ fs) p)

unfoldable pub settled : ℕ → Desk → Desk
settled k (desk fs p) = settle k fs p

unfoldable pub with_pen : (Pen → Pen) → Desk → Desk
with_pen f (desk fs p) = desk fs (f p)

-- a frame that has the link in hand; then nothing is in hand
unfoldable pub push : ℕ → ℕ → ℕ → Desk → Desk
push op c d (desk fs p) = desk (frame op (link_of p) c d 0 0 ∷ fs) (emptied p)

-- ---- round brackets

-- a group opens, and boolean()
unfoldable pub open_group : Desk → Desk
open_group (desk [] p) = desk [] p
open_group (desk (frame op a c d o t ∷ fs) p) = desk (frame op a c d (o + 1) t ∷ fs) p

unfoldable pub open_truth : Desk → Desk
open_truth (desk [] p) = desk [] p
open_truth (desk (frame op a c d o t ∷ fs) p) = desk (frame op a c d (o + 1) (o + 1) ∷ fs) p

-- `)` behind a settled desk: of a group or boolean(), of not(), or of count(). Behind the last boolean() the value is a truth already
unfoldable pub close_round : Desk → Desk
close_round (desk [] p) = desk [] p
close_round (desk (frame op a c d o t ∷ fs) p) =
    cond (ltb 0 o) (desk (frame op a c d (o - 1) t ∷ fs) (cond (eqb o t) (truthful p) p))
    (cond (eqb op 18) (desk fs (over op Truth (truthful p)))
    (desk fs (over op Numeral p)))

-- `]` behind a settled desk
unfoldable pub close_square : Desk → Desk
close_square (desk [] p) = desk [] p
close_square (desk (frame op a c d o t ∷ fs) p) = desk fs (put op a (link_of (predicable p)) 0 0 Unheld (predicable p))

-- ---- depth

abbrev pub is_path_op : ℕ → Bool
is_path_op op = eqb op 22 || eqb op 23

-- how many paths are to come
unfoldable pub paths_in : List Frame → ℕ
paths_in [] = 0
paths_in (frame op a c d o t ∷ fs) = cond (is_path_op op) 1 0 + paths_in fs

unfoldable pub paths_on : Desk → ℕ
paths_on (desk fs p) = paths_in fs

-- ---- tokens

-- a path begins with this op where an operand is due; behind a step it goes on
unfoldable pub path_from : ℕ → Draft → Draft
path_from op (draft m x l deepest d) =
    cond (begins m) (draft m x l (max deepest (paths_on d + 1)) (push op 0 0 d)) (draft m x l deepest d)

-- a step without predicates: `.`, `..`, and the one of `//`
unfoldable pub point_read : Mode → ℕ → Draft → Draft
point_read m' axis (draft m x l deepest (desk fs p)) = draft m' x l deepest (desk fs (put 24 (link_of p) 0 axis 0 Unheld p))

unfoldable pub axis_read : Mode → ℕ → Draft → Draft
axis_read m' axis (draft m x l deepest d) = draft m' axis l deepest d

unfoldable pub test_read : Mode → ℕ → Draft → Draft
test_read m' test (draft m x l deepest d) = draft m' 1 l deepest (push 24 x test d)

-- `/` and `//` behind a step
unfoldable pub step_ended : Draft → Draft
step_ended (draft m x l deepest d) = cond (begins m) (draft m x l deepest d) (draft m x l deepest (settled 10 d))

unfoldable pub moved : Mode → Draft → Draft
moved m' (draft m x l deepest d) = draft m' x l deepest d

unfoldable pub number_read : Mode → Float → Draft → Draft
number_read m' value (draft m x l deepest d) = draft m' x (with l value) deepest (with_pen (put 1 (index_of l value) 0 0 0 Numeral) d)

-- a function by its number: position() and last() are rows, count() and not() rows to come
unfoldable pub call_read : Mode → ℕ → Draft → Draft
call_read m' f (draft m x l deepest d) =
    draft m' x l deepest
    (cond (eqb f 0) (with_pen (put 2 0 0 0 0 Numeral) d)
    (cond (eqb f 1) (with_pen (put 3 0 0 0 0 Numeral) d)
    (cond (eqb f 2) (push 21 0 0 d)
    (cond (eqb f 3) (push 18 0 0 d)
    (cond (eqb f 4) (open_truth d) d)))))

unfoldable pub opening_read : Mode → Draft → Draft
opening_read m' (draft m x l deepest d) = draft m' x l deepest (cond (begins m) (open_group d) d)

unfoldable pub closing_read : Mode → Draft → Draft
closing_read m' (draft m x l deepest d) = draft m' x l deepest (cond (has ending m) (close_round (settled 1 d)) d)

unfoldable pub bracket_read : Mode → Draft → Draft
bracket_read m' (draft m x l deepest d) = draft m' x l deepest (push 25 0 0 d)

unfoldable pub square_read : Mode → Draft → Draft
square_read m' (draft m x l deepest d) = draft m' x l deepest (close_square (settled 1 d))

unfoldable pub operator_read : Mode → ℕ → Draft → Draft
operator_read m' op (draft m x l deepest d) =
    draft m' x l deepest (push op 0 0 (with_pen (λ p. cond (leb (strength_of op) 2) (truthful p) p) (settled (strength_of op) d)))

-- `-` where an operand is due is a sign
unfoldable pub minus_read : Mode → Draft → Draft
minus_read m' (draft m x l deepest d) =
    cond (has signing m) (draft m' x l deepest (push 9 0 0 d)) (operator_read m' 5 (draft m x l deepest d))

abbrev pub mode_in : Draft → Mode
mode_in (draft m x l deepest d) = m

-- token i, in the order of the classes
unfoldable pub compose_token : Source → Draft → ℕ → Token → Draft
compose_token s w i opening = opening_read (mode_after (mode_in w) opening) w
compose_token s w i closing = closing_read (mode_after (mode_in w) closing) w
compose_token s w i '[' = bracket_read (mode_after (mode_in w) '[') w
compose_token s w i ']' = square_read (mode_after (mode_in w) ']') w
compose_token s w i dot = point_read (mode_after (mode_in w) dot) 0 (path_from 22 w)
compose_token s w i dots = point_read (mode_after (mode_in w) dots) 2 (path_from 22 w)
compose_token s w i at = axis_read (mode_after (mode_in w) at) 11 (path_from 22 w)
compose_token s w i comma = moved (mode_after (mode_in w) comma) w
compose_token s w i '::' = moved (mode_after (mode_in w) '::') w
compose_token s w i NameTest = test_read (mode_after (mode_in w) NameTest) (name_number s i) (path_from 22 w)
compose_token s w i NodeType = test_read (mode_after (mode_in w) NodeType) (type_number (word_of s i)) (path_from 22 w)
compose_token s w i 'processing_instruction' = test_read (mode_after (mode_in w) 'processing_instruction') 4 (path_from 22 w)
compose_token s w i FunctionName = call_read (mode_after (mode_in w) FunctionName) (position function_names (word_of s i)) w
compose_token s w i AxisName = axis_read (mode_after (mode_in w) AxisName) (axis_number (word_of s i)) (path_from 22 w)
compose_token s w i Literal = moved (mode_after (mode_in w) Literal) w
compose_token s w i Number = number_read (mode_after (mode_in w) Number) (value_at s.text (place s i)) w
compose_token s w i VariableReference = moved (mode_after (mode_in w) VariableReference) w
compose_token s w i '/' = moved (mode_after (mode_in w) '/') (step_ended (path_from 23 w))
compose_token s w i '//' = point_read (mode_after (mode_in w) '//') 5 (step_ended (path_from 23 w))
compose_token s w i '|' = moved (mode_after (mode_in w) '|') w
compose_token s w i '+' = operator_read (mode_after (mode_in w) '+') (code (operation '+')) w
compose_token s w i '-' = minus_read (mode_after (mode_in w) '-') w
compose_token s w i '=' = operator_read (mode_after (mode_in w) '=') (code (operation '=')) w
compose_token s w i '!=' = operator_read (mode_after (mode_in w) '!=') (code (operation '!=')) w
compose_token s w i '<' = operator_read (mode_after (mode_in w) '<') (code (operation '<')) w
compose_token s w i '<=' = operator_read (mode_after (mode_in w) '<=') (code (operation '<=')) w
compose_token s w i '>' = operator_read (mode_after (mode_in w) '>') (code (operation '>')) w
compose_token s w i '>=' = operator_read (mode_after (mode_in w) '>=') (code (operation '>=')) w
compose_token s w i MultiplyOperator = operator_read (mode_after (mode_in w) MultiplyOperator) (code (operation MultiplyOperator)) w
compose_token s w i 'and' = operator_read (mode_after (mode_in w) 'and') (code (operation 'and')) w
compose_token s w i 'or' = operator_read (mode_after (mode_in w) 'or') (code (operation 'or')) w
compose_token s w i 'div' = operator_read (mode_after (mode_in w) 'div') (code (operation 'div')) w
compose_token s w i 'mod' = operator_read (mode_after (mode_in w) 'mod') (code (operation 'mod')) w
compose_token s w i unknown = w

-- nothing was read; the frame at the bottom stands for the whole text and is never filled
abbrev pub unwritten : Draft
unwritten = draft operand 1 [] 0 (desk (frame 0 0 0 0 0 0 ∷ []) (pen 0 Unheld 0 []))

-- all was read: the last frames are filled
pub data Composed : Type 0 where
  composed : List ℕ → List Float → ℕ → Composed

unfoldable pub rows_on : Desk → List ℕ
rows_on (desk fs (pen l u n out)) = out

unfoldable pub completed : Draft → Composed
completed (draft m x l deepest d) = composed (rows_on (settled 1 d)) l deepest

unfoldable pub composed_of : Source → List Token → Composed
composed_of s ts = completed (read_all (compose_token s) unwritten 0 ts)
