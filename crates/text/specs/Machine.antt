-- The machine that reads tokens of the grammar: what was read last, and which brackets are open, innermost first.
-- Precedence does not matter to what it accepts.
-- Assumes nothing: these are definitions.
use Rattle.std.specs.Prelude.{ℕ, suc, Bool, true, false, ◌||◌, cond, List, [], ◌∷◌, eqb}
use Rattle.text.specs.Grammar.{Token, opening, closing, '[', ']', dot, dots, at, comma, '::', NameTest, NodeType, 'processing_instruction', FunctionName, AxisName, Literal, Number, VariableReference, '/', '//', '|', '+', '-', '=', '!=', '<', '<=', '>', '>=', MultiplyOperator, 'and', 'or', 'div', 'mod', unknown}

-- What was read last, and so what may come:
-- operand: nothing, an operator, `(`, `[` or `,`; argument: the `(` of a call; union: `|`; each time an operand is to come;
-- root: a `/` that begins a path: a step may come, or the operand is whole; step: `/` or `//` before a step;
-- axis: an axis name; test: `::` or `@`; type: a node type; empty: what only `)` may follow;
-- instruction: processing-instruction; target: its `(`; call: a function's name;
-- whole: `.` or `..`; part: the rest of a step, or of an operand, that predicates may follow
pub data Mode : Type 0 where
  operand argument union root step axis test type empty instruction target call whole part : Mode

unfoldable pub number : Mode → ℕ
number operand = 0
number argument = 1
number union = 2
number root = 3
number step = 4
number axis = 5
number test = 6
number type = 7
number empty = 8
number instruction = 9
number target = 10
number call = 11
number whole = 12
number part = 13

-- where an operand may begin, where `-` may stand before one, where a step may begin, where a node test may stand
abbrev pub beginning : List Mode
beginning = operand ∷ argument ∷ union ∷ []

abbrev pub signing : List Mode
signing = operand ∷ argument ∷ []

abbrev pub stepping : List Mode
stepping = operand ∷ argument ∷ union ∷ root ∷ step ∷ []

abbrev pub testing : List Mode
testing = operand ∷ argument ∷ union ∷ root ∷ step ∷ test ∷ []

-- where an operand is whole, and where a path may go on
abbrev pub ending : List Mode
ending = root ∷ whole ∷ part ∷ []

abbrev pub continuing : List Mode
continuing = whole ∷ part ∷ []

-- what an open bracket holds
pub data Bracket : Type 0 where
  group arguments predicate : Bracket

-- what a token does: it is refused, it leads to a mode, it opens a bracket, it closes one, or it parts two arguments
pub data Act : Type 0 where
  refuse : Act
  go : Mode → Act
  enter : Bracket → Act
  leave_round leave_square next_argument : Act

-- in these modes the token does this
pub data Row : Type 0 where
  on : List Mode → Act → Row

-- the table: what each token does in which modes; in all others it is refused
unfoldable pub rows : Token → List Row
rows opening = on beginning (enter group) ∷ on (type ∷ []) (go empty) ∷ on (instruction ∷ []) (go target) ∷ on (call ∷ []) (enter arguments) ∷ []
rows closing = on (argument ∷ ending) leave_round ∷ on (empty ∷ target ∷ []) (go part) ∷ []
rows '[' = on (part ∷ []) (enter predicate) ∷ []
rows ']' = on ending leave_square ∷ []
rows dot = on stepping (go whole) ∷ []
rows dots = on stepping (go whole) ∷ []
rows at = on stepping (go test) ∷ []
rows comma = on ending next_argument ∷ []
rows '::' = on (axis ∷ []) (go test) ∷ []
rows NameTest = on testing (go part) ∷ []
rows NodeType = on testing (go type) ∷ []
rows 'processing_instruction' = on testing (go instruction) ∷ []
rows FunctionName = on beginning (go call) ∷ []
rows AxisName = on stepping (go axis) ∷ []
rows Literal = on beginning (go part) ∷ on (target ∷ []) (go empty) ∷ []
rows Number = on beginning (go part) ∷ []
rows VariableReference = on beginning (go part) ∷ []
rows '/' = on beginning (go root) ∷ on continuing (go step) ∷ []
rows '//' = on beginning (go step) ∷ on continuing (go step) ∷ []
rows '|' = on ending (go union) ∷ []
rows '+' = on ending (go operand) ∷ []
rows '-' = on ending (go operand) ∷ on signing (go operand) ∷ []
rows '=' = on ending (go operand) ∷ []
rows '!=' = on ending (go operand) ∷ []
rows '<' = on ending (go operand) ∷ []
rows '<=' = on ending (go operand) ∷ []
rows '>' = on ending (go operand) ∷ []
rows '>=' = on ending (go operand) ∷ []
rows MultiplyOperator = on ending (go operand) ∷ []
rows 'and' = on ending (go operand) ∷ []
rows 'or' = on ending (go operand) ∷ []
rows 'div' = on ending (go operand) ∷ []
rows 'mod' = on ending (go operand) ∷ []
rows unknown = []

-- is m one of these modes?
unfoldable pub has : List Mode → Mode → Bool
has [] m = false
has (n ∷ ms) m = eqb (number n) (number m) || has ms m

unfoldable pub pick : List Row → Mode → Act
pick [] m = refuse
pick (on ms a ∷ rest) m = cond (has ms m) a (pick rest m)

-- where the machine stands: it refused a token, or it has a mode and the open brackets
pub data State : Type 0 where
  stuck : State
  reading : Mode → List Bracket → State

-- what is expected behind an opening bracket
unfoldable pub inner : Bracket → Mode
inner group = operand
inner arguments = argument
inner predicate = operand

-- `)` closes a group or a call, `]` a predicate, and `,` stands only in a call
unfoldable pub done : Act → List Bracket → State
done refuse around = stuck
done (go m) around = reading m around
done (enter b) around = reading (inner b) (b ∷ around)
done leave_round [] = stuck
done leave_round (group ∷ around) = reading part around
done leave_round (arguments ∷ around) = reading part around
done leave_round (predicate ∷ around) = stuck
done leave_square [] = stuck
done leave_square (group ∷ around) = stuck
done leave_square (arguments ∷ around) = stuck
done leave_square (predicate ∷ around) = reading part around
done next_argument [] = stuck
done next_argument (group ∷ around) = stuck
done next_argument (arguments ∷ around) = reading operand (arguments ∷ around)
done next_argument (predicate ∷ around) = stuck

unfoldable pub next : State → Token → State
next stuck t = stuck
next (reading m around) t = done (pick (rows t) m) around

unfoldable pub run : State → List Token → State
run s [] = s
run s (t ∷ ts) = run (next s t) ts

abbrev pub start : State
start = reading operand []

-- a text may end where an operand is whole and no bracket is open
unfoldable pub accepting : State → Bool
accepting stuck = false
accepting (reading m []) = has ending m
accepting (reading m (b ∷ around)) = false

unfoldable pub is_stuck : State → Bool
is_stuck stuck = true
is_stuck (reading m around) = false

abbrev pub accepts : List Token → Bool
accepts ts = accepting (run start ts)

-- how many tokens are read before one is refused
unfoldable pub readable : State → List Token → ℕ
readable s [] = 0
readable s (t ∷ ts) =
    let r : ℕ = suc (readable (next s t) ts) in
    cond (is_stuck (next s t)) 0 r
