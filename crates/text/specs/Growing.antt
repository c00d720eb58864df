-- The tree of constructs of a list of tokens, computed: a construct whose last part is still to come is a hole, and holes wait on a stack.
-- A token first fills the holes that bind at least as strongly as it does. That this is the tree of every derivation is a law.
-- Assumes nothing: these are definitions.
use Rattle.std.specs.Prelude.{ℕ, suc, Bool, true, false, cond, List, [], ◌∷◌, leb}
use Rattle.text.specs.Grammar.{Token, opening, closing, '[', ']', dot, dots, at, comma, '::', NameTest, NodeType, 'processing_instruction', FunctionName, AxisName, Literal, Number, VariableReference, '/', '//', '|', '+', '-', '=', '!=', '<', '<=', '>', '>=', MultiplyOperator, 'and', 'or', 'div', 'mod', unknown}
use Rattle.text.specs.Syntax.{Kind, word, number, string, variable, group, call, arguments, negative, binary, union, filter, onward, relative, absolute, chain, step, self, parent, axis, attribute, named, typed, instruction, target, predicates, is_kind, Syntax, blank, part, begin, read_all}

-- a construct without its third part
pub data Hole : Type 0 where
  hole : Kind → Token → ℕ → Syntax → Syntax → Hole

abbrev pub filled : Hole → Syntax → Syntax
filled (hole k t i a b) x = part k t i a b x

-- how strongly a binary operator binds: or, and, equality, comparison, sums, products
unfoldable pub tightness : Token → ℕ
tightness opening = 0
tightness closing = 0
tightness '[' = 0
tightness ']' = 0
tightness dot = 0
tightness dots = 0
tightness at = 0
tightness comma = 0
tightness '::' = 0
tightness NameTest = 0
tightness NodeType = 0
tightness 'processing_instruction' = 0
tightness FunctionName = 0
tightness AxisName = 0
tightness Literal = 0
tightness Number = 0
tightness VariableReference = 0
tightness '/' = 0
tightness '//' = 0
tightness '|' = 8
tightness '+' = 5
tightness '-' = 5
tightness '=' = 3
tightness '!=' = 3
tightness '<' = 4
tightness '<=' = 4
tightness '>' = 4
tightness '>=' = 4
tightness MultiplyOperator = 6
tightness 'and' = 2
tightness 'or' = 1
tightness 'div' = 6
tightness 'mod' = 6
tightness unknown = 0

-- a sign binds more than a product, less than a union; then paths, their steps, a step's predicates. An open bracket is 0.
unfoldable pub strength : Hole → ℕ
strength (hole word t i a b) = 0
strength (hole number t i a b) = 0
strength (hole string t i a b) = 0
strength (hole variable t i a b) = 0
strength (hole group t i a b) = 0
strength (hole call t i a b) = 0
strength (hole arguments t i a b) = 0
strength (hole negative t i a b) = 7
strength (hole binary t i a b) = tightness t
strength (hole union t i a b) = 8
strength (hole filter t i a b) = 0
strength (hole onward t i a b) = 9
strength (hole relative t i a b) = 9
strength (hole absolute t i a b) = 9
strength (hole chain t i a b) = 10
strength (hole step t i a b) = 11
strength (hole self t i a b) = 0
strength (hole parent t i a b) = 0
strength (hole axis t i a b) = 0
strength (hole attribute t i a b) = 0
strength (hole named t i a b) = 0
strength (hole typed t i a b) = 0
strength (hole instruction t i a b) = 0
strength (hole target t i a b) = 0
strength (hole predicates t i a b) = 12

-- What is due. wanted: an operand, or a step behind `/`; rooted: a step, or nothing, behind a `/` that begins a path; tested: a node test,
-- behind an axis; typing: the brackets of a node type; called: those of a call; had: an operand is there, or a step that predicates may follow.
pub data Due : Type 0 where
  wanted rooted tested typing called had : Due

-- what is due, the holes, the innermost first, and what was read last
pub data Growth : Type 0 where
  grown : Due → List Hole → Syntax → Growth

-- the holes at the front that bind at least as strongly as k are filled
unfoldable pub settle : ℕ → List Hole → Syntax → Growth
settle k [] x = grown had [] x
settle k (h ∷ hs) x = cond (leb k (strength h)) (settle k hs (filled h x)) (grown had (h ∷ hs) x)

unfoldable pub top_strength : List Hole → ℕ
top_strength [] = 0
top_strength (h ∷ hs) = strength h

-- one token by itself
abbrev pub single : Kind → Token → ℕ → Syntax
single k t i = part k t i blank blank blank

-- a path begins with the step at i, if no path is waiting for a step
abbrev pub begun : ℕ → List Hole → List Hole
begun i hs = cond (leb 9 (top_strength hs)) hs (hole relative unknown i blank blank ∷ hs)

-- a step's axis
unfoldable pub with_axis : Kind → Token → ℕ → Growth → Growth
with_axis k t i (grown due hs x) = grown tested (begun i hs) (single k t i)

-- a step's test at i; a step without an axis begins there
unfoldable pub with_test : Due → ℕ → Syntax → Growth → Growth
with_test then i test (grown wanted hs x) = grown then (hole step unknown i blank test ∷ begun i hs) blank
with_test then i test (grown rooted hs x) = grown then (hole step unknown i blank test ∷ begun i hs) blank
with_test then i test (grown tested hs x) = grown then (hole step unknown (begin x) x test ∷ hs) blank
with_test then i test (grown typing hs x) = grown then hs x
with_test then i test (grown called hs x) = grown then hs x
with_test then i test (grown had hs x) = grown then hs x

-- `.` and `..`
unfoldable pub with_point : Kind → Token → ℕ → Growth → Growth
with_point k t i (grown due hs x) = grown had (begun i hs) (single k t i)

-- an operand of one token
unfoldable pub with_operand : Kind → Token → ℕ → Growth → Growth
with_operand k t i (grown due hs x) = grown had hs (single k t i)

-- a string is an operand, or what a processing-instruction is to be called
abbrev pub targeted : Hole → Hole
targeted (hole k t i a b) = hole k t i a (single target 'processing_instruction' (begin b))

unfoldable pub with_string : ℕ → Growth → Growth
with_string i (grown wanted hs x) = grown had hs (single string Literal i)
with_string i (grown rooted hs x) = grown had hs (single string Literal i)
with_string i (grown tested hs x) = grown had hs (single string Literal i)
with_string i (grown typing [] x) = grown typing [] x
with_string i (grown typing (h ∷ hs) x) = grown typing (targeted h ∷ hs) x
with_string i (grown called hs x) = grown had hs (single string Literal i)
with_string i (grown had hs x) = grown had hs (single string Literal i)

-- `(` opens a group, a call's arguments, or is a node type's
unfoldable pub with_opening : ℕ → Growth → Growth
with_opening i (grown wanted hs x) = grown wanted (hole group opening i blank blank ∷ hs) blank
with_opening i (grown rooted hs x) = grown wanted (hole group opening i blank blank ∷ hs) blank
with_opening i (grown tested hs x) = grown wanted (hole group opening i blank blank ∷ hs) blank
with_opening i (grown typing hs x) = grown typing hs x
with_opening i (grown called hs x) = grown wanted (hole arguments unknown (suc i) blank blank ∷ hs) blank
with_opening i (grown had hs x) = grown wanted (hole group opening i blank blank ∷ hs) blank

-- the innermost hole is filled, if there is one
unfoldable pub fill : Growth → Growth
fill (grown due [] x) = grown due [] x
fill (grown due (h ∷ hs) x) = grown due hs (filled h x)

-- is the hole one for arguments? for the expression of a step's predicate?
unfoldable pub for_arguments : Hole → Bool
for_arguments (hole k t i a b) = is_kind k arguments

unfoldable pub for_filter : Hole → Bool
for_filter (hole k t i a b) = is_kind k filter

unfoldable pub is_blank : Syntax → Bool
is_blank blank = true
is_blank (part k t i a b c) = false

-- behind an expression, `)` ends a group or a call; a call's may hold nothing
unfoldable pub close_round : Growth → Growth
close_round (grown due [] x) = grown due [] x
close_round (grown due (h ∷ hs) x) =
    cond (for_arguments h) (fill (grown had hs (cond (is_blank x) blank (filled h x)))) (grown had hs (filled h x))

unfoldable pub with_closing : Growth → Growth
with_closing (grown wanted hs x) = close_round (settle 1 hs x)
with_closing (grown rooted hs x) = close_round (settle 1 hs x)
with_closing (grown tested hs x) = close_round (settle 1 hs x)
with_closing (grown typing hs x) = grown had hs x
with_closing (grown called hs x) = close_round (settle 1 hs x)
with_closing (grown had hs x) = close_round (settle 1 hs x)

-- `[` behind a step or its predicates, and behind another operand
unfoldable pub with_bracket : ℕ → Growth → Growth
with_bracket i (grown due hs x) =
    cond (leb 11 (top_strength hs))
    (grown wanted (hole word '[' i blank blank ∷ hs) blank)
    (grown wanted (hole filter unknown (begin x) x blank ∷ hs) blank)

-- behind an expression, `]` ends a predicate
abbrev pub began : Hole → ℕ
began (hole k t i a b) = i

unfoldable pub close_square : Growth → Growth
close_square (grown due [] x) = grown due [] x
close_square (grown due (h ∷ hs) x) =
    cond (for_filter h) (grown had hs (filled h x)) (grown had (hole predicates unknown (began h) x blank ∷ hs) blank)

unfoldable pub with_square : Growth → Growth
with_square (grown due hs x) = close_square (settle 1 hs x)

-- `,` ends an argument
unfoldable pub close_argument : Growth → Growth
close_argument (grown due [] x) = grown due [] x
close_argument (grown due (h ∷ hs) x) = grown wanted (hole arguments unknown (began h) (filled h x) blank ∷ hs) blank

unfoldable pub with_comma : Growth → Growth
with_comma (grown due hs x) = close_argument (settle 1 hs x)

unfoldable pub with_call : ℕ → Growth → Growth
with_call i (grown due hs x) = grown called (hole call FunctionName i blank blank ∷ hs) blank

-- `/` and `//` begin a path, go on with one, or lead on from another operand
unfoldable pub goes_on : Token → Growth → Growth
goes_on t (grown due hs x) = grown wanted (hole (cond (leb 9 (top_strength hs)) chain onward) t (begin x) x blank ∷ hs) blank

unfoldable pub with_slash : Due → Token → ℕ → Growth → Growth
with_slash then t i (grown wanted hs x) = grown then (hole absolute t i blank blank ∷ hs) blank
with_slash then t i (grown rooted hs x) = grown then (hole absolute t i blank blank ∷ hs) blank
with_slash then t i (grown tested hs x) = goes_on t (settle 10 hs x)
with_slash then t i (grown typing hs x) = goes_on t (settle 10 hs x)
with_slash then t i (grown called hs x) = goes_on t (settle 10 hs x)
with_slash then t i (grown had hs x) = goes_on t (settle 10 hs x)

-- an operator behind an operand
unfoldable pub join : Kind → Token → Growth → Growth
join k t (grown due hs x) = grown wanted (hole k t (begin x) x blank ∷ hs) blank

unfoldable pub with_operator : Kind → Token → Growth → Growth
with_operator k t (grown due hs x) = join k t (settle (tightness t) hs x)

-- `-` where an operand is due is a sign
unfoldable pub with_minus : ℕ → Growth → Growth
with_minus i (grown wanted hs x) = grown wanted (hole negative '-' i blank blank ∷ hs) blank
with_minus i (grown rooted hs x) = with_operator binary '-' (grown rooted hs x)
with_minus i (grown tested hs x) = with_operator binary '-' (grown tested hs x)
with_minus i (grown typing hs x) = with_operator binary '-' (grown typing hs x)
with_minus i (grown called hs x) = with_operator binary '-' (grown called hs x)
with_minus i (grown had hs x) = with_operator binary '-' (grown had hs x)

-- token i is read
unfoldable pub grow : Growth → ℕ → Token → Growth
grow g i opening = with_opening i g
grow g i closing = with_closing g
grow g i '[' = with_bracket i g
grow g i ']' = with_square g
grow g i dot = with_point self dot i g
grow g i dots = with_point parent dots i g
grow g i at = with_axis attribute at i g
grow g i comma = with_comma g
grow g i '::' = g
grow g i NameTest = with_test had i (single named NameTest i) g
grow g i NodeType = with_test typing i (single typed NodeType i) g
grow g i 'processing_instruction' = with_test typing i (single instruction 'processing_instruction' i) g
grow g i FunctionName = with_call i g
grow g i AxisName = with_axis axis AxisName i g
grow g i Literal = with_string i g
grow g i Number = with_operand number Number i g
grow g i VariableReference = with_operand variable VariableReference i g
grow g i '/' = with_slash rooted '/' i g
grow g i '//' = with_slash wanted '//' i g
grow g i '|' = with_operator union '|' g
grow g i '+' = with_operator binary '+' g
grow g i '-' = with_minus i g
grow g i '=' = with_operator binary '=' g
grow g i '!=' = with_operator binary '!=' g
grow g i '<' = with_operator binary '<' g
grow g i '<=' = with_operator binary '<=' g
grow g i '>' = with_operator binary '>' g
grow g i '>=' = with_operator binary '>=' g
grow g i MultiplyOperator = with_operator binary MultiplyOperator g
grow g i 'and' = with_operator binary 'and' g
grow g i 'or' = with_operator binary 'or' g
grow g i 'div' = with_operator binary 'div' g
grow g i 'mod' = with_operator binary 'mod' g
grow g i unknown = g

-- all holes are filled
unfoldable pub settled : Growth → Syntax
settled (grown due [] x) = x
settled (grown due (h ∷ hs) x) = filled h x

unfoldable pub ended : Growth → Syntax
ended (grown due hs x) = settled (settle 1 hs x)

-- the tree of constructs of a list of tokens
unfoldable pub syntax_of : List Token → Syntax
syntax_of ts = ended (read_all grow (grown wanted [] blank) 0 ts)
