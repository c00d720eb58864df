-- What a text stands for (document 02, W-202): document 01's tree, its rows in postorder and its literals; and the answer of the reader.
-- Checks run in the order of the request; the first that applies is given, and no other.
-- Assumes nothing: these are definitions.
use Rattle.text.specs.declared.Function.{Function}
use Rattle.text.specs.declared.Function.TheVariants.{PositionCall, LastCall, CountCall, NotCall, BooleanCall, OtherCall}
use Rattle.std.specs.Prelude.{ℕ, suc, ◌+◌, ◌-◌, ◌*◌, ◌≡◌, cond, List, [], ◌∷◌, ◌++◌, length, get_or, drop, eqb, ltb, leb, Float}
use Rattle.std.specs.Float.Ieee as Ieee
use Rattle.meaning.specs.Rows.{most_path_rows, most_literals}
use Rattle.meaning.specs.declared.Op.{Op}
use Rattle.meaning.specs.declared.Op.TheVariants.{Absolute, Add, And, Count, Divide, Equal, Exists, Greater, GreaterEqual, Last, Less, LessEqual, Literal, Multiply, Negate, Negation, Or, Position, Predicate, Relative, Remainder, Step, Subtract, TruthOf, Unequal, Unknown}
use Rattle.meaning.specs.Tree.{Tree, none, node, depth, most_depth}
use Rattle.meaning.specs.Turning.{weight, written}
use Rattle.meaning.specs.Answers.{answer, check}
use Rattle.meaning.specs.declared.Answer.{Answer}
use Rattle.decimal.specs.Decimal.{ascii}
use Rattle.names.specs.Names.{position, number_of, names_of, bad_names, bad_line_number}
use Rattle.text.specs.declared.Fault.{Fault}
use Rattle.text.specs.declared.Sort.{Sort}
use Rattle.text.specs.declared.Sort.TheVariants.{Numeral, Truth, Nodes, Unheld}
use Rattle.text.specs.Grammar.{Token, Sentence, Longest}
use Rattle.text.specs.Grammar as G
use Rattle.text.specs.Tokens.{code, tokens, classes_of, place_in}
use Rattle.text.specs.Syntax.{word, number, string, variable, group, call, arguments, negative, binary, union, filter, onward, relative, absolute, chain, step, self, parent, axis, attribute, named, typed, instruction, target, predicates, is_kind, Syntax, blank, part, stand_for}
use Rattle.text.specs.Growing.{tightness}
use Rattle.text.specs.Limited.{Source, source, place, word_of, is_star, function_of, axis_number, value_at, sort, text_faults, least}

-- ---- literals

-- the values of the number literals, in the order of the text
unfoldable pub values : Source → Syntax → List Float
values s blank = []
values s (part k t i a b c) =
    let inner : List Float = values s a ++ (values s b ++ values s c) in
    cond (is_kind k number) (value_at s.text (place s i) ∷ []) inner

-- where a value stands first in a list, from 0; the length where it doesn't
unfoldable pub index_of : List Float → Float → ℕ
index_of [] x = 0
index_of (y ∷ ys) x =
    let r : ℕ = suc (index_of ys x) in
    cond (Ieee.eq y x) 0 r

-- equal values share a literal, numbered by first use
unfoldable pub with : List Float → Float → List Float
with seen x = cond (ltb (index_of seen x) (length seen)) seen (seen ++ (x ∷ []))

unfoldable pub distinct : List Float → List Float → List Float
distinct seen [] = seen
distinct seen (x ∷ xs) = distinct (with seen x) xs

unfoldable pub literals_of : Source → Syntax → List Float
literals_of s e = distinct [] (values s e)

-- ---- the tree

-- the op of a binary operator, in the order of their classes
unfoldable pub operation : Token → Op
operation t =
    get_or
    (Add ∷ Subtract ∷ Equal ∷ Unequal ∷ Less ∷ LessEqual ∷ Greater ∷ GreaterEqual ∷ Multiply ∷ And ∷ Or ∷ Divide
    ∷ Remainder ∷ [])
    (code t - code G.'+') Unknown

abbrev one : Op → Tree → Tree
one op a = node op a none 0 0

-- where a truth is wanted, a number gets op 19 and a path op 20
unfoldable pub as_truth : Sort → Tree → Tree
as_truth Numeral t = one TruthOf t
as_truth Truth t = t
as_truth Nodes t = one Exists t
as_truth Unheld t = t

-- a path that is a whole predicate gets op 20 too
unfoldable pub as_predicate : Sort → Tree → Tree
as_predicate Numeral t = t
as_predicate Truth t = t
as_predicate Nodes t = one Exists t
as_predicate Unheld t = t

-- a call over the tree of its argument; boolean() of a truth adds no row
unfoldable pub called : Function → Sort → Tree → Tree
called PositionCall u t = one Position none
called LastCall u t = one Last none
called CountCall u t = one Count t
called NotCall u t = one Negation (as_truth u t)
called BooleanCall u t = as_truth u t
called OtherCall u t = none

-- the operands of and and or are truths, of all others numbers
unfoldable pub operand_of : Token → Sort → Tree → Tree
operand_of t u x = cond (leb (tightness t) 2) (as_truth u x) x

-- `//` is short for /descendant-or-self::node()/: one more step
unfoldable pub descended : Token → Tree → Tree
descended t before = cond (eqb (code t) (code G.'//')) (node Step before none 5 0) before

-- a step's axis: child where none is written, attribute for `@`
unfoldable pub axis_of : Source → Syntax → ℕ
axis_of s blank = 1
axis_of s (part k t i a b c) = cond (is_kind k attribute) 11 (axis_number (word_of s i))

-- a step's test: `*` is 1, the i-th name 16 + i
unfoldable pub name_number : Source → ℕ → ℕ
name_number s i = cond (is_star s.text (place s i)) 1 (16 + number_of s.names (word_of s i))

-- node() is test 0, text() 2, comment() 3
unfoldable pub type_number : List ℕ → ℕ
type_number w = position (ascii "node" ∷ ascii "*" ∷ ascii "text" ∷ ascii "comment" ∷ []) w

-- processing-instruction() is test 4
unfoldable pub test_of : Source → Syntax → ℕ
test_of s blank = 0
test_of s (part k t i a b c) = cond (is_kind k named) (name_number s i) (cond (is_kind k typed) (type_number (word_of s i)) 4)

-- The tree that a construct stands for, with these literals. Steps and predicates stand behind others: `before` is the tree of the steps
-- before a step, and of the predicates before a predicate; nothing stands before an expression.
unfoldable pub held : Source → List Float → Tree → Syntax → Tree
held s l before blank = before
held s l before (part word t i a b c) = none
held s l before (part number t i a b c) = node Literal none none (index_of l (value_at s.text (place s i))) 0
held s l before (part string t i a b c) = none
held s l before (part variable t i a b c) = none
held s l before (part group t i a b c) = held s l none c
held s l before (part call t i a b c) = called (function_of (word_of s i)) (sort s c) (held s l none c)
held s l before (part arguments t i a b c) = held s l none c
held s l before (part negative t i a b c) = one Negate (held s l none c)
held s l before (part binary t i a b c) =
    node (operation t) (operand_of t (sort s a) (held s l none a)) (operand_of t (sort s c) (held s l none c)) 0 0
held s l before (part union t i a b c) = none
held s l before (part filter t i a b c) = none
held s l before (part onward t i a b c) = none
held s l before (part relative t i a b c) = one Relative (held s l none c)
held s l before (part absolute t i a b c) = one Absolute (held s l (descended t none) c)
held s l before (part chain t i a b c) = held s l (descended t (held s l before a)) c
held s l before (part step t i a b c) = node Step before (held s l none c) (axis_of s a) (test_of s b)
held s l before (part self t i a b c) = node Step before none 0 0
held s l before (part parent t i a b c) = node Step before none 2 0
held s l before (part axis t i a b c) = none
held s l before (part attribute t i a b c) = none
held s l before (part named t i a b c) = none
held s l before (part typed t i a b c) = none
held s l before (part instruction t i a b c) = none
held s l before (part target t i a b c) = none
held s l before (part predicates t i a b c) = held s l (node Predicate before (as_predicate (sort s a) (held s l none a)) 0 0) c

unfoldable pub tree_of : Source → Syntax → Tree
tree_of s e = held s (literals_of s e) none e

-- ---- the form of a text

-- a text is outside the unlimited grammar, with the byte at which it is refused, or it stands for a construct
pub data Form : Type 0 where
  outside : ℕ → Form
  inside : Syntax → Form

-- the first byte of token n, or the length
unfoldable pub byte_of : List ℕ → ℕ → ℕ
byte_of text n = place_in (tokens text) (length text) n

-- a text of the grammar stands for what its derivation does; any other is refused at the first token with which no text of the grammar goes on
unfoldable pub HasForm : List ℕ → Form → Type 0
HasForm text (outside p) = (Sentence (classes_of text) → ⊥) × ((n : ℕ) × Longest (classes_of text) n × (p ≡ byte_of text n))
HasForm text (inside e) = (d : Sentence (classes_of text)) × (stand_for d 0 ≡ e ∷ [])

-- ---- the answer

-- 24, 25 and 26: the lowest byte, and at one byte the lowest number
unfoldable pub fault_check : List Fault → Answer → Answer
fault_check [] next = next
fault_check (f ∷ fs) next = answer (least f fs).number (least f fs).place

-- 3: above 256 rows; 4: above 64 literals, the lowest too many; 6: depth above 8
unfoldable pub limit_checks : Tree → List Float → Answer → Answer
limit_checks t literals next =
    check (ltb most_path_rows (weight t)) 3 0
    (check (ltb most_literals (length literals)) 4 most_literals
    (check (ltb most_depth (depth t)) 6 0
    next))

-- 21 and 27: room for rows and for literals, the numbers needed; 0: the rows written
unfoldable pub room_checks : Tree → List Float → ℕ → ℕ → Answer
room_checks t literals room literalRoom =
    check (ltb room (5 * weight t)) 21 (5 * weight t)
    (check (ltb literalRoom (length literals)) 27 (length literals)
    (answer 0 (weight t)))

-- behind the names, by the text's form. 23: outside the unlimited grammar
unfoldable pub form_checks : Form → Source → ℕ → ℕ → Answer
form_checks (outside p) s room literalRoom = answer 23 p
form_checks (inside e) s room literalRoom =
    fault_check (text_faults s e) (limit_checks (tree_of s e) (literals_of s e) (room_checks (tree_of s e) (literals_of s e) room literalRoom))

-- 22: the first bad line of the names
unfoldable pub reading : Form → List ℕ → List ℕ → ℕ → ℕ → Answer
reading f text list room literalRoom =
    check (bad_names (names_of list)) 22 (bad_line_number (names_of list))
    (form_checks f (source text list) room literalRoom)

-- the rows and the literals of a text
unfoldable pub rows_of : Form → Source → List ℕ
rows_of (outside p) s = []
rows_of (inside e) s = written 0 (tree_of s e)

unfoldable pub literals : Form → Source → List Float
literals (outside p) s = []
literals (inside e) s = literals_of s e

-- how many literals are told beside the answer: none on a refusal
unfoldable pub literal_count : Answer → Form → Source → ℕ
literal_count r f s = cond (eqb r.number 0) (length (literals f s)) 0

-- on 0 what was written stands at the front and the rest is unchanged; every other number leaves the output unchanged
unfoldable pub output_of : {A : Type 0} → Answer → List A → List A → List A
output_of r front out = cond (eqb r.number 0) (front ++ drop (length front) out) out

-- `reader::read_path`: its answer is r with so many literals, what was rows is rows', and what was out is out'
abbrev pub ReadsPath : List ℕ → List ℕ → List ℕ → List Float → Answer → ℕ → List ℕ → List Float → Type 0
ReadsPath text list rows out r count rows' out' =
    (f : Form)
    × HasForm text f
    × (r ≡ reading f text list (length rows) (length out))
    × (count ≡ literal_count r f (source text list))
    × (rows' ≡ output_of r (rows_of f (source text list)) rows)
    × (out' ≡ output_of r (literals f (source text list)) out)
