-- The tokens of a text (the Recommendation, 3.7): bytes to classes of tokens, the longest token first, by the byte that begins it and by
-- whether an operator is due, which the token before it decides.
-- Assumes nothing: these are definitions.
use Rattle.text.specs.declared.Run.{Run}
use Rattle.text.specs.declared.Run.TheVariants.{Spaces, Digits, NameBytes, Until}
use Rattle.std.specs.Prelude.{ℕ, zero, suc, ◌+◌, ◌-◌, Bool, false, ◌&&◌, ◌||◌, not, cond, List, [], ◌∷◌, map, length, get_or, take, drop, eqb, ltb, leb}
use Rattle.decimal.specs.Decimal.{ascii, is_digit}
use Rattle.names.specs.Names.{is_letter, is_name_byte, position}
use Rattle.text.specs.declared.Lexeme.{Lexeme}
use Rattle.text.specs.Grammar.{Token, opening, closing, '[', ']', dot, dots, at, comma, '::', NameTest, NodeType, 'processing_instruction', FunctionName, AxisName, Literal, Number, VariableReference, '/', '//', '|', '+', '-', '=', '!=', '<', '<=', '>', '>=', MultiplyOperator, 'and', 'or', 'div', 'mod', unknown}

-- the number of a token's class
unfoldable pub code : Token → ℕ
code opening = 0
code closing = 1
code '[' = 2
code ']' = 3
code dot = 4
code dots = 5
code at = 6
code comma = 7
code '::' = 8
code NameTest = 9
code NodeType = 10
code 'processing_instruction' = 11
code FunctionName = 12
code AxisName = 13
code Literal = 14
code Number = 15
code VariableReference = 16
code '/' = 17
code '//' = 18
code '|' = 19
code '+' = 20
code '-' = 21
code '=' = 22
code '!=' = 23
code '<' = 24
code '<=' = 25
code '>' = 26
code '>=' = 27
code MultiplyOperator = 28
code 'and' = 29
code 'or' = 30
code 'div' = 31
code 'mod' = 32
code unknown = 33

-- the classes, each at its number
abbrev pub classes : List Token
classes =
    opening ∷ closing ∷ '[' ∷ ']' ∷ dot ∷ dots ∷ at ∷ comma ∷ '::'
    ∷ NameTest ∷ NodeType ∷ 'processing_instruction' ∷ FunctionName ∷ AxisName ∷ Literal ∷ Number ∷ VariableReference
    ∷ '/' ∷ '//' ∷ '|' ∷ '+' ∷ '-' ∷ '=' ∷ '!=' ∷ '<' ∷ '<=' ∷ '>' ∷ '>=' ∷ MultiplyOperator ∷ 'and' ∷ 'or' ∷ 'div' ∷ 'mod' ∷ unknown ∷ []

abbrev pub class_of : ℕ → Token
class_of n = get_or classes n unknown

-- ---- bytes

-- space, tab, line feed, carriage return
abbrev pub is_space : ℕ → Bool
is_space b = eqb b 32 || eqb b 9 || eqb b 10 || eqb b 13

-- the bytes that a run is made of: spaces, digits, name bytes, or all but one
abbrev pub passes : Run → ℕ → Bool
passes Spaces b = is_space b
passes Digits b = is_digit b
passes NameBytes b = is_name_byte b
passes (Until q) b = not (eqb b q)

-- how many bytes at the front pass
unfoldable pub many : Run → List ℕ → ℕ
many q [] = 0
many q (b ∷ l) =
    let r : ℕ = suc (many q l) in
    cond (passes q b) r 0

-- the byte at i, 0 past the end
abbrev pub byte : List ℕ → ℕ → ℕ
byte text i = get_or text i 0

-- the end of the run that begins at i
unfoldable pub run_end : Run → List ℕ → ℕ → ℕ
run_end q text i = i + many q (drop i text)

-- the bytes from i to before e
abbrev pub between : List ℕ → ℕ → ℕ → List ℕ
between text i e = take (e - i) (drop i text)

-- ---- words

-- of the words the one that w is has the class beside it; any other word has another
unfoldable pub class_among : List (List ℕ) → List Token → Token → List ℕ → ℕ
class_among words tokens other w = code (get_or tokens (position words w) other)

-- OperatorName [33]; a name where an operator is due has to be one
unfoldable pub operator_names : List (List ℕ)
operator_names = ascii "and" ∷ ascii "or" ∷ ascii "mod" ∷ ascii "div" ∷ []

unfoldable pub operator_name : List ℕ → ℕ
operator_name w = class_among operator_names ('and' ∷ 'or' ∷ 'mod' ∷ 'div' ∷ []) unknown w

-- NodeType [38]; any other name before `(` is a FunctionName [35]
unfoldable pub node_types : List (List ℕ)
node_types = ascii "comment" ∷ ascii "text" ∷ ascii "processing-instruction" ∷ ascii "node" ∷ []

unfoldable pub node_type : List ℕ → ℕ
node_type w = class_among node_types (NodeType ∷ NodeType ∷ 'processing_instruction' ∷ NodeType ∷ []) FunctionName w

-- AxisName [6]
unfoldable pub axis_names : List (List ℕ)
axis_names =
    ascii "ancestor" ∷ ascii "ancestor-or-self" ∷ ascii "attribute" ∷ ascii "child" ∷ ascii "descendant" ∷ ascii "descendant-or-self"
    ∷ ascii "following" ∷ ascii "following-sibling" ∷ ascii "namespace" ∷ ascii "parent" ∷ ascii "preceding" ∷ ascii "preceding-sibling"
    ∷ ascii "self" ∷ []

unfoldable pub axis_name : List ℕ → ℕ
axis_name w = cond (ltb (position axis_names w) (length axis_names)) (code AxisName) (code unknown)

-- ---- tokens of one byte or two

-- those of two bytes: the longer token goes first
unfoldable pub pairs : List (List ℕ)
pairs = ascii ".." ∷ ascii "::" ∷ ascii "//" ∷ ascii "!=" ∷ ascii "<=" ∷ ascii ">=" ∷ []

unfoldable pub pair_class : ℕ → ℕ → ℕ
pair_class b d = class_among pairs (dots ∷ '::' ∷ '//' ∷ '!=' ∷ '<=' ∷ '>=' ∷ []) unknown (b ∷ d ∷ [])

-- those of one byte, but for `*`
unfoldable pub marks : List (List ℕ)
marks =
    ascii "(" ∷ ascii ")" ∷ ascii "[" ∷ ascii "]" ∷ ascii "." ∷ ascii "@" ∷ ascii "," ∷ ascii "/" ∷ ascii "|" ∷ ascii "+" ∷ ascii "-" ∷ ascii "="
    ∷ ascii "<" ∷ ascii ">" ∷ []

-- `*` is an operator where one is due, and a name test elsewhere
unfoldable pub mark_class : ℕ → Bool → ℕ
mark_class b due =
    cond (eqb b 42) (cond due (code MultiplyOperator) (code NameTest))
    (class_among marks (opening ∷ closing ∷ '[' ∷ ']' ∷ dot ∷ at ∷ comma ∷ '/' ∷ '|' ∷ '+' ∷ '-' ∷ '=' ∷ '<' ∷ '>' ∷ []) unknown (b ∷ []))

-- ---- names

-- a name, with or without `:` and another
unfoldable pub name_end : List ℕ → ℕ → ℕ
name_end text i =
    cond (eqb (byte text (run_end NameBytes text i)) 58 && is_letter (byte text (run_end NameBytes text i + 1)))
    (run_end NameBytes text (run_end NameBytes text i + 1))
    (run_end NameBytes text i)

-- `:*` stands at i
unfoldable pub star_at : List ℕ → ℕ → Bool
star_at text i = eqb (byte text i) 58 && eqb (byte text (i + 1)) 42

-- `(` stands at i
unfoldable pub opens_at : List ℕ → ℕ → Bool
opens_at text i = eqb (byte text i) 40

-- `::` stands at next, after a name without `:` from i to e
unfoldable pub axis_at : List ℕ → ℕ → ℕ → ℕ → Bool
axis_at text i e next = eqb (byte text next) 58 && eqb (byte text (next + 1)) 58 && eqb e (run_end NameBytes text i)

-- the rules for names, in their order: an operator is due; `(` follows; `::` follows; else a name test. next is what follows behind spaces
unfoldable pub name_class : List ℕ → ℕ → ℕ → ℕ → Bool → ℕ
name_class text i e next due =
    cond due (operator_name (between text i e))
    (cond (opens_at text next) (node_type (between text i e))
    (cond (axis_at text i e next) (axis_name (between text i e))
    (code NameTest)))

abbrev pub token : ℕ → ℕ → Lexeme
token k e = record { kind = k; end = e }

-- a name, or `p:*`
unfoldable pub named : List ℕ → ℕ → Bool → Lexeme
named text i due =
    cond (star_at text (run_end NameBytes text i))
    (token (cond due (code unknown) (code NameTest)) (run_end NameBytes text i + 2))
    (token (name_class text i (name_end text i) (run_end Spaces text (name_end text i)) due) (name_end text i))

-- ---- other tokens

-- Number [30]: digits, with or without a point and more digits
unfoldable pub number_end : List ℕ → ℕ → ℕ
number_end text i = cond (eqb (byte text (run_end Digits text i)) 46) (run_end Digits text (run_end Digits text i + 1)) (run_end Digits text i)

-- Literal [29], up to the quote q that ends it; no token where none does
unfoldable pub quoted : List ℕ → ℕ → ℕ → Lexeme
quoted text i q = cond (ltb (run_end (Until q) text (i + 1)) (length text)) (token (code Literal) (run_end (Until q) text (i + 1) + 1)) (token (code unknown) i)

unfoldable pub punctuation : List ℕ → ℕ → Bool → Lexeme
punctuation text i due =
    cond (eqb (pair_class (byte text i) (byte text (i + 1))) (code unknown))
    (token (mark_class (byte text i) due) (i + 1))
    (token (pair_class (byte text i) (byte text (i + 1))) (i + 2))

-- a digit, or a point before one
unfoldable pub number_at : List ℕ → ℕ → Bool
number_at text i = is_digit (byte text i) || (eqb (byte text i) 46 && is_digit (byte text (i + 1)))

unfoldable pub quote_at : List ℕ → ℕ → Bool
quote_at text i = eqb (byte text i) 34 || eqb (byte text i) 39

unfoldable pub letter_at : List ℕ → ℕ → Bool
letter_at text i = is_letter (byte text i)

-- VariableReference [36]: `$` before a name
unfoldable pub variable_at : List ℕ → ℕ → Bool
variable_at text i = eqb (byte text i) 36 && is_letter (byte text (i + 1))

-- the token that begins at i
unfoldable pub lexeme : List ℕ → ℕ → Bool → Lexeme
lexeme text i due =
    cond (number_at text i) (token (code Number) (number_end text i))
    (cond (quote_at text i) (quoted text i (byte text i))
    (cond (letter_at text i) (named text i due)
    (cond (variable_at text i) (token (code VariableReference) (name_end text (i + 1)))
    (punctuation text i due))))

-- is an operator due after a token of this class? Not after `@`, `::`, `(`, `[`, `,` or an operator
unfoldable pub operator_due : ℕ → Bool
operator_due k =
    eqb k (code closing) || eqb k (code ']') || eqb k (code dot) || eqb k (code dots) || (leb (code NameTest) k && leb k (code VariableReference))

-- ---- the tokens of a text

-- a token of a text: its class, its first byte and the byte behind it
pub data Placed : Type 0 where
  placed : Token → ℕ → ℕ → Placed

abbrev pub class : Placed → Token
class (placed t i e) = t

abbrev pub place : Placed → ℕ
place (placed t i e) = i

abbrev pub end : Placed → ℕ
end (placed t i e) = e

-- the tokens from i on; spaces stand between them. Where no token can be read the text is cut no further, and `unknown` stands there
unfoldable pub tokens_from : ℕ → List ℕ → ℕ → Bool → List Placed
tokens_from zero text i due = []
tokens_from (suc fuel) text i due =
    let begin : ℕ = run_end Spaces text i in
    let found : Lexeme = lexeme text begin due in
    let rest : List Placed = cond (eqb found.kind (code unknown)) [] (tokens_from fuel text found.end (operator_due found.kind)) in
    cond (ltb begin (length text)) (placed (class_of found.kind) begin found.end ∷ rest) []

-- every token takes a byte at least
unfoldable pub tokens : List ℕ → List Placed
tokens text = tokens_from (length text) text 0 false

unfoldable pub classes_of : List ℕ → List Token
classes_of text = map class (tokens text)

-- the first byte of token i; behind the last token, the length and what would follow
unfoldable pub place_in : List Placed → ℕ → ℕ → ℕ
place_in [] length i = length + i
place_in (t ∷ ts) length zero = place t
place_in (t ∷ ts) length (suc i) = place_in ts length i
