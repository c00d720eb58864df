-- What a text stands for (the Recommendation, productions 1 to 27): beside each production, which construct it makes of its parts, and so
-- the tree of constructs that a derivation gives. A construct knows the number of its first token in the text.
-- Assumes nothing: these are definitions.
use Rattle.std.specs.Prelude.{ℕ, suc, Bool, List, [], ◌∷◌, get_or, eqb}
use Rattle.text.specs.Grammar.{Token, unknown, Symbol, the, LocationPath, AbsoluteLocationPath, RelativeLocationPath, Step, AxisSpecifier, NodeTest, Predicates, Predicate, PredicateExpr, AbbreviatedAbsoluteLocationPath, AbbreviatedRelativeLocationPath, AbbreviatedStep, AbbreviatedAxisSpecifier, Expr, PrimaryExpr, FunctionCall, Arguments, Argument, UnionExpr, PathExpr, FilterExpr, OrExpr, AndExpr, EqualityExpr, RelationalExpr, AdditiveExpr, MultiplicativeExpr, UnaryExpr, Among, first, later, Derives, none, token, by}

-- The constructs. word: a token that stands for nothing else. onward: steps from an expression. chain: a `/` or `//` between steps.
-- self and parent: `.` and `..`. attribute: `@`. target: processing-instruction with a string.
pub data Kind : Type 0 where
  word number string variable group call arguments negative binary union filter onward : Kind
  relative absolute chain step self parent axis attribute named typed instruction target predicates : Kind

-- each kind has a number, so that kinds can be compared
abbrev pub kind_number : Kind → ℕ
kind_number word = 0
kind_number number = 1
kind_number string = 2
kind_number variable = 3
kind_number group = 4
kind_number call = 5
kind_number arguments = 6
kind_number negative = 7
kind_number binary = 8
kind_number union = 9
kind_number filter = 10
kind_number onward = 11
kind_number relative = 12
kind_number absolute = 13
kind_number chain = 14
kind_number step = 15
kind_number self = 16
kind_number parent = 17
kind_number axis = 18
kind_number attribute = 19
kind_number named = 20
kind_number typed = 21
kind_number instruction = 22
kind_number target = 23
kind_number predicates = 24

abbrev pub is_kind : Kind → Kind → Bool
is_kind k j = eqb (kind_number k) (kind_number j)

-- A construct: its kind, the token that tells it from others of its kind (an operator, `/` or `//`, else `unknown` or its first token),
-- the number of its first token, and its parts; the last part to be read is the third. Nothing written is `blank`.
pub data Syntax : Type 0 where
  blank : Syntax
  part : Kind → Token → ℕ → Syntax → Syntax → Syntax → Syntax

unfoldable pub token_of : Syntax → Token
token_of blank = unknown
token_of (part k t i a b c) = t

-- the number of the first token
unfoldable pub begin : Syntax → ℕ
begin blank = 0
begin (part k t i a b c) = i

-- What a production stands for: what its k-th part stands for, from 0, or a construct. A construct's token and its three parts are again
-- given by where they stand in the production; 9 is none.
pub data Reading : Type 0 where
  pass : ℕ → Reading
  makes : Kind → ℕ → ℕ → ℕ → ℕ → Reading

-- a construct of one token, or with brackets that hold nothing
abbrev plain : Kind → Reading
plain k = makes k 0 9 9 9

-- a construct of two with a token between, and one of a single part at k
abbrev between : Kind → Reading
between k = makes k 1 0 9 2

-- beside `productions`, a line for a line
unfoldable pub readings : Symbol → List Reading
readings (the t) = []
readings LocationPath = makes relative 9 9 9 0 ∷ pass 0 ∷ []
readings AbsoluteLocationPath = plain absolute ∷ makes absolute 0 9 9 1 ∷ pass 0 ∷ []
readings RelativeLocationPath = pass 0 ∷ between chain ∷ pass 0 ∷ []
readings Step = makes step 9 0 1 2 ∷ pass 0 ∷ []
readings AxisSpecifier = plain axis ∷ pass 0 ∷ []
readings NodeTest = plain named ∷ plain typed ∷ plain instruction ∷ plain target ∷ []
readings Predicates = pass 0 ∷ makes predicates 9 0 9 1 ∷ []
readings Predicate = pass 1 ∷ []
readings PredicateExpr = pass 0 ∷ []
readings AbbreviatedAbsoluteLocationPath = makes absolute 0 9 9 1 ∷ []
readings AbbreviatedRelativeLocationPath = between chain ∷ []
readings AbbreviatedStep = plain self ∷ plain parent ∷ []
readings AbbreviatedAxisSpecifier = plain attribute ∷ pass 0 ∷ []
readings Expr = pass 0 ∷ []
readings PrimaryExpr = plain variable ∷ makes group 0 9 9 1 ∷ plain string ∷ plain number ∷ pass 0 ∷ []
readings FunctionCall = plain call ∷ makes call 0 9 9 2 ∷ []
readings Arguments = makes arguments 9 9 9 0 ∷ makes arguments 9 0 9 2 ∷ []
readings Argument = pass 0 ∷ []
readings UnionExpr = pass 0 ∷ between union ∷ []
readings PathExpr = pass 0 ∷ pass 0 ∷ between onward ∷ between onward ∷ []
readings FilterExpr = pass 0 ∷ makes filter 9 0 9 1 ∷ []
readings OrExpr = pass 0 ∷ between binary ∷ []
readings AndExpr = pass 0 ∷ between binary ∷ []
readings EqualityExpr = pass 0 ∷ between binary ∷ between binary ∷ []
readings RelationalExpr = pass 0 ∷ between binary ∷ between binary ∷ between binary ∷ between binary ∷ []
readings AdditiveExpr = pass 0 ∷ between binary ∷ between binary ∷ []
readings MultiplicativeExpr = pass 0 ∷ between binary ∷ between binary ∷ between binary ∷ []
readings UnaryExpr = pass 0 ∷ makes negative 0 9 9 1 ∷ []

-- the k-th part; nothing where there is none
abbrev pub nth : List Syntax → ℕ → Syntax
nth xs k = get_or xs k blank

-- what a reading makes of the parts of a production that begins with token i
unfoldable pub made : Reading → ℕ → List Syntax → Syntax
made (pass k) i xs = nth xs k
made (makes k t a b c) i xs = part k (token_of (nth xs t)) i (nth xs a) (nth xs b) (nth xs c)

-- which production of its name was taken, from 0
unfoldable pub which : {r : List Symbol} {rows : List (List Symbol)} → Among r rows → ℕ
which first = 0
which (later a) = suc (which a)

-- the number of the token behind these
unfoldable pub past : ℕ → List Token → ℕ
past i [] = i
past i (t ∷ ts) = past (suc i) ts

-- what the symbols of a derivation stand for, one after the other, where its first token has the number i
unfoldable pub stand_for : {s : List Symbol} {ts : List Token} → Derives s ts → ℕ → List Syntax
stand_for none i = []
stand_for (token {t = t} d) i = part word t i blank blank blank ∷ stand_for d (suc i)
stand_for (by {n = n} {xs = xs} a d e) i =
    made (get_or (readings n) (which a) (pass 0)) i (stand_for d i) ∷ stand_for e (past i xs)

-- a machine reads tokens one by one, the first has the number i
unfoldable pub read_all : {G : Type 0} → (G → ℕ → Token → G) → G → ℕ → List Token → G
read_all f g i [] = g
read_all f g i (t ∷ ts) = read_all f (f g i t) (suc i) ts
