-- What of a text document 01 can hold (document 02, W-202): words, the sorts of expressions, and the faults 24, 25 and 26 with their bytes.
-- It stands over the tree of constructs, a line for each kind of construct.
-- Assumes nothing: these are definitions.
use Rattle.text.specs.declared.Run.TheVariants.{Digits, NameBytes}
use Rattle.text.specs.declared.Function.{Function}
use Rattle.text.specs.declared.Function.TheVariants.{PositionCall, LastCall, CountCall, NotCall, BooleanCall, OtherCall}
use Rattle.std.specs.Prelude.{ℕ, suc, ◌+◌, ◌-◌, ◌^◌, Bool, true, false, ◌&&◌, ◌||◌, not, cond, List, [], ◌∷◌, ◌++◌, length, get_or, eqb, ltb, leb, Float}
use Rattle.std.specs.Float.{binary64}
use Rattle.std.specs.Float.Ieee as Ieee
use Rattle.meaning.specs.Lists.{keep}
use Rattle.meaning.specs.Axis.{last_axis}
use Rattle.meaning.specs.Meaning.{float}
use Rattle.decimal.specs.Decimal.{ascii, is_digit}
use Rattle.decimal.specs.Decimal as Decimal
use Rattle.names.specs.Names.{position, is_named, names_of}
use Rattle.text.specs.declared.Fault.{Fault}
use Rattle.text.specs.declared.Sort.{Sort}
use Rattle.text.specs.declared.Sort.TheVariants.{Numeral, Truth, Nodes, Unheld}
use Rattle.text.specs.Grammar.{Token}
use Rattle.text.specs.Tokens.{byte, many, between, run_end, name_end, number_end, star_at, Placed, tokens, place_in}
use Rattle.text.specs.Syntax.{Kind, word, number, string, variable, group, call, arguments, negative, binary, union, filter, onward, relative, absolute, chain, step, self, parent, axis, attribute, named, typed, instruction, target, predicates, is_kind, Syntax, blank, part, begin}
use Rattle.text.specs.Growing.{tightness}

-- a text with its tokens, and the names
pub record Source : Type 0 where
  pub text : List ℕ
  pub tokens : List Placed
  pub names : List (List ℕ)

unfoldable pub source : List ℕ → List ℕ → Source
source text list = record { text = text; tokens = tokens text; names = names_of list }

-- the first byte of token i
abbrev pub place : Source → ℕ → ℕ
place s i = place_in s.tokens (length s.text) i

-- ---- words

-- the name that begins at byte p, a prefix included
unfoldable pub word_at : List ℕ → ℕ → List ℕ
word_at text p = between text p (name_end text p)

-- the name that token i is
abbrev pub word_of : Source → ℕ → List ℕ
word_of s i = word_at s.text (place s i)

-- is it `*`? Has it a prefix, `p:a` or `p:*`?
unfoldable pub is_star : List ℕ → ℕ → Bool
is_star text p = eqb (byte text p) 42

unfoldable pub has_prefix : List ℕ → ℕ → Bool
has_prefix text p = star_at text (run_end NameBytes text p) || not (eqb (name_end text p) (run_end NameBytes text p))

-- ---- the five functions

abbrev pub function_names : List (List ℕ)
function_names = ascii "position" ∷ ascii "last" ∷ ascii "count" ∷ ascii "not" ∷ ascii "boolean" ∷ []

abbrev pub functions : List Function
functions = PositionCall ∷ LastCall ∷ CountCall ∷ NotCall ∷ BooleanCall ∷ []

unfoldable pub function_of : List ℕ → Function
function_of w = get_or functions (position function_names w) OtherCall

-- does 01 hold the function with so many arguments?
unfoldable pub holds_call : Function → ℕ → Bool
holds_call PositionCall n = eqb n 0
holds_call LastCall n = eqb n 0
holds_call CountCall n = eqb n 1
holds_call NotCall n = eqb n 1
holds_call BooleanCall n = eqb n 1
holds_call OtherCall n = false

-- the axes, each at 01's number; namespace has none
abbrev pub held_axes : List (List ℕ)
held_axes =
    ascii "self" ∷ ascii "child" ∷ ascii "parent" ∷ ascii "descendant" ∷ ascii "ancestor" ∷ ascii "descendant-or-self"
    ∷ ascii "ancestor-or-self" ∷ ascii "following" ∷ ascii "preceding" ∷ ascii "following-sibling" ∷ ascii "preceding-sibling"
    ∷ ascii "attribute" ∷ []

unfoldable pub axis_number : List ℕ → ℕ
axis_number w = position held_axes w

unfoldable pub holds_axis : List ℕ → Bool
holds_axis w = leb (axis_number w) last_axis

-- ---- numbers

-- the bytes of the number that begins at p
unfoldable pub number_at : List ℕ → ℕ → List ℕ
number_at text p = between text p (number_end text p)

-- its digits, leading and trailing zeros too
unfoldable pub digits : List ℕ → List ℕ
digits w = keep is_digit w

-- the most digits of a number literal
abbrev pub most_digits : ℕ
most_digits = 15

-- how many digits stand behind the point
unfoldable pub digits_behind : List ℕ → ℕ
digits_behind w = length w - (many Digits w + 1)

-- the whole number of its digits, divided once by the power of ten
unfoldable pub value_at : List ℕ → ℕ → Float
value_at text p =
    Ieee.div binary64 (float (Decimal.number (digits (number_at text p)))) (float (10 ^ digits_behind (number_at text p)))

-- ---- sorts: every expression is a numeral, a truth or a path, which gives nodes; what we don't hold has no sort, it is unheld

-- is it a path?
abbrev pub is_path : Sort → Bool
is_path Numeral = false
is_path Truth = false
is_path Nodes = true
is_path Unheld = false

unfoldable pub result_of : Function → Sort
result_of PositionCall = Numeral
result_of LastCall = Numeral
result_of CountCall = Numeral
result_of NotCall = Truth
result_of BooleanCall = Truth
result_of OtherCall = Unheld

-- how many arguments
unfoldable pub arity : Syntax → ℕ
arity blank = 0
arity (part k t i a b c) = suc (arity a)

-- is it a call that 01 holds?
abbrev pub is_held_call : Source → ℕ → Syntax → Bool
is_held_call s i c = holds_call (function_of (word_of s i)) (arity c)

-- the sort of a call: its function's, if 01 holds it
unfoldable pub call_sort : Source → ℕ → Syntax → Sort
call_sort s i c = cond (is_held_call s i c) (result_of (function_of (word_of s i))) Unheld

-- sums and products are numbers; or, and and the comparisons are truths
unfoldable pub operator_sort : Token → Sort
operator_sort t = cond (leb 5 (tightness t)) Numeral Truth

-- brackets have the sort of what they hold
unfoldable pub sort : Source → Syntax → Sort
sort s blank = Unheld
sort s (part k t i a b c) =
    cond (is_kind k number || is_kind k negative) Numeral
    (cond (is_kind k relative || is_kind k absolute) Nodes
    (cond (is_kind k group || is_kind k arguments) (sort s c)
    (cond (is_kind k binary) (operator_sort t)
    (cond (is_kind k call) (call_sort s i c)
    Unheld))))

-- ---- faults: a number, 24 to 26, and a byte

-- the fault at token i
abbrev pub fault : Source → ℕ → ℕ → List Fault
fault s n i = record { number = n; place = place s i } ∷ []

-- does an operand of this sort stand where a number, or a path, is taken? What has no sort is taken anywhere: it has its own fault
abbrev pub number_taken : Sort → Bool
number_taken Numeral = true
number_taken Truth = false
number_taken Nodes = false
number_taken Unheld = true

abbrev pub path_taken : Sort → Bool
path_taken Numeral = false
path_taken Truth = false
path_taken Nodes = true
path_taken Unheld = true

-- an operand that its place doesn't take: 26 at its first byte
unfoldable pub as_number : Source → Syntax → List Fault
as_number s e = cond (number_taken (sort s e)) [] (fault s 26 (begin e))

unfoldable pub as_path : Source → Syntax → List Fault
as_path s e = cond (path_taken (sort s e)) [] (fault s 26 (begin e))

-- an unknown name is 24; `*` is none, and a name with a prefix is not held
unfoldable pub name_faults : Source → ℕ → List Fault
name_faults s i =
    cond (is_star s.text (place s i)) []
    (cond (has_prefix s.text (place s i)) (fault s 26 i)
    (cond (is_named s.names (word_of s i)) []
    (fault s 24 i)))

-- too many digits
unfoldable pub digit_faults : Source → ℕ → List Fault
digit_faults s i = cond (ltb most_digits (length (digits (number_at s.text (place s i))))) (fault s 25 i) []

-- of the five functions count takes a path, the others take what they get
unfoldable pub argument_faults : Source → Function → Syntax → List Fault
argument_faults s PositionCall c = []
argument_faults s LastCall c = []
argument_faults s CountCall c = as_path s c
argument_faults s NotCall c = []
argument_faults s BooleanCall c = []
argument_faults s OtherCall c = []

-- a construct's own faults, not those of its parts
unfoldable pub own : Source → Kind → Token → ℕ → Syntax → Syntax → List Fault
own s word t i a c = []
own s number t i a c = digit_faults s i
own s string t i a c = fault s 26 i
own s variable t i a c = fault s 26 i
own s group t i a c = cond (is_path (sort s c)) (fault s 26 i) []
own s call t i a c = cond (is_held_call s i c) (argument_faults s (function_of (word_of s i)) c) (fault s 26 i)
own s arguments t i a c = []
own s negative t i a c = as_number s c
own s binary t i a c = cond (leb 3 (tightness t)) (as_number s a ++ as_number s c) []
own s union t i a c = fault s 26 i
own s filter t i a c = fault s 26 i
own s onward t i a c = fault s 26 i
own s relative t i a c = []
own s absolute t i a c = []
own s chain t i a c = []
own s step t i a c = []
own s self t i a c = []
own s parent t i a c = []
own s axis t i a c = cond (holds_axis (word_of s i)) [] (fault s 26 i)
own s attribute t i a c = []
own s named t i a c = name_faults s i
own s typed t i a c = []
own s instruction t i a c = []
own s target t i a c = fault s 26 i
own s predicates t i a c = []

unfoldable pub faults : Source → Syntax → List Fault
faults s blank = []
faults s (part k t i a b c) = own s k t i a c ++ (faults s a ++ (faults s b ++ faults s c))

-- the whole text has to be a path
unfoldable pub text_faults : Source → Syntax → List Fault
text_faults s e = as_path s e ++ faults s e

-- lowest byte first, and the lowest number at one byte
abbrev pub before : Fault → Fault → Bool
before f g = ltb f.place g.place || (eqb f.place g.place && leb f.number g.number)

unfoldable pub least : Fault → List Fault → Fault
least f [] = f
least f (g ∷ gs) = least (cond (before f g) f g) gs
