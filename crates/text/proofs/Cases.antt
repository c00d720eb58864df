-- Texts and their answers, each computed from the definitions: the examples of the readings of document 02, W-202, in their order.
-- The names are a, b, c and d, with room for 256 rows and 64 literals, unless a case says otherwise.
-- Assumes nothing.
use Prim.Native.Nat.{ℕ}
use Prim.Native.String.{String}
use mathlib.Core.Path.{◌≡◌, refl}
use mathlib.Core.List.{List, [], ◌∷◌, ◌++◌}
use lib.Ieee as Ieee
use Rattle.meaning.specs.declared.Answer.{Answer}
use Rattle.meaning.specs.Lists as L
use Rattle.meaning.specs.Rows as R
use Rattle.meaning.specs.Tree as E
use Rattle.meaning.specs.Meaning as B
use Rattle.meaning.specs.Turning as W
use Rattle.decimal.specs.Decimal.{ascii}
use Rattle.decimal.specs.Decimal as D
use Rattle.names.specs.Names as N
use Rattle.text.specs.Tokens as X
use Rattle.text.specs.Machine as M
use Rattle.text.specs.Syntax as S
use Rattle.text.specs.Growing as G
use Rattle.text.specs.Limited as H
use Rattle.text.specs.Reading as A
use Rattle.text.specs.Forms.{form_of}

-- a text with its number and place; bytes with theirs; a text with its rows; a list of names with the answer of `a`; `a[1]` with so much room
data Case : Type 0 where
  gives : String → ℕ → ℕ → Case
  bytes : List ℕ → ℕ → ℕ → Case
  holds : String → List ℕ → Case
  names : String → ℕ → ℕ → Case
  room : ℕ → ℕ → ℕ → ℕ → Case

abbrev list : List ℕ
list = ascii "a\nb\nc\nd\n"

abbrev answered : List ℕ → List ℕ → ℕ → ℕ → List ℕ
answered text lent rows literals =
    let a : Answer = A.reading (form_of text) text lent rows literals in
    a.number ∷ a.place ∷ []

-- what the definitions give, and what is listed
given : Case → List ℕ
unfolding N.all_name_bytes N.good_name N.same N.position N.lines_from N.names_of N.bad_line N.bad_names N.bad_line_number N.is_named N.number_of
    X.code X.many X.run_end X.class_among X.operator_names X.operator_name X.node_types X.node_type X.axis_names X.axis_name X.pairs X.pair_class
    X.marks X.mark_class X.name_end X.star_at X.opens_at X.axis_at X.name_class X.named X.number_end X.quoted X.punctuation X.number_at
    X.quote_at X.letter_at X.variable_at X.lexeme X.operator_due X.tokens_from X.tokens X.classes_of X.place_in M.number M.rows M.has M.pick M.inner
    M.done M.next M.run M.accepting M.is_stuck M.readable S.token_of S.begin G.tightness G.strength G.settle G.top_strength G.with_axis
    G.with_test G.with_point G.with_operand G.with_string G.with_opening G.fill G.for_arguments G.for_filter G.is_blank G.close_round
    G.with_closing G.with_bracket G.close_square G.with_square G.close_argument G.with_comma G.with_call G.goes_on G.with_slash G.join
    G.with_operator G.with_minus G.grow S.read_all G.settled G.ended G.syntax_of H.source H.word_at H.is_star H.has_prefix H.function_of
    H.holds_call H.axis_number H.holds_axis H.number_at H.digits H.digits_behind H.value_at H.result_of H.arity H.call_sort
    H.operator_sort H.sort H.as_number H.as_path H.name_faults H.digit_faults H.argument_faults H.own H.faults
    H.text_faults H.least A.values A.index_of A.with A.distinct A.literals_of A.operation A.as_truth A.as_predicate A.called A.operand_of
    A.descended A.axis_of A.name_number A.type_number A.test_of A.held A.tree_of A.byte_of A.fault_check A.limit_checks A.room_checks
    A.form_checks A.reading A.rows_of form_of D.number_from L.up_to L.keep L.some L.lowest R.code R.is_literal R.is_path E.depth B.float
    W.weight W.link W.row W.written Ieee.div Ieee.of_int Ieee.eq Ieee.round Ieee.units Ieee.odd Ieee.size Ieee.climb Ieee.span
given (gives text n p) = answered (ascii text) list 1280 64
given (bytes text n p) = answered text list 1280 64
given (holds text rows) = A.rows_of (form_of (ascii text)) (H.source (ascii text) list)
given (names lent n p) = answered (ascii "a") (ascii lent) 1280 64
given (room rows literals n p) = answered (ascii "a[1]") list rows literals

listed : Case → List ℕ
listed (gives text n p) = n ∷ p ∷ []
listed (bytes text n p) = n ∷ p ∷ []
listed (holds text rows) = rows
listed (names lent n p) = n ∷ p ∷ []
listed (room rows literals n p) = n ∷ p ∷ []

each : (Case → List ℕ) → List Case → List (List ℕ)
each f [] = []
each f (c ∷ cs) = f c ∷ each f cs

abbrev row : ℕ → ℕ → ℕ → ℕ → ℕ → List ℕ → List ℕ
row op a b c d behind = op ∷ a ∷ b ∷ c ∷ d ∷ behind

-- the list of names goes before all else
abbrev lists : List Case
lists =
    names "" 24 0
    ∷ names "a\nb" 22 2
    ∷ names "a\n\n" 22 2
    ∷ names "a\nb\na\n" 22 3
    ∷ names "a\nA\n" 0 2
    ∷ names "a\nb c\n" 22 2
    ∷ names "and\ntext\na\n" 0 2
    ∷ []

lists_hold : each given lists ≡ each listed lists
unfolding given listed each
lists_hold = refl

-- tokens
abbrev tokens : List Case
tokens =
    gives "a: b" 23 1
    ∷ gives "a[$ v]" 23 2
    ∷ gives "/ /" 23 2
    ∷ gives "child :: a" 0 2
    ∷ gives "text ( )" 0 2
    ∷ gives "a.." 24 0
    ∷ gives "a -b" 26 0
    ∷ gives "a- b" 23 3
    ∷ gives "a[1..2]" 23 4
    ∷ gives "a[1.2.3]" 23 5
    ∷ gives "..5" 23 2
    ∷ gives ". ." 23 2
    ∷ gives "a[1.div 2]" 0 6
    ∷ gives "a[1e5]" 23 3
    ∷ gives "///" 23 2
    ∷ gives "a[1 < = 2]" 23 6
    ∷ gives "a b" 23 2
    ∷ gives "a or or or" 23 10
    ∷ gives "/ and b" 23 6
    ∷ gives "/ * 2" 23 4
    ∷ gives "***" 26 0
    ∷ gives "a[b and(1)]" 0 9
    ∷ gives "and (a)" 26 0
    ∷ gives "foo::a" 23 0
    ∷ gives "a/foo::b" 23 2
    ∷ gives "a/count(b)" 23 2
    ∷ gives "a/coment()" 23 2
    ∷ gives "child::a()" 23 7
    ∷ gives "@child::a" 23 1
    ∷ gives "p:f(1)" 26 0
    ∷ gives "p:a::b" 23 3
    ∷ gives "a and:b" 23 2
    ∷ gives "a#" 23 1
    ∷ gives "a[1 !" 23 4
    ∷ gives "*:a" 23 1
    ∷ gives "a['bc" 23 2
    ∷ gives "a['bc]" 23 2
    ∷ bytes (ascii "a[\"'" ++ (195 ∷ 169 ∷ ascii "#\"]")) 26 2
    ∷ []

tokens_hold : each given tokens ≡ each listed tokens
unfolding given listed each
tokens_hold = refl

-- the unlimited grammar
abbrev grammar : List Case
grammar =
    gives "" 23 0
    ∷ gives "1 + 1" 26 0
    ∷ gives "count(a)" 26 0
    ∷ gives "a | b" 26 0
    ∷ gives "a[1/b]" 26 2
    ∷ gives "a['x'[1]]" 26 2
    ∷ gives "a[f(1, b)]" 26 2
    ∷ gives "a[1 " 23 4
    ∷ gives "//" 23 2
    ∷ gives "a/" 23 2
    ∷ gives "a[]" 23 2
    ∷ gives ".[1]" 23 1
    ∷ gives "/[1]" 23 1
    ∷ gives "a,b" 23 1
    ∷ gives "a[f(1,)]" 23 6
    ∷ gives "a | -b" 23 4
    ∷ gives "a[1)]" 23 3
    ∷ gives "text(1)" 23 5
    ∷ gives "processing-instruction(a)" 23 23
    ∷ gives "a/(b)" 23 2
    ∷ gives "zz[" 23 3
    ∷ []

grammar_hold : each given grammar ≡ each listed grammar
unfolding given listed each
grammar_hold = refl

-- faults: the lowest byte
abbrev faulty : List Case
faulty =
    gives "zz = 1" 24 0
    ∷ gives "a[b = zz]" 26 2
    ∷ gives "a[zz | b]" 24 2
    ∷ gives "a[$v][zz]" 26 2
    ∷ gives "zz(1)" 26 0
    ∷ gives "$zz" 26 0
    ∷ gives "zz:a" 26 0
    ∷ gives "text" 24 0
    ∷ gives "a[0.000000000000001]" 25 2
    ∷ gives "a[0000000000000001]" 25 2
    ∷ gives "a[.000000000000001]" 0 4
    ∷ gives "a[ b/c | d]" 26 3
    ∷ gives "a[(1)[2]]" 26 2
    ∷ gives "a[f()/b]" 26 2
    ∷ gives "a/namespace::b" 26 2
    ∷ gives "child::p:a" 26 7
    ∷ gives "child::processing-instruction('x')" 26 7
    ∷ gives "a[1 + id('x')]" 26 6
    ∷ gives "a[position(1)]" 26 2
    ∷ gives "a[count()]" 26 2
    ∷ gives "a[not(b, c)]" 26 2
    ∷ gives "a[1 = 'x']" 26 6
    ∷ gives "a[1 + b]" 26 6
    ∷ gives "a[b = 1]" 26 2
    ∷ gives "a[-b]" 26 3
    ∷ gives "a[1 = 1 = 1]" 26 2
    ∷ gives "a[1 = 2 < 3]" 26 6
    ∷ gives "a[1 + (1 = 1)]" 26 6
    ∷ gives "a[not(b) = 1]" 26 2
    ∷ gives "a[count(1)]" 26 8
    ∷ gives "-a" 26 0
    ∷ gives "  1" 26 2
    ∷ gives "a[(b)]" 26 2
    ∷ gives "a[((b))]" 26 2
    ∷ gives "a[count((b))]" 26 8
    ∷ gives "a[c and (b)]" 26 8
    ∷ gives "(a)" 26 0
    ∷ gives "a[('x')]" 26 3
    ∷ gives "a[(b | c)]" 26 3
    ∷ gives "( $v )" 26 2
    ∷ gives "a[(position(1))]" 26 3
    ∷ []

faulty_hold : each given faulty ≡ each listed faulty
unfolding given listed each
faulty_hold = refl

-- rows and literals
abbrev rows : List Case
rows =
    gives "a[1]" 0 4
    ∷ gives "a[boolean(1)]" 0 5
    ∷ gives "a[1 and b]" 0 9
    ∷ gives "a[not(1)]" 0 6
    ∷ gives "a[b]" 0 6
    ∷ gives "a[boolean(boolean(1))]" 0 5
    ∷ gives "//b" 0 3
    ∷ gives "a[((boolean((1))))]" 0 5
    ∷ gives "a[((boolean((1)) and (2 or c)))]" 0 12
    ∷ gives "a[- - 1 - -2 * (3 + last())][not(not(/))]" 0 18
    ∷ gives "a[1 = 2 < 3 = 4]" 26 2
    ∷ gives "a[b[c[d[a[b[c[d[1]]]]]]]]" 0 32
    ∷ gives "a[b[c[d[a[b[c[d[a]]]]]]]]" 6 0
    ∷ holds "a[1 and b]" (row 1 0 0 0 0 (row 19 1 0 0 0 (row 24 0 0 1 18 (row 22 3 0 0 0 (row 20 4 0 0 0
    (row 16 2 5 0 0 (row 25 0 6 0 0 (row 24 0 7 1 17 (row 22 8 0 0 0 [])))))))))
    ∷ holds "//b/..//." (row 24 0 0 5 0 (row 24 1 0 1 18 (row 24 2 0 2 0 (row 24 3 0 5 0 (row 24 4 0 0 0 (row 23 5 0 0 0 []))))))
    ∷ holds "a[1 - 2.0 - 01][2]" (row 1 0 0 0 0 (row 1 1 0 0 0 (row 5 1 2 0 0 (row 1 0 0 0 0 (row 5 3 4 0 0
    (row 25 0 5 0 0 (row 1 1 0 0 0 (row 25 6 7 0 0 (row 24 0 8 1 17 (row 22 9 0 0 0 []))))))))))
    ∷ holds "/" (row 23 0 0 0 0 [])
    ∷ []

rows_hold : each given rows ≡ each listed rows
unfolding given listed each
rows_hold = refl

-- spaces and needless brackets change no row
spellings_hold :
    each given (holds " / a " [] ∷ holds "a[ ( 1 ) + 2 ]" [] ∷ holds "a[((1 * 2)) and(not ((2)or c))]" [] ∷ [])
    ≡ each given (holds "/a" [] ∷ holds "a[1+2]" [] ∷ holds "a[1*2 and not(2 or c)]" [] ∷ [])
unfolding given each
spellings_hold = refl

-- attributes
abbrev attributes : List Case
attributes =
    gives "@a" 0 2
    ∷ gives "attribute::*" 0 2
    ∷ gives "@text()" 0 2
    ∷ gives "//@b" 0 3
    ∷ gives "@zz" 24 1
    ∷ gives "a[@b = 1]" 26 2
    ∷ gives "@p:a" 26 1
    ∷ gives "@." 23 1
    ∷ gives "a/attribute::b" 0 3
    ∷ gives "@" 23 1
    ∷ holds "a/@b[1]" (row 24 0 0 1 17 (row 1 0 0 0 0 (row 25 0 2 0 0 (row 24 1 3 11 18 (row 22 4 0 0 0 [])))))
    ∷ []

attributes_hold : each given attributes ≡ each listed attributes
unfolding given listed each
attributes_hold = refl

-- the room that is needed, rows first
abbrev rooms : List Case
rooms =
    room 20 1 0 4
    ∷ room 19 1 21 20
    ∷ room 20 0 27 1
    ∷ room 0 0 21 20
    ∷ []

rooms_hold : each given rooms ≡ each listed rooms
unfolding given listed each
rooms_hold = refl
