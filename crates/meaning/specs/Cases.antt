-- The reference tree and R1 to R13 (document 01, "The reference tree"), and behind them a request's own cases (document 02), as a single
-- table under a single statement.
-- Assumes nothing: each answer is computed from the definitions.
use Rattle.std.specs.Prelude.{ℕ, ◌≡◌, refl, true, List, [], ◌∷◌, ◌++◌, map, length, drop, replicate, Float}
use Rattle.std.specs.Float.{binary64}
use Rattle.std.specs.Float.Ieee.{of_bits}
use Rattle.std.specs.Float.Ieee as Ieee
use Rattle.meaning.specs.Lists.{up_to, down_from, keep, some, place_from, lowest}
use Rattle.meaning.specs.Table.{length_within, length_allowed, has_element, good_root, good_name, good_size, nearest, good_parent, text_of_root, element_of_root, later_element, previous_sibling, text_after_text, among_attributes, stray_attribute, same_attribute, attribute_again, good_row, broken, accepted}
use Rattle.meaning.specs.Axis.{axis_of, under, inside, after, on, principal, test_of, passes, is_reverse, ordered, axis_nodes, place, candidates}
use Rattle.meaning.specs.Rows.{rows_of, path_length_allowed, bad_literal, bad_literal_at, op_of, fields_of, code, is_number, is_truth, is_path, is_step, is_predicate, is_literal, is_unknown, is_link, takes, may_miss, good_link, good_test, good_field, good_fields, follow, first_link, second_link, links, linked_below, links_again, misplaced, broken_row}
use Rattle.meaning.specs.Tree.{index_or_axis, test_at, linked, tree, depth}
use Rattle.meaning.specs.Meaning.{float, nonzero, applied, keep_at, is_absolute, start_of, union, value, select, walk, filtered}
use Rattle.meaning.specs.Turning.{contextual, over_path, numeric, asks, counting, steps, some_step, first_step, inverse_of, predicates, test, back, turned, weight, link, row, written}
use Rattle.meaning.specs.Answers.{table_checks, table_answer, askable, axis_place, path_checks, is_edition, evaluation, output, evaluated, counting_step, attribute_step, absolute_path, turning, turned_output}
use Rattle.meaning.specs.declared.Answer.{Answer}

-- a row of a table, and a row of a path, before those behind it
abbrev pub node : ℕ → ℕ → ℕ → ℕ → List ℕ → List ℕ
node kind name parent size behind = kind ∷ name ∷ parent ∷ size ∷ behind

abbrev pub line : ℕ → ℕ → ℕ → ℕ → ℕ → List ℕ → List ℕ
line op a b c d behind = op ∷ a ∷ b ∷ c ∷ d ∷ behind

abbrev pub reference : List ℕ
reference =
    node 0 0 0 9
    (node 1 1 0 8
    (node 1 2 1 3
    (node 1 3 2 0
    (node 1 3 2 0
    (node 1 4 2 0
    (node 1 2 1 3
    (node 1 3 6 0
    (node 1 4 6 0
    (node 1 4 6 0
    [])))))))))

-- two tables with attributes: element 1 with attributes 2 and 3, in it element 4 with attribute 5 and text 6, comment 7, element 8; and
-- comment 1, element 2 with attributes 3 and 4, text 5, element 6 with attribute 7 and comment 8, text 9, instruction 10
abbrev pub attributed : List ℕ
attributed =
    node 0 0 0 8
    (node 1 1 0 7
    (node 5 1 1 0
    (node 5 2 1 0
    (node 1 2 1 2
    (node 5 1 4 0
    (node 2 0 4 0
    (node 3 0 1 0
    (node 1 1 1 0
    []))))))))

abbrev pub surrounded : List ℕ
surrounded =
    node 0 0 0 10
    (node 3 0 0 0
    (node 1 1 0 7
    (node 5 1 2 0
    (node 5 2 2 0
    (node 2 0 2 0
    (node 1 2 2 2
    (node 5 1 6 0
    (node 3 0 6 0
    (node 2 0 2 0
    (node 4 9 0 0
    []))))))))))

-- a path run in an edition on a table from a node with the nodes that it selects, or with its refusal, a path turned with the rows that
-- come out, or with its refusal, an axis of a node with nodes of the table and their places, or a table with its number and place
pub data Case : Type 0 where
  selects : ℕ → List ℕ → List ℕ → List Float → ℕ → List ℕ → Case
  unselected : ℕ → List ℕ → List ℕ → List Float → ℕ → ℕ → ℕ → Case
  turns : List ℕ → List Float → List ℕ → Case
  unturned : List ℕ → List Float → ℕ → ℕ → Case
  stand : List ℕ → ℕ → ℕ → List ℕ → List ℕ → Case
  checked : List ℕ → ℕ → ℕ → Case

-- what the output slice holds before the run
abbrev pub blank : List ℕ
blank = replicate 46 99

-- number, place and the output slice
abbrev pub outcome : Answer → List ℕ → List ℕ
outcome a out = a.number ∷ a.place ∷ out

-- what the definitions give
unfoldable pub given : Case → List ℕ
given (selects edition t p literals start nodes) =
    outcome (evaluation edition t p literals start (length blank)) (evaluated edition t p literals start blank)
given (unselected edition t p literals start number place) =
    outcome (evaluation edition t p literals start (length blank)) (evaluated edition t p literals start blank)
given (turns p literals rows) = outcome (turning p literals (length blank)) (turned_output p literals blank)
given (unturned p literals number place) = outcome (turning p literals (length blank)) (turned_output p literals blank)
given (stand t axis x nodes places) = map (axis_place t axis x) nodes
given (checked t number place) = outcome (table_answer t) []

-- what the documents list
unfoldable pub listed : Case → List ℕ
listed (selects edition t p literals start nodes) = 0 ∷ length nodes ∷ nodes ++ drop (length nodes) blank
listed (unselected edition t p literals start number place) = number ∷ place ∷ blank
listed (turns p literals rows) = 0 ∷ rows_of rows ∷ rows ++ drop (length rows) blank
listed (unturned p literals number place) = number ∷ place ∷ blank
listed (stand t axis x nodes places) = places
listed (checked t number place) = number ∷ place ∷ []

unfoldable pub each : (Case → List ℕ) → List Case → List (List ℕ)
each f [] = []
each f (c ∷ cs) = f c ∷ each f cs

-- R13's two paths
abbrev pub thirteenth : List ℕ
thirteenth = line 24 0 0 1 18 (line 24 1 0 1 20 (line 22 2 0 0 0 []))

abbrev pub thirteenth_turned : List ℕ
thirteenth_turned = line 24 0 0 0 20 (line 24 1 0 2 18 (line 24 2 0 2 0 (line 22 3 0 0 0 [])))

-- and turned twice: self::node()/child::2/child::4/self::node()
abbrev pub thirteenth_twice : List ℕ
thirteenth_twice = line 24 0 0 0 0 (line 24 1 0 1 18 (line 24 2 0 1 20 (line 24 3 0 0 0 (line 22 4 0 0 0 []))))

-- a path of one step on an axis with a test; the same with [1] behind it
abbrev pub one : ℕ → ℕ → List ℕ
one axis test = line 24 0 0 axis test (line 22 1 0 0 0 [])

abbrev pub numbered : ℕ → ℕ → List ℕ
numbered axis test = line 1 0 0 0 0 (line 25 0 1 0 0 (line 24 0 2 axis test (line 22 3 0 0 0 [])))

-- and with a path of the same step as its predicate
abbrev pub holding : ℕ → ℕ → List ℕ
holding axis test = line 24 0 0 axis test (line 22 1 0 0 0 (line 20 2 0 0 0 (line 25 0 3 0 0 (line 24 0 4 axis test (line 22 5 0 0 0 [])))))

abbrev pub half : Float
half = of_bits binary64 0x3FE0000000000000

-- R1 from 5, / ; R2 from 8, preceding::node() ; R3 from 4, following::node()
-- R4 from 9, ancestor::node()[3] ; R5 from 9, preceding::node()[1]
-- R6 /descendant::*/descendant::*[position() > last()*0.5]
-- R7 /descendant::4[1] ; R8 /descendant-or-self::node()/child::4[1]
-- R9 from 6, child::*[1][2], child::*[position() > 1][1], child::*[position() > 1][last()]
-- R10 from 1, child::*[count(child::4) = 2] ; R11 from 1, child::*[0 div 0 != 0 div 0]
-- R12 from 1, parent::*, parent::node() ; R13 turned, from 1, and turned from 8
-- W-208: R13 turned twice, and from 1
-- W-203: every node's place on preceding of 8 (R2), on ancestor of 9 (R4) and on following-sibling of 0; on self and preceding of 10, which
-- is no row
-- W-206: the single row; no element, beside a broken row and where a kind is 7; an element that is broken itself, that stands behind a
-- broken row, and that is no child of the root; a text before the element and one behind it; a second element; two texts side by side;
-- text, element that ends in a text, text; text, comment, text
-- W-209: a table with attributes is accepted; a size that leaves out an attribute, an attribute behind a comment, under the root, and the
-- third of names 1, 2, 1 are broken; the axes of an attribute, and of its element with tests; positions and places on axis 11 and beside
-- attributes; following and preceding of an attribute among others; turning refused for a step that counts behind one on axis 11, for an
-- absolute path on axis 11 and for the second step; axis 11 in a predicate turned
-- W-210, edition 1: R12's parent::*, and `*` on each -or-self axis, at an attribute and on axis 11; positions, with edition 2 beside them; `*`
-- in a predicate; names as in edition 2. Editions 0, 3 and the greatest u32 refused, before a broken table, path and start node
abbrev pub cases : List Case
cases =
    selects 2 reference (line 23 0 0 0 0 []) [] 5 (0 ∷ [])
    ∷ selects 2 reference (line 24 0 0 8 0 (line 22 1 0 0 0 [])) [] 8 (2 ∷ 3 ∷ 4 ∷ 5 ∷ 7 ∷ [])
    ∷ selects 2 reference (line 24 0 0 7 0 (line 22 1 0 0 0 [])) [] 4 (5 ∷ 6 ∷ 7 ∷ 8 ∷ 9 ∷ [])
    ∷ selects 2 reference (line 1 0 0 0 0 (line 25 0 1 0 0 (line 24 0 2 4 0 (line 22 3 0 0 0 [])))) (float 3 ∷ []) 9 (0 ∷ [])
    ∷ selects 2 reference (line 1 0 0 0 0 (line 25 0 1 0 0 (line 24 0 2 8 0 (line 22 3 0 0 0 [])))) (float 1 ∷ []) 9 (8 ∷ [])
    ∷ selects 2 reference
    (line 24 0 0 3 1 (line 2 0 0 0 0 (line 3 0 0 0 0 (line 1 0 0 0 0 (line 6 3 4 0 0 (line 14 2 5 0 0
    (line 25 0 6 0 0 (line 24 1 7 3 1 (line 23 8 0 0 0 [])))))))))
    (half ∷ []) 0 (4 ∷ 5 ∷ 6 ∷ 7 ∷ 8 ∷ 9 ∷ [])
    ∷ selects 2 reference (line 1 0 0 0 0 (line 25 0 1 0 0 (line 24 0 2 3 20 (line 23 3 0 0 0 [])))) (float 1 ∷ []) 0 (5 ∷ [])
    ∷ selects 2 reference (line 24 0 0 5 0 (line 1 0 0 0 0 (line 25 0 2 0 0 (line 24 1 3 1 20 (line 23 4 0 0 0 []))))) (float 1 ∷ []) 0 (5 ∷ 8 ∷ [])
    ∷ selects 2 reference
    (line 1 0 0 0 0 (line 25 0 1 0 0 (line 1 1 0 0 0 (line 25 2 3 0 0 (line 24 0 4 1 1 (line 22 5 0 0 0 []))))))
    (float 1 ∷ float 2 ∷ []) 6 []
    ∷ selects 2 reference
    (line 2 0 0 0 0 (line 1 0 0 0 0 (line 14 1 2 0 0 (line 25 0 3 0 0 (line 1 0 0 0 0 (line 25 4 5 0 0
    (line 24 0 6 1 1 (line 22 7 0 0 0 []))))))))
    (float 1 ∷ []) 6 (8 ∷ [])
    ∷ selects 2 reference
    (line 2 0 0 0 0 (line 1 0 0 0 0 (line 14 1 2 0 0 (line 25 0 3 0 0 (line 3 0 0 0 0 (line 25 4 5 0 0
    (line 24 0 6 1 1 (line 22 7 0 0 0 []))))))))
    (float 1 ∷ []) 6 (9 ∷ [])
    ∷ selects 2 reference
    (line 24 0 0 1 20 (line 22 1 0 0 0 (line 21 2 0 0 0 (line 1 0 0 0 0 (line 10 3 4 0 0 (line 25 0 5 0 0
    (line 24 0 6 1 1 (line 22 7 0 0 0 []))))))))
    (float 2 ∷ []) 1 (6 ∷ [])
    ∷ selects 2 reference
    (line 1 0 0 0 0 (line 1 0 0 0 0 (line 7 1 2 0 0 (line 1 0 0 0 0 (line 1 0 0 0 0 (line 7 4 5 0 0
    (line 11 3 6 0 0 (line 25 0 7 0 0 (line 24 0 8 1 1 (line 22 9 0 0 0 []))))))))))
    (float 0 ∷ []) 1 (2 ∷ 6 ∷ [])
    ∷ selects 2 reference (line 24 0 0 2 1 (line 22 1 0 0 0 [])) [] 1 []
    ∷ selects 2 reference (line 24 0 0 2 0 (line 22 1 0 0 0 [])) [] 1 (0 ∷ [])
    ∷ turns thirteenth [] thirteenth_turned
    ∷ selects 2 reference thirteenth [] 1 (5 ∷ 8 ∷ 9 ∷ [])
    ∷ selects 2 reference thirteenth_turned [] 8 (1 ∷ [])
    ∷ turns thirteenth_turned [] thirteenth_twice
    ∷ selects 2 reference thirteenth_twice [] 1 (5 ∷ 8 ∷ 9 ∷ [])
    ∷ stand reference 8 8 (up_to 10) (0 ∷ 0 ∷ 5 ∷ 4 ∷ 3 ∷ 2 ∷ 0 ∷ 1 ∷ 0 ∷ 0 ∷ [])
    ∷ stand reference 4 9 (up_to 10) (3 ∷ 2 ∷ 0 ∷ 0 ∷ 0 ∷ 0 ∷ 1 ∷ 0 ∷ 0 ∷ 0 ∷ [])
    ∷ stand reference 9 0 (up_to 10) (replicate 10 0)
    ∷ stand reference 0 10 (10 ∷ []) (0 ∷ [])
    ∷ stand reference 8 10 (3 ∷ []) (0 ∷ [])
    ∷ checked (node 0 0 0 0 []) 2 0
    ∷ checked (node 0 0 0 1 (node 2 9 0 0 [])) 2 0
    ∷ checked (node 0 0 0 1 (node 7 1 0 0 [])) 2 0
    ∷ checked (node 0 0 0 1 (node 1 0 0 0 [])) 2 1
    ∷ checked (node 0 0 0 2 (node 9 0 0 0 (node 1 1 0 0 []))) 2 1
    ∷ checked (node 0 0 0 2 (node 3 0 0 0 (node 1 1 1 0 []))) 2 2
    ∷ checked (node 0 0 0 2 (node 2 0 0 0 (node 1 1 0 0 []))) 2 1
    ∷ checked (node 0 0 0 2 (node 1 1 0 0 (node 2 0 0 0 []))) 2 2
    ∷ checked (node 0 0 0 3 (node 1 1 0 0 (node 3 0 0 0 (node 1 1 0 0 [])))) 2 3
    ∷ checked (node 0 0 0 3 (node 1 1 0 2 (node 2 0 1 0 (node 2 0 1 0 [])))) 2 3
    ∷ checked (node 0 0 0 5 (node 1 1 0 4 (node 2 0 1 0 (node 1 2 1 1 (node 2 0 3 0 (node 2 0 1 0 [])))))) 0 6
    ∷ checked (node 0 0 0 4 (node 1 1 0 3 (node 2 0 1 0 (node 3 0 1 0 (node 2 0 1 0 []))))) 0 5
    ∷ checked attributed 0 9
    ∷ checked (node 0 0 0 2 (node 1 1 0 0 (node 5 1 1 0 []))) 2 2
    ∷ checked (node 0 0 0 3 (node 1 1 0 2 (node 3 0 1 0 (node 5 1 1 0 [])))) 2 3
    ∷ checked (node 0 0 0 2 (node 5 1 0 0 (node 1 1 0 0 []))) 2 1
    ∷ checked (node 0 0 0 4 (node 1 1 0 3 (node 5 1 1 0 (node 5 2 1 0 (node 5 1 1 0 []))))) 2 4
    ∷ checked (replicate 32769 0) 1 0
    ∷ checked (replicate 32772 0) 1 0
    ∷ selects 2 attributed (one 0 0) [] 2 (2 ∷ [])
    ∷ selects 2 attributed (one 0 1) [] 2 []
    ∷ selects 2 attributed (one 0 17) [] 2 []
    ∷ selects 2 attributed (one 2 1) [] 2 (1 ∷ [])
    ∷ selects 2 attributed (one 4 0) [] 2 (0 ∷ 1 ∷ [])
    ∷ selects 2 attributed (one 5 0) [] 2 (2 ∷ [])
    ∷ selects 2 attributed (one 6 1) [] 2 (1 ∷ [])
    ∷ selects 2 attributed (one 7 0) [] 2 (4 ∷ 6 ∷ 7 ∷ 8 ∷ [])
    ∷ selects 2 attributed (one 8 0) [] 5 []
    ∷ selects 2 attributed (one 10 0) [] 3 []
    ∷ selects 2 attributed (one 11 0) [] 2 []
    ∷ selects 2 attributed (one 11 1) [] 1 (2 ∷ 3 ∷ [])
    ∷ selects 2 attributed (one 11 18) [] 1 (3 ∷ [])
    ∷ selects 2 attributed (one 11 2) [] 1 []
    ∷ selects 2 attributed (one 3 0) [] 0 (1 ∷ 4 ∷ 6 ∷ 7 ∷ 8 ∷ [])
    ∷ selects 2 attributed (numbered 11 1) (float 2 ∷ []) 1 (3 ∷ [])
    ∷ selects 2 attributed (numbered 11 18) (float 1 ∷ []) 1 (3 ∷ [])
    ∷ selects 2 attributed (numbered 1 0) (float 1 ∷ []) 1 (4 ∷ [])
    ∷ stand attributed 11 1 (up_to 9) (0 ∷ 0 ∷ 1 ∷ 2 ∷ 0 ∷ 0 ∷ 0 ∷ 0 ∷ 0 ∷ [])
    ∷ stand attributed 12 1 (1 ∷ 2 ∷ []) (0 ∷ 0 ∷ [])
    ∷ selects 2 surrounded (one 7 0) [] 4 (5 ∷ 6 ∷ 8 ∷ 9 ∷ 10 ∷ [])
    ∷ selects 2 surrounded (one 8 0) [] 4 (1 ∷ [])
    ∷ unturned
    (line 24 0 0 11 18 (line 1 0 0 0 0 (line 25 0 2 0 0 (line 24 1 3 1 17 (line 22 4 0 0 0 [])))))
    (float 1 ∷ []) 9 2
    ∷ unturned (line 24 0 0 11 18 (line 23 1 0 0 0 [])) [] 13 1
    ∷ unturned (line 24 0 0 0 0 (line 24 1 0 11 1 (line 24 2 0 2 1 (line 24 3 0 11 1 (line 22 4 0 0 0 []))))) [] 13 2
    ∷ turns
    (line 1 0 0 0 0 (line 25 0 1 0 0 (line 24 0 2 11 1 (line 22 3 0 0 0 (line 20 4 0 0 0 (line 25 0 5 0 0
    (line 24 0 6 1 17 (line 22 7 0 0 0 []))))))))
    (float 1 ∷ [])
    (line 1 0 0 0 0 (line 25 0 1 0 0 (line 24 0 2 11 1 (line 22 3 0 0 0 (line 20 4 0 0 0 (line 25 0 5 0 0
    (line 24 0 6 0 17 (line 24 7 0 2 0 (line 22 8 0 0 0 [])))))))))
    ∷ selects 1 reference (one 2 1) [] 1 (0 ∷ [])
    ∷ selects 1 attributed (one 0 1) [] 2 (2 ∷ [])
    ∷ selects 1 attributed (one 5 1) [] 2 (2 ∷ [])
    ∷ selects 1 attributed (one 6 1) [] 2 (0 ∷ 1 ∷ 2 ∷ [])
    ∷ selects 1 attributed (one 11 1) [] 1 (2 ∷ 3 ∷ [])
    ∷ selects 1 surrounded (one 1 1) [] 2 (5 ∷ 6 ∷ 9 ∷ [])
    ∷ selects 1 surrounded (numbered 1 1) (float 1 ∷ []) 2 (5 ∷ [])
    ∷ selects 2 surrounded (numbered 1 1) (float 1 ∷ []) 2 (6 ∷ [])
    ∷ selects 1 surrounded (holding 1 1) [] 2 (6 ∷ [])
    ∷ selects 2 surrounded (holding 1 1) [] 2 []
    ∷ selects 1 surrounded (one 1 25) [] 0 []
    ∷ selects 1 surrounded (one 0 17) [] 3 []
    ∷ selects 1 surrounded (one 11 17) [] 2 (3 ∷ [])
    ∷ unselected 0 reference (one 2 1) [] 1 14 0
    ∷ unselected 3 reference (one 2 1) [] 1 14 3
    ∷ unselected 4294967295 [] [] [] 7 14 4294967295
    ∷ []

-- the definitions give what the documents list
pub r1_to_r13 : each given cases ≡ each listed cases
unfolding each given listed up_to down_from keep some place_from lowest length_within has_element good_root good_name good_size nearest good_parent text_of_root element_of_root later_element previous_sibling text_after_text among_attributes stray_attribute same_attribute attribute_again good_row broken accepted axis_of under inside after on principal test_of passes is_reverse ordered axis_nodes place candidates path_length_allowed bad_literal bad_literal_at op_of fields_of code is_number is_truth is_path is_step is_predicate is_literal is_unknown is_link takes may_miss good_link good_test good_field good_fields follow first_link second_link links linked_below links_again misplaced broken_row index_or_axis test_at linked tree depth float nonzero applied keep_at is_absolute start_of union value select walk filtered contextual over_path numeric asks counting steps some_step first_step inverse_of predicates test back turned weight link row written table_checks table_answer askable axis_place path_checks is_edition evaluation output evaluated counting_step attribute_step absolute_path turning turned_output Ieee.is_nan Ieee.to_bits Ieee.of_bits Ieee.of_int Ieee.eq Ieee.ne Ieee.lt Ieee.le Ieee.add Ieee.sub Ieee.mul Ieee.div Ieee.rem Ieee.neg
r1_to_r13 = refl

-- and 8,192 rows are allowed, whatever they are; the cases above have 8,193 refused (W-211)
pub most_rows_allowed : length_allowed (replicate 32768 0) ≡ true
unfolding length_within
most_rows_allowed = refl
