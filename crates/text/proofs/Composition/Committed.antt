-- Composing needs no more room than its rows: the rows written and those to come are never fewer behind a token (`never_falls`), so all through
-- a text without faults they are at most the rows of its tree and one (`enough_room`). A row has five numbers (`five_a_row`), and there are
-- no more literals than rows (`few_literals`).
-- Assumes nothing.
use Prim.Native.Nat.{ℕ, suc, ◌+◌, ◌-◌, ◌*◌, ◌≤◌}
use mathlib.Core.Path.{◌≡◌, refl, sym, subst}
use mathlib.Core.Bool.{Bool, true, false, cond}
use mathlib.Core.List.{List, [], ◌∷◌, ◌++◌}
use native.Mathlib.Omega.{arith}
use native.Mathlib.Nat.{le_refl}
use lib.Dec.{eqb, ltb, leb}
use lib.ListN.{length, length-append}
use lib.Ieee.{Float}
use Rattle.meaning.specs.Turning.{weight}
use Rattle.text.specs.declared.Sort.{Sort}
use Rattle.text.specs.declared.Sort.TheVariants.{Numeral, Truth, Nodes, Unheld}
use Rattle.text.specs.Grammar.{Token, opening, closing, '[', ']', dot, dots, at, comma, '::', NameTest, NodeType, 'processing_instruction', FunctionName, AxisName, Literal, Number, VariableReference, '/', '//', '|', '+', '-', '=', '!=', '<', '<=', '>', '>=', MultiplyOperator, 'and', 'or', 'div', 'mod', unknown, Sentence}
use Rattle.text.specs.Machine.{Mode, has, ending, signing}
use Rattle.text.specs.Syntax.{past, read_all}
use Rattle.text.specs.Growing.{syntax_of}
use Rattle.text.specs.Limited.{Source, text_faults}
use Rattle.text.specs.Reading.{index_of, with, tree_of}
use Rattle.text.specs.Survey.{begins}
use Rattle.text.specs.Composing.{Frame, frame, Pen, pen, Desk, desk, Draft, draft, put, link_of, truthful, predicable, strength_of, row_of, may_fill, settle, settled, with_pen, push, open_group, open_truth, close_round, close_square, path_from, point_read, axis_read, test_read, step_ended, moved, number_read, call_read, opening_read, closing_read, bracket_read, square_read, operator_read, minus_read, compose_token, unwritten}
use Rattle.text.proofs.Scheme.{read_append}
use Rattle.text.proofs.Composition.Pens.{rest}
use Rattle.text.proofs.Composition.Composing.{Ended, composing_ends}

-- ---- pens

abbrev rows_by : Pen → ℕ
rows_by (pen l u n out) = n

abbrev out_by : Pen → List ℕ
out_by (pen l u n out) = out

-- at least k rows were written, each of five numbers
record Wrote (k : ℕ) (p q : Pen) : Type 0 where
  more : rows_by p + k ≤ rows_by q
  five : length (out_by q) + 5 * rows_by p ≡ length (out_by p) + 5 * rows_by q

wrote_none : (p : Pen) → Wrote 0 p p
wrote_none p = record { more = omega arith; five = refl }

wrote_then : {j k : ℕ} {p q r : Pen} → Wrote j p q → Wrote k q r → Wrote (j + k) p r
wrote_then v w = record { more = omega (arith, v.more, w.more); five = omega (arith, v.five, w.five) }

-- at least so many
wrote_less : {p q : Pen} (k j : ℕ) → j ≤ k → Wrote k p q → Wrote j p q
wrote_less k j h w = record { more = omega (arith, w.more); five = w.five }

wrote_put : (op a b c d : ℕ) (u : Sort) (p : Pen) → Wrote 1 p (put op a b c d u p)
unfolding put
wrote_put op a b c d u (pen l v n out) = record { more = omega arith; five = rw (length-append out (op ∷ a ∷ b ∷ c ∷ d ∷ [])) (omega arith) }

wrote_truth : (p : Pen) → Wrote 0 p (truthful p)
unfolding truthful
wrote_truth (pen l Numeral n out) = wrote_less 1 0 (omega arith) (wrote_put 19 l 0 0 0 Truth (pen l Numeral n out))
wrote_truth (pen l Truth n out) = wrote_none (pen l Truth n out)
wrote_truth (pen l Nodes n out) = wrote_less 1 0 (omega arith) (wrote_put 20 l 0 0 0 Truth (pen l Nodes n out))
wrote_truth (pen l Unheld n out) = wrote_none (pen l Unheld n out)

wrote_predicable : (p : Pen) → Wrote 0 p (predicable p)
unfolding predicable
wrote_predicable (pen l Numeral n out) = wrote_none (pen l Numeral n out)
wrote_predicable (pen l Truth n out) = wrote_none (pen l Truth n out)
wrote_predicable (pen l Nodes n out) = wrote_less 1 0 (omega arith) (wrote_put 20 l 0 0 0 Truth (pen l Nodes n out))
wrote_predicable (pen l Unheld n out) = wrote_none (pen l Unheld n out)

-- one of two
wrote_cond : {k : ℕ} {p : Pen} (b : Bool) {q r : Pen} → Wrote k p q → Wrote k p r → Wrote k p (cond b q r)
wrote_cond true v w = v
wrote_cond false v w = w

wrote_row : (f : Frame) (p : Pen) → Wrote 1 p (row_of f p)
unfolding row_of
wrote_row (frame op a c d o t) p =
    wrote_cond (eqb op 24) (wrote_put op a (link_of p) c d Unheld p)
    (wrote_cond (leb 22 op) (wrote_put op (link_of p) 0 0 0 Nodes p)
    (wrote_cond (eqb op 9) (wrote_put op (link_of p) 0 0 0 Numeral p)
    (wrote_cond (leb op 9) (wrote_put op a (link_of p) 0 0 Numeral p)
    (wrote_cond (leb op 15) (wrote_put op a (link_of p) 0 0 Truth p)
    (wrote_then (wrote_truth p) (wrote_put op a (link_of (truthful p)) 0 0 Truth (truthful p)))))))

-- ---- desks

abbrev frames_on : Desk → List Frame
frames_on (desk fs p) = fs

abbrev pen_on : Desk → Pen
pen_on (desk fs p) = p

-- rows were written, and what is written or to come is no less
record Grew (d e : Desk) : Type 0 where
  wrote : Wrote 0 (pen_on d) (pen_on e)
  held_up : rows_by (pen_on d) + length (frames_on d) ≤ rows_by (pen_on e) + length (frames_on e)

grew_none : (d : Desk) → Grew d d
grew_none d = record { wrote = wrote_none (pen_on d); held_up = le_refl (rows_by (pen_on d) + length (frames_on d)) }

grew_then : {d e f : Desk} → Grew d e → Grew e f → Grew d f
grew_then v w = record { wrote = wrote_then v.wrote w.wrote; held_up = omega (arith, v.held_up, w.held_up) }

grew_cond : {d : Desk} (b : Bool) {e f : Desk} → Grew d e → Grew d f → Grew d (cond b e f)
grew_cond true v w = v
grew_cond false v w = w

-- with the same frames, and with one frame fewer
grew_pen : (fs : List Frame) (p q : Pen) → Wrote 0 p q → Grew (desk fs p) (desk fs q)
grew_pen fs p q w = record { wrote = w; held_up = omega (arith, w.more) }

grew_row : (f : Frame) (fs : List Frame) (p q : Pen) → Wrote 1 p q → Grew (desk (f ∷ fs) p) (desk fs q)
grew_row f fs p q w = record { wrote = wrote_less 1 0 (omega arith) w; held_up = omega (arith, w.more) }

settle_grows : (k : ℕ) (fs : List Frame) (p : Pen) → Grew (desk fs p) (settle k fs p)
unfolding settle
settle_grows k [] p = grew_none (desk [] p)
settle_grows k (f ∷ fs) p =
    grew_cond (may_fill k f) (grew_then (grew_row f fs p (row_of f p) (wrote_row f p)) (settle_grows k fs (row_of f p)))
    (grew_none (desk (f ∷ fs) p))

settled_grows : (k : ℕ) (d : Desk) → Grew d (settled k d)
unfolding settled
settled_grows k (desk fs p) = settle_grows k fs p

push_grows : (op c d : ℕ) (e : Desk) → Grew e (push op c d e)
unfolding push
push_grows op c d (desk fs (pen l u n out)) = record { wrote = record { more = omega arith; five = refl }; held_up = omega arith }

pen_grows : (f : Pen → Pen) → ((p : Pen) → Wrote 0 p (f p)) → (d : Desk) → Grew d (with_pen f d)
unfolding with_pen
pen_grows f w (desk fs p) = grew_pen fs p (f p) (w p)

group_grows : (d : Desk) → Grew d (open_group d)
unfolding open_group
group_grows (desk [] p) = grew_none (desk [] p)
group_grows (desk (frame op a c d o t ∷ fs) p) = record { wrote = wrote_none p; held_up = omega arith }

truth_grows : (d : Desk) → Grew d (open_truth d)
unfolding open_truth
truth_grows (desk [] p) = grew_none (desk [] p)
truth_grows (desk (frame op a c d o t ∷ fs) p) = record { wrote = wrote_none p; held_up = omega arith }

round_grows : (d : Desk) → Grew d (close_round d)
unfolding close_round
round_grows (desk [] p) = grew_none (desk [] p)
round_grows (desk (frame op a c d o t ∷ fs) p) =
    grew_cond (ltb 0 o) (by (eqb o t))
    (grew_cond (eqb op 18)
    (grew_row (frame op a c d o t) fs p _ (wrote_then (wrote_truth p) (wrote_put op (link_of (truthful p)) 0 0 0 Truth (truthful p))))
    (grew_row (frame op a c d o t) fs p _ (wrote_put op (link_of p) 0 0 0 Numeral p)))
  where
    by : (b : Bool) → Grew (desk (frame op a c d o t ∷ fs) p) (desk (frame op a c d (o - 1) t ∷ fs) (cond b (truthful p) p))
    by b =
        let w : Wrote 0 p (cond b (truthful p) p) = wrote_cond b (wrote_truth p) (wrote_none p) in
        record { wrote = w; held_up = omega (arith, w.more) }

square_grows : (d : Desk) → Grew d (close_square d)
unfolding close_square
square_grows (desk [] p) = grew_none (desk [] p)
square_grows (desk (frame op a c d o t ∷ fs) p) =
    grew_row (frame op a c d o t) fs p _ (wrote_then (wrote_predicable p) (wrote_put op a (link_of (predicable p)) 0 0 Unheld (predicable p)))

-- ---- drafts

abbrev desk_of : Draft → Desk
desk_of (draft m x l deep d) = d

abbrev pub literals_in : Draft → List Float
literals_in (draft m x l deep d) = l

-- the rows written, what they are, and the frames to come
abbrev pub rows_in : Draft → ℕ
rows_in w = rows_by (pen_on (desk_of w))

abbrev pub out_in : Draft → List ℕ
out_in w = out_by (pen_on (desk_of w))

abbrev pub committed : Draft → ℕ
committed w = rows_in w + length (frames_on (desk_of w))

-- the desk grew, and the literals by no more than the rows
record Grows (w v : Draft) : Type 0 where
  grew : Grew (desk_of w) (desk_of v)
  literals : length (literals_in v) + rows_in w ≤ length (literals_in w) + rows_in v

grows_none : (w : Draft) → Grows w w
grows_none w = record { grew = grew_none (desk_of w); literals = le_refl (length (literals_in w) + rows_in w) }

grows_then : {u v w : Draft} → Grows u v → Grows v w → Grows u w
grows_then a b = record { grew = grew_then a.grew b.grew; literals = omega (arith, a.literals, b.literals) }

grows_cond : {u : Draft} (b : Bool) {v w : Draft} → Grows u v → Grows u w → Grows u (cond b v w)
grows_cond true v w = v
grows_cond false v w = w

-- the literals are the same
grows_desk : {m n : Mode} {x y deep most : ℕ} {d e : Desk} (l : List Float) → Grew d e → Grows (draft m x l deep d) (draft n y l most e)
grows_desk l g = record { grew = g; literals = omega (arith, g.wrote.more) }

path_grows : (op : ℕ) (w : Draft) → Grows w (path_from op w)
unfolding path_from
path_grows op (draft m x l deep d) = grows_cond (begins m) (grows_desk l (push_grows op 0 0 d)) (grows_none (draft m x l deep d))

point_grows : (n : Mode) (c : ℕ) (w : Draft) → Grows w (point_read n c w)
unfolding point_read
point_grows n c (draft m x l deep (desk fs p)) =
    grows_desk l (grew_pen fs p _ (wrote_less 1 0 (omega arith) (wrote_put 24 (link_of p) 0 c 0 Unheld p)))

axis_grows : (n : Mode) (c : ℕ) (w : Draft) → Grows w (axis_read n c w)
unfolding axis_read
axis_grows n c (draft m x l deep d) = grows_desk l (grew_none d)

test_grows : (n : Mode) (t : ℕ) (w : Draft) → Grows w (test_read n t w)
unfolding test_read
test_grows n t (draft m x l deep d) = grows_desk l (push_grows 24 x t d)

end_grows : (w : Draft) → Grows w (step_ended w)
unfolding step_ended
end_grows (draft m x l deep d) = grows_cond (begins m) (grows_none (draft m x l deep d)) (grows_desk l (settled_grows 10 d))

move_grows : (n : Mode) (w : Draft) → Grows w (moved n w)
unfolding moved
move_grows n (draft m x l deep d) = grows_desk l (grew_none d)

with_length : (l : List Float) (v : Float) → length (with l v) ≤ length l + 1
unfolding with
with_length l v = by (ltb (index_of l v) (length l))
  where
    by : (b : Bool) → length (cond b l (l ++ (v ∷ []))) ≤ length l + 1
    by true = omega arith
    by false = rw (length-append l (v ∷ [])) (omega arith)

number_grows : (n : Mode) (v : Float) (w : Draft) → Grows w (number_read n v w)
unfolding number_read with_pen
number_grows n v (draft m x l deep (desk fs p)) =
    let r : Wrote 1 p (put 1 (index_of l v) 0 0 0 Numeral p) = wrote_put 1 (index_of l v) 0 0 0 Numeral p in
    record { grew = grew_pen fs p _ (wrote_less 1 0 (omega arith) r); literals = omega (arith, r.more, with_length l v) }

call_grows : (n : Mode) (f : ℕ) (w : Draft) → Grows w (call_read n f w)
unfolding call_read
call_grows n f (draft m x l deep d) =
    grows_desk l
    (grew_cond (eqb f 0) (row 2)
    (grew_cond (eqb f 1) (row 3)
    (grew_cond (eqb f 2) (push_grows 21 0 0 d)
    (grew_cond (eqb f 3) (push_grows 18 0 0 d)
    (grew_cond (eqb f 4) (truth_grows d) (grew_none d))))))
  where
    row : (op : ℕ) → Grew d (with_pen (put op 0 0 0 0 Numeral) d)
    row op = pen_grows (put op 0 0 0 0 Numeral) (λ p. wrote_less 1 0 (omega arith) (wrote_put op 0 0 0 0 Numeral p)) d

opening_grows : (n : Mode) (w : Draft) → Grows w (opening_read n w)
unfolding opening_read
opening_grows n (draft m x l deep d) = grows_desk l (grew_cond (begins m) (group_grows d) (grew_none d))

closing_grows : (n : Mode) (w : Draft) → Grows w (closing_read n w)
unfolding closing_read
closing_grows n (draft m x l deep d) =
    grows_desk l (grew_cond (has ending m) (grew_then (settled_grows 1 d) (round_grows (settled 1 d))) (grew_none d))

bracket_grows : (n : Mode) (w : Draft) → Grows w (bracket_read n w)
unfolding bracket_read
bracket_grows n (draft m x l deep d) = grows_desk l (push_grows 25 0 0 d)

square_read_grows : (n : Mode) (w : Draft) → Grows w (square_read n w)
unfolding square_read
square_read_grows n (draft m x l deep d) = grows_desk l (grew_then (settled_grows 1 d) (square_grows (settled 1 d)))

operator_grows : (n : Mode) (op : ℕ) (w : Draft) → Grows w (operator_read n op w)
unfolding operator_read
operator_grows n op (draft m x l deep d) =
    grows_desk l
    (grew_then (settled_grows (strength_of op) d)
    (grew_then (pen_grows wanted (λ p. wrote_cond (leb (strength_of op) 2) (wrote_truth p) (wrote_none p)) (settled (strength_of op) d))
    (push_grows op 0 0 (with_pen wanted (settled (strength_of op) d)))))
  where
    wanted : Pen → Pen
    wanted p = cond (leb (strength_of op) 2) (truthful p) p

minus_grows : (n : Mode) (w : Draft) → Grows w (minus_read n w)
unfolding minus_read
minus_grows n (draft m x l deep d) = grows_cond (has signing m) (grows_desk l (push_grows 9 0 0 d)) (operator_grows n 5 (draft m x l deep d))

token_grows : (s : Source) (w : Draft) (i : ℕ) (t : Token) → Grows w (compose_token s w i t)
unfolding compose_token
token_grows s w i opening = opening_grows _ w
token_grows s w i closing = closing_grows _ w
token_grows s w i '[' = bracket_grows _ w
token_grows s w i ']' = square_read_grows _ w
token_grows s w i dot = grows_then (path_grows 22 w) (point_grows _ 0 (path_from 22 w))
token_grows s w i dots = grows_then (path_grows 22 w) (point_grows _ 2 (path_from 22 w))
token_grows s w i at = grows_then (path_grows 22 w) (axis_grows _ 11 (path_from 22 w))
token_grows s w i comma = move_grows _ w
token_grows s w i '::' = move_grows _ w
token_grows s w i NameTest = grows_then (path_grows 22 w) (test_grows _ _ (path_from 22 w))
token_grows s w i NodeType = grows_then (path_grows 22 w) (test_grows _ _ (path_from 22 w))
token_grows s w i 'processing_instruction' = grows_then (path_grows 22 w) (test_grows _ 4 (path_from 22 w))
token_grows s w i FunctionName = call_grows _ _ w
token_grows s w i AxisName = grows_then (path_grows 22 w) (axis_grows _ _ (path_from 22 w))
token_grows s w i Literal = move_grows _ w
token_grows s w i Number = number_grows _ _ w
token_grows s w i VariableReference = move_grows _ w
token_grows s w i '/' = grows_then (grows_then (path_grows 23 w) (end_grows (path_from 23 w))) (move_grows _ (step_ended (path_from 23 w)))
token_grows s w i '//' = grows_then (grows_then (path_grows 23 w) (end_grows (path_from 23 w))) (point_grows _ 5 (step_ended (path_from 23 w)))
token_grows s w i '|' = move_grows _ w
token_grows s w i '+' = operator_grows _ _ w
token_grows s w i '-' = minus_grows _ w
token_grows s w i '=' = operator_grows _ _ w
token_grows s w i '!=' = operator_grows _ _ w
token_grows s w i '<' = operator_grows _ _ w
token_grows s w i '<=' = operator_grows _ _ w
token_grows s w i '>' = operator_grows _ _ w
token_grows s w i '>=' = operator_grows _ _ w
token_grows s w i MultiplyOperator = operator_grows _ _ w
token_grows s w i 'and' = operator_grows _ _ w
token_grows s w i 'or' = operator_grows _ _ w
token_grows s w i 'div' = operator_grows _ _ w
token_grows s w i 'mod' = operator_grows _ _ w
token_grows s w i unknown = grows_none w

text_grows : (s : Source) (ts : List Token) (w : Draft) (i : ℕ) → Grows w (read_all (compose_token s) w i ts)
unfolding read_all
text_grows s [] w i = grows_none w
text_grows s (t ∷ ts) w i = grows_then (token_grows s w i t) (text_grows s ts (compose_token s w i t) (suc i))

rest_grows : (k : ℕ) (w : Draft) → Grows w (rest k w)
unfolding rest
rest_grows k (draft m x l deep d) = grows_desk l (settled_grows k d)

-- ---- what is written or to come

pub never_falls : (s : Source) (w : Draft) (i : ℕ) (t : Token) → committed w ≤ committed (compose_token s w i t)
never_falls s w i t = (token_grows s w i t).grew.held_up

-- a draft that some tokens were read into: five numbers a row, and no more literals than rows
module _ (s : Source) (ts : List Token) where
  pub five_a_row : length (out_in (read_all (compose_token s) unwritten 0 ts)) ≡ 5 * rows_in (read_all (compose_token s) unwritten 0 ts)
  five_a_row = let e = (text_grows s ts unwritten 0).grew.wrote.five in omega arith

  pub few_literals : length (literals_in (read_all (compose_token s) unwritten 0 ts)) ≤ rows_in (read_all (compose_token s) unwritten 0 ts)
  few_literals = let e = (text_grows s ts unwritten 0).literals in omega arith

-- all through a text without faults there is room for all of it in the rows of its tree and one
pub enough_room :
    (s : Source) (us vs : List Token) → Sentence (us ++ vs) → text_faults s (syntax_of (us ++ vs)) ≡ []
    → committed (read_all (compose_token s) unwritten 0 us) ≤ weight (tree_of s (syntax_of (us ++ vs))) + 1
enough_room s us vs d clean =
    let r : Ended _ _ (read_all (compose_token s) unwritten 0 (us ++ vs)) = composing_ends s (us ++ vs) d clean in
    let so_far : Draft = read_all (compose_token s) unwritten 0 us in
    let all : Grows so_far (rest 1 (read_all (compose_token s) unwritten 0 (us ++ vs))) =
    grows_then (subst (Grows so_far) (sym (read_append (compose_token s) us vs unwritten 0)) (text_grows s vs so_far (past 0 us)))
    (rest_grows 1 (read_all (compose_token s) unwritten 0 (us ++ vs))) in
    (subst (Grows so_far) r.is all).grew.held_up
