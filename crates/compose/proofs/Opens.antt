-- How many round brackets a draft counts: at most one more behind each token, so no more than there are tokens.
-- Assumes nothing.
use Prim.Native.Nat.{ℕ, suc, ◌+◌, ◌-◌, ◌*◌, ◌<◌, ◌≤◌}
use native.Mathlib.Omega.{arith}
use mathlib.Core.Path.{◌≡◌, ap}
use mathlib.Core.Bool.{cond}
use mathlib.Core.List.{List, [], ◌∷◌}
use lib.Dec.{eqb, ltb, leb}
use lib.ListN.{length, get_or}
use lib.Ieee.{Float}
use Rattle.meaning.specs.Rows as R
use Rattle.names.specs.Names.{position}
use Rattle.text.specs.Grammar.{Token, opening, closing, '[', ']', dot, dots, at, comma, '::', NameTest, NodeType, 'processing_instruction', FunctionName, AxisName, Literal, Number, VariableReference, '/', '//', '|', '+', '-', '=', '!=', '<', '<=', '>', '>=', MultiplyOperator, 'and', 'or', 'div', 'mod', unknown}
use Rattle.text.specs.Machine.{Mode, has, signing, ending}
use Rattle.text.specs.Syntax.{read_all}
use Rattle.text.specs.Limited.{Source, place, word_of, function_names, axis_number, value_at}
use Rattle.text.specs.Reading.{operation, name_number, type_number}
use Rattle.text.specs.Survey.{mode_after, begins}
use Rattle.text.specs.Composing.{Frame, frame, Pen, Desk, desk, Draft, draft, truthful, strength_of, row_of, may_fill, settle, settled, with_pen, push, open_group, open_truth, close_round, close_square, path_from, point_read, axis_read, test_read, step_ended, moved, number_read, call_read, opening_read, closing_read, bracket_read, square_read, operator_read, minus_read, mode_in, compose_token, unwritten}
use Rattle.text.proofs.Lexemes.{choice}
use Rattle.compose.specs.declared.State.{State}
use Rattle.compose.specs.Standing.{frame_at, frames_of, desk_of, draft_of, Countable}
use Rattle.compose.proofs.Frames.{frames_pop}

-- the brackets that frames count
open_in : List Frame → ℕ
open_in [] = 0
open_in (frame op a c d o t ∷ fs) = o + open_in fs

open_on : Desk → ℕ
open_on (desk fs p) = open_in fs

open_of : Draft → ℕ
open_of (draft m x l deepest d) = open_on d

-- ---- the desk

more : {a b : ℕ} → a ≤ b → a ≤ b + 1
more h = omega arith

settle_opens : (k : ℕ) (fs : List Frame) (p : Pen) → open_on (settle k fs p) ≤ open_in fs
unfolding settle open_on open_in
settle_opens k [] p = omega arith
settle_opens k (frame op a c d o t ∷ fs) p =
    choice (λ x. open_on x ≤ open_in (frame op a c d o t ∷ fs)) (may_fill k (frame op a c d o t))
    (λ _. let less = settle_opens k fs (row_of (frame op a c d o t) p) in omega (arith, less)) (λ _. omega arith)

settled_opens : (k : ℕ) (d : Desk) → open_on (settled k d) ≤ open_on d
unfolding settled open_on
settled_opens k (desk fs p) = settle_opens k fs p

with_opens : (f : Pen → Pen) (d : Desk) → open_on (with_pen f d) ≤ open_on d
unfolding with_pen open_on
with_opens f (desk fs p) = omega arith

push_opens : (op c e : ℕ) (d : Desk) → open_on (push op c e d) ≤ open_on d
unfolding push open_on open_in
push_opens op c e (desk fs p) = omega arith

group_opens : (d : Desk) → open_on (open_group d) ≤ open_on d + 1
unfolding open_group open_on open_in
group_opens (desk [] p) = omega arith
group_opens (desk (frame op a c d o t ∷ fs) p) = omega arith

truth_opens : (d : Desk) → open_on (open_truth d) ≤ open_on d + 1
unfolding open_truth open_on open_in
truth_opens (desk [] p) = omega arith
truth_opens (desk (frame op a c d o t ∷ fs) p) = omega arith

round_opens : (d : Desk) → open_on (close_round d) ≤ open_on d
unfolding close_round open_on open_in
round_opens (desk [] p) = omega arith
round_opens (desk (frame op a c d o t ∷ fs) p) =
    choice (λ x. open_on x ≤ o + open_in fs) (ltb 0 o) (λ _. omega arith) (λ _.
    choice (λ x. open_on x ≤ o + open_in fs) (eqb op 18) (λ _. omega arith) (λ _. omega arith))

square_opens : (d : Desk) → open_on (close_square d) ≤ open_on d
unfolding close_square open_on open_in
square_opens (desk [] p) = omega arith
square_opens (desk (frame op a c d o t ∷ fs) p) = omega arith

-- ---- the draft

module _ (m' : Mode) (n : ℕ) where
  path_opens : (w : Draft) → open_of (path_from n w) ≤ open_of w
  unfolding path_from open_of
  path_opens (draft m x l deepest d) =
      choice (λ w. open_of w ≤ open_on d) (begins m) (λ _. push_opens n 0 0 d) (λ _. omega arith)

  point_opens : (w : Draft) → open_of (point_read m' n w) ≤ open_of w
  unfolding point_read open_of open_on
  point_opens (draft m x l deepest (desk fs p)) = omega arith

  axis_opens : (w : Draft) → open_of (axis_read m' n w) ≤ open_of w
  unfolding axis_read open_of
  axis_opens (draft m x l deepest d) = omega arith

  test_opens : (w : Draft) → open_of (test_read m' n w) ≤ open_of w
  unfolding test_read open_of
  test_opens (draft m x l deepest d) = push_opens 24 x n d

  ended_opens : (w : Draft) → open_of (step_ended w) ≤ open_of w
  unfolding step_ended open_of
  ended_opens (draft m x l deepest d) =
      choice (λ w. open_of w ≤ open_on d) (begins m) (λ _. omega arith) (λ _. settled_opens 10 d)

  moved_opens : (w : Draft) → open_of (moved m' w) ≤ open_of w
  unfolding moved open_of
  moved_opens (draft m x l deepest d) = omega arith

  number_opens : (v : Float) (w : Draft) → open_of (number_read m' v w) ≤ open_of w
  unfolding number_read open_of
  number_opens v (draft m x l deepest d) = with_opens _ d

  call_opens : (w : Draft) → open_of (call_read m' n w) ≤ open_of w + 1
  unfolding call_read open_of
  call_opens (draft m x l deepest d) =
      choice (λ e. open_on e ≤ open_on d + 1) (eqb n 0) (λ _. more (with_opens _ d)) (λ _.
      choice (λ e. open_on e ≤ open_on d + 1) (eqb n 1) (λ _. more (with_opens _ d)) (λ _.
      choice (λ e. open_on e ≤ open_on d + 1) (eqb n 2) (λ _. more (push_opens 21 0 0 d)) (λ _.
      choice (λ e. open_on e ≤ open_on d + 1) (eqb n 3) (λ _. more (push_opens 18 0 0 d)) (λ _.
      choice (λ e. open_on e ≤ open_on d + 1) (eqb n 4) (λ _. truth_opens d) (λ _. omega arith)))))

  opening_opens : (w : Draft) → open_of (opening_read m' w) ≤ open_of w + 1
  unfolding opening_read open_of
  opening_opens (draft m x l deepest d) = choice (λ e. open_on e ≤ open_on d + 1) (begins m) (λ _. group_opens d) (λ _. omega arith)

  closing_opens : (w : Draft) → open_of (closing_read m' w) ≤ open_of w
  unfolding closing_read open_of
  closing_opens (draft m x l deepest d) =
      choice (λ e. open_on e ≤ open_on d) (has ending m)
      (λ _. let h = round_opens (settled 1 d) in let k = settled_opens 1 d in omega (arith, h, k)) (λ _. omega arith)

  bracket_opens : (w : Draft) → open_of (bracket_read m' w) ≤ open_of w
  unfolding bracket_read open_of
  bracket_opens (draft m x l deepest d) = push_opens 25 0 0 d

  closes_opens : (w : Draft) → open_of (square_read m' w) ≤ open_of w
  unfolding square_read open_of
  closes_opens (draft m x l deepest d) = let h = square_opens (settled 1 d) in let k = settled_opens 1 d in omega (arith, h, k)

  operator_opens : (w : Draft) → open_of (operator_read m' n w) ≤ open_of w
  unfolding operator_read open_of
  operator_opens (draft m x l deepest d) =
      let f : Pen → Pen = λ p. cond (leb (strength_of n) 2) (truthful p) p in
      let h = push_opens n 0 0 (with_pen f (settled (strength_of n) d)) in
      let k = with_opens f (settled (strength_of n) d) in
      let j = settled_opens (strength_of n) d in
      omega (arith, h, k, j)

minus_opens : (m' : Mode) (w : Draft) → open_of (minus_read m' w) ≤ open_of w
unfolding minus_read open_of
minus_opens m' (draft m x l deepest d) =
    choice (λ w. open_of w ≤ open_on d) (has signing m) (λ _. push_opens 9 0 0 d) (λ _. operator_opens m' 5 (draft m x l deepest d))

slashed : (w : Draft) (m : Mode) {n : ℕ} → n ≤ open_of (step_ended (path_from 23 w)) → n ≤ open_of w + 1
slashed w m h = let k = ended_opens m 0 (path_from 23 w) in let j = path_opens m 23 w in omega (arith, h, k, j)

-- one more bracket at most
token_opens : (s : Source) (w : Draft) (i : ℕ) (t : Token) → open_of (compose_token s w i t) ≤ open_of w + 1
unfolding compose_token
token_opens s w i opening = opening_opens (mode_after (mode_in w) opening) 0 w
token_opens s w i closing = more (closing_opens (mode_after (mode_in w) closing) 0 w)
token_opens s w i '[' = more (bracket_opens (mode_after (mode_in w) '[') 0 w)
token_opens s w i ']' = more (closes_opens (mode_after (mode_in w) ']') 0 w)
token_opens s w i dot = let h = path_opens (mode_after (mode_in w) dot) 22 w in let k = point_opens (mode_after (mode_in w) dot) 0
    (path_from 22 w) in omega (arith, h, k)
token_opens s w i dots = let h = path_opens (mode_after (mode_in w) dots) 22 w in let k = point_opens (mode_after (mode_in w) dots) 2
    (path_from 22 w) in omega (arith, h, k)
token_opens s w i at = let h = path_opens (mode_after (mode_in w) at) 22 w in let k = axis_opens (mode_after (mode_in w) at) 11
    (path_from 22 w) in omega (arith, h, k)
token_opens s w i comma = more (moved_opens (mode_after (mode_in w) comma) 0 w)
token_opens s w i '::' = more (moved_opens (mode_after (mode_in w) '::') 0 w)
token_opens s w i NameTest = let h = path_opens (mode_after (mode_in w) NameTest) 22 w in let k = test_opens (mode_after (mode_in w) NameTest)
    (name_number s i) (path_from 22 w) in omega (arith, h, k)
token_opens s w i NodeType = let h = path_opens (mode_after (mode_in w) NodeType) 22 w in let k = test_opens (mode_after (mode_in w) NodeType)
    (type_number (word_of s i)) (path_from 22 w) in omega (arith, h, k)
token_opens s w i 'processing_instruction' = let h = path_opens (mode_after (mode_in w) 'processing_instruction') 22 w in let k = test_opens
    (mode_after (mode_in w) 'processing_instruction') 4 (path_from 22 w) in omega (arith, h, k)
token_opens s w i FunctionName = call_opens (mode_after (mode_in w) FunctionName) (position function_names (word_of s i)) w
token_opens s w i AxisName = let h = path_opens (mode_after (mode_in w) AxisName) 22 w in let k = axis_opens (mode_after (mode_in w) AxisName)
    (axis_number (word_of s i)) (path_from 22 w) in omega (arith, h, k)
token_opens s w i Literal = more (moved_opens (mode_after (mode_in w) Literal) 0 w)
token_opens s w i Number = more (number_opens (mode_after (mode_in w) Number) 0 (value_at s.text (place s i)) w)
token_opens s w i VariableReference = more (moved_opens (mode_after (mode_in w) VariableReference) 0 w)
token_opens s w i '/' = slashed w (mode_after (mode_in w) '/') (moved_opens (mode_after (mode_in w) '/') 0 (step_ended (path_from 23 w)))
token_opens s w i '//' = slashed w (mode_after (mode_in w) '//') (point_opens (mode_after (mode_in w) '//') 5 (step_ended (path_from 23 w)))
token_opens s w i '|' = more (moved_opens (mode_after (mode_in w) '|') 0 w)
token_opens s w i '+' = more (operator_opens (mode_after (mode_in w) '+') (R.code (operation '+')) w)
token_opens s w i '-' = more (minus_opens (mode_after (mode_in w) '-') w)
token_opens s w i '=' = more (operator_opens (mode_after (mode_in w) '=') (R.code (operation '=')) w)
token_opens s w i '!=' = more (operator_opens (mode_after (mode_in w) '!=') (R.code (operation '!=')) w)
token_opens s w i '<' = more (operator_opens (mode_after (mode_in w) '<') (R.code (operation '<')) w)
token_opens s w i '<=' = more (operator_opens (mode_after (mode_in w) '<=') (R.code (operation '<=')) w)
token_opens s w i '>' = more (operator_opens (mode_after (mode_in w) '>') (R.code (operation '>')) w)
token_opens s w i '>=' = more (operator_opens (mode_after (mode_in w) '>=') (R.code (operation '>=')) w)
token_opens s w i MultiplyOperator = more (operator_opens (mode_after (mode_in w) MultiplyOperator) (R.code (operation MultiplyOperator)) w)
token_opens s w i 'and' = more (operator_opens (mode_after (mode_in w) 'and') (R.code (operation 'and')) w)
token_opens s w i 'or' = more (operator_opens (mode_after (mode_in w) 'or') (R.code (operation 'or')) w)
token_opens s w i 'div' = more (operator_opens (mode_after (mode_in w) 'div') (R.code (operation 'div')) w)
token_opens s w i 'mod' = more (operator_opens (mode_after (mode_in w) 'mod') (R.code (operation 'mod')) w)
token_opens s w i unknown = omega arith

-- no more than tokens
all_opens : (s : Source) (w : Draft) (i : ℕ) (ts : List Token) → open_of (read_all (compose_token s) w i ts) ≤ open_of w + length ts
unfolding read_all
all_opens s w i [] = omega arith
all_opens s w i (t ∷ ts) =
    let h = all_opens s (compose_token s w i t) (suc i) ts in
    let k = token_opens s w i t in
    omega (arith, h, k)

top_counted : (ops opens : List ℕ) (n : ℕ) → 0 < n → get_or opens (2 * (n - 1)) 0 ≤ open_in (frames_of ops opens n)
unfolding open_in frame_at
top_counted ops opens n h = rw (frames_pop ops opens n h) (omega arith)

-- so one more behind the top frame can be counted
pub countable :
    (st : State) (rows ops opens : List ℕ) (values : List Float) (s : Source) (ts : List Token)
    → draft_of st rows ops opens values ≡ read_all (compose_token s) unwritten 0 ts → length ts < 18446744073709551615
    → Countable st.bench.height opens
unfolding Countable draft_of desk_of open_of open_on open_in
countable st rows ops opens values s ts e l h =
    let top = top_counted ops opens st.bench.height h in
    let all : open_of (read_all (compose_token s) unwritten 0 ts) ≤ 0 + length ts = all_opens s unwritten 0 ts in
    let here : open_in (frames_of ops opens st.bench.height) ≡ open_of (read_all (compose_token s) unwritten 0 ts) = ap open_of e in
    omega (arith, top, all, here)
