-- What each token does to a draft, by the mode it finds.
-- Assumes nothing.
use Prim.Native.Nat.{ℕ, suc, ◌+◌, ◌≤◌}
use mathlib.Core.Path.{◌≡◌, refl, ◌∙◌, ap, subst⁻¹}
use mathlib.Core.Bool.{cond}
use mathlib.Core.List.{List, ◌∷◌}
use native.Mathlib.Nat.{le_refl}
use lib.Dec.{leb}
use lib.Ieee.{Float}
use Rattle.meaning.specs.Rows.{code}
use Rattle.meaning.specs.declared.Op.TheVariants.{Absolute}
use Rattle.names.specs.Names.{position}
use Rattle.text.specs.declared.Sort.TheVariants.{Numeral}
use Rattle.text.specs.Grammar.{Token, opening, closing, '[', ']', dot, dots, at, '::', NameTest, NodeType, 'processing_instruction', FunctionName, AxisName, Literal, Number, '/', '//', '-'}
use Rattle.text.specs.Machine.{Mode, operand, argument, root, whole, Row, rows, on, go, pick, has, ending}
use Rattle.text.specs.Machine as M
use Rattle.text.specs.Limited.{Source, place, word_of, function_names, axis_number, value_at}
use Rattle.text.specs.Reading.{index_of, with, operation, name_number, type_number}
use Rattle.text.specs.Survey.{mode_after}
use Rattle.text.specs.Survey as Survey
use Rattle.text.specs.Tokens as Tokens
use Rattle.text.specs.Composing.{Frame, frame, Pen, Desk, desk, Draft, draft, put, link_of, truthful, emptied, strength_of, may_fill, settled, with_pen, push, open_group, close_round, close_square, paths_in, paths_on, path_from, point_read, axis_read, test_read, step_ended, moved, number_read, call_read, opening_read, closing_read, bracket_read, square_read, operator_read, minus_read, mode_in, compose_token}
use Rattle.text.proofs.Composition.Pens.{rest}
use Rattle.text.proofs.Composition.Drafts.{Beginning, Stepping, Testing, Ready, Had, no_path, Due, path_frame, begun, below_pen, point_mode, closed, at_operand, at_argument, step_operand, step_argument, step_root, step_step, test_operand, test_argument, test_root, test_step, test_test, ready_root, ready_whole, ready_part, had_whole, had_part, due}

-- behind an operand an operator is read as such
operand_next :
    (tok : Token) (others : List Row) → rows tok ≡ on ending (go operand) ∷ others → (m : Mode) → Ready m → mode_after m tok ≡ operand
unfolding pick has M.number Survey.after
operand_next tok others e m ready_root = rw e
operand_next tok others e m ready_whole = rw e
operand_next tok others e m ready_part = rw e

-- what an operator that binds as strongly as k wants in hand: `and` and `or` want truths
abbrev pub wanted : ℕ → Pen → Pen
wanted k q = cond (leb k 2) (truthful q) q

-- an operator's frame behind what it wants
abbrev pub operated : ℕ → ℕ → Draft → Draft
operated op k (draft m x l deep d) = draft operand x l deep (push op 0 0 (with_pen (wanted k) d))

module _ (s : Source) where
  -- ---- operators

  -- what binds at least as strongly is filled, then comes the operator's frame
  pub read_operator :
      (tok : Token) (k : ℕ) (others : List Row) → strength_of (code (operation tok)) ≡ k → rows tok ≡ on ending (go operand) ∷ others
      → ((g : Draft) (j : ℕ) → Ready (mode_in g) → compose_token s g j tok ≡ operator_read (mode_after (mode_in g) tok) (code (operation tok)) g)
      → (g : Draft) (j : ℕ) → Ready (mode_in g) → compose_token s g j tok ≡ operated (code (operation tok)) k (rest k g)
  unfolding operator_read rest
  read_operator tok k others binds leads h (draft m x l deep d) j r =
      h (draft m x l deep d) j r
      ∙ (ap (λ (n : Mode). operator_read n (code (operation tok)) (draft m x l deep d)) (operand_next tok others leads m r) ∙ rw binds)

  -- behind an operand `-` is an operator
  pub by_minus :
      (g : Draft) (j : ℕ) → Ready (mode_in g) → compose_token s g j '-' ≡ operator_read (mode_after (mode_in g) '-') (code (operation '-')) g
  unfolding compose_token minus_read has M.number operation Tokens.code code
  by_minus (draft m x l deep d) j ready_root = refl
  by_minus (draft m x l deep d) j ready_whole = refl
  by_minus (draft m x l deep d) j ready_part = refl

  -- a sign before an operand
  pub minus_due :
      {m : Mode} (l : List Float) (deep : ℕ) (f : Frame) (fs : List Frame) (p : Pen) (i : ℕ) → Beginning m → paths_in (f ∷ fs) ≤ deep
      → Due 8 l deep (frame 9 (link_of p) 0 0 0 0) (f ∷ fs) (emptied p) (compose_token s (draft m 1 l deep (desk (f ∷ fs) p)) i '-')
  unfolding compose_token minus_read has M.number Survey.after pick rows push may_fill strength_of
  minus_due l deep f fs p i at_operand dp =
      due at_operand refl (le_refl 0) (subst⁻¹ (λ (n : ℕ). n ≤ deep) (no_path 9 (link_of p) 0 0 0 0 (f ∷ fs) refl) dp)
  minus_due l deep f fs p i at_argument dp =
      due at_operand refl (le_refl 0) (subst⁻¹ (λ (n : ℕ). n ≤ deep) (no_path 9 (link_of p) 0 0 0 0 (f ∷ fs) refl) dp)

  -- ---- paths and steps

  -- `/` begins a path, and so does `//` with its step
  pub begins_root :
      (m : Mode) (l : List Float) (deep : ℕ) (f : Frame) (fs : List Frame) (p : Pen) (i : ℕ) → Beginning m
      → compose_token s (draft m 1 l deep (desk (f ∷ fs) p)) i '/'
      ≡ draft root 1 l (begun deep f fs) (desk (path_frame Absolute p ∷ f ∷ fs) (emptied p))
  unfolding compose_token moved step_ended path_from paths_on push has M.number code Survey.after pick rows
  begins_root m l deep f fs p i at_operand = refl
  begins_root m l deep f fs p i at_argument = refl

  pub begins_below :
      (m : Mode) (l : List Float) (deep : ℕ) (f : Frame) (fs : List Frame) (p : Pen) (i : ℕ) → Beginning m
      → compose_token s (draft m 1 l deep (desk (f ∷ fs) p)) i '//'
      ≡ draft M.step 1 l (begun deep f fs) (desk (path_frame Absolute p ∷ f ∷ fs) (below_pen p))
  unfolding compose_token point_read step_ended path_from paths_on push has M.number code Survey.after pick rows
  begins_below m l deep f fs p i at_operand = refl
  begins_below m l deep f fs p i at_argument = refl

  -- an axis
  pub axis_read_lem :
      (g : Draft) (i : ℕ) → Stepping (mode_in g)
      → compose_token s (compose_token s g i AxisName) (suc i) '::' ≡ axis_read M.test (axis_number (word_of s i)) (path_from 22 g)
  unfolding compose_token axis_read moved path_from has M.number Survey.after pick rows
  axis_read_lem (draft m x l deep d) i step_operand = refl
  axis_read_lem (draft m x l deep d) i step_argument = refl
  axis_read_lem (draft m x l deep d) i step_root = refl
  axis_read_lem (draft m x l deep d) i step_step = refl

  pub at_read : (g : Draft) (i : ℕ) → Stepping (mode_in g) → compose_token s g i at ≡ axis_read M.test 11 (path_from 22 g)
  unfolding compose_token axis_read path_from has M.number Survey.after pick rows
  at_read (draft m x l deep d) i step_operand = refl
  at_read (draft m x l deep d) i step_argument = refl
  at_read (draft m x l deep d) i step_root = refl
  at_read (draft m x l deep d) i step_step = refl

  -- the four node tests
  pub by_name_read :
      (g : Draft) (i : ℕ) → Testing (mode_in g)
      → compose_token s g i NameTest ≡ test_read M.part (name_number s i) (path_from 22 g)
  unfolding compose_token opening_read closing_read moved test_read path_from has M.number Survey.after pick rows
  by_name_read (draft m x l deep d) i test_operand = refl
  by_name_read (draft m x l deep d) i test_argument = refl
  by_name_read (draft m x l deep d) i test_root = refl
  by_name_read (draft m x l deep d) i test_step = refl
  by_name_read (draft m x l deep d) i test_test = refl

  pub by_type_read :
      (g : Draft) (i : ℕ) → Testing (mode_in g)
      → compose_token s (compose_token s (compose_token s g i NodeType) (suc i) opening) (suc (suc i)) closing
      ≡ test_read M.part (type_number (word_of s i)) (path_from 22 g)
  unfolding compose_token opening_read closing_read moved test_read path_from has M.number Survey.after pick rows
  by_type_read (draft m x l deep d) i test_operand = refl
  by_type_read (draft m x l deep d) i test_argument = refl
  by_type_read (draft m x l deep d) i test_root = refl
  by_type_read (draft m x l deep d) i test_step = refl
  by_type_read (draft m x l deep d) i test_test = refl

  pub by_instruction_read :
      (g : Draft) (i : ℕ) → Testing (mode_in g)
      → compose_token s (compose_token s (compose_token s g i 'processing_instruction') (suc i) opening) (suc (suc i)) closing
      ≡ test_read M.part 4 (path_from 22 g)
  unfolding compose_token opening_read closing_read moved test_read path_from has M.number Survey.after pick rows
  by_instruction_read (draft m x l deep d) i test_operand = refl
  by_instruction_read (draft m x l deep d) i test_argument = refl
  by_instruction_read (draft m x l deep d) i test_root = refl
  by_instruction_read (draft m x l deep d) i test_step = refl
  by_instruction_read (draft m x l deep d) i test_test = refl

  pub by_target_read :
      (g : Draft) (i : ℕ) → Testing (mode_in g)
      → compose_token s (compose_token s (compose_token s (compose_token s g i 'processing_instruction') (suc i) opening) (suc (suc i)) Literal)
      (suc (suc (suc i))) closing ≡ test_read M.part 4 (path_from 22 g)
  unfolding compose_token opening_read closing_read moved test_read path_from has M.number Survey.after pick rows
  by_target_read (draft m x l deep d) i test_operand = refl
  by_target_read (draft m x l deep d) i test_argument = refl
  by_target_read (draft m x l deep d) i test_root = refl
  by_target_read (draft m x l deep d) i test_step = refl
  by_target_read (draft m x l deep d) i test_test = refl

  -- `.` and `..`
  pub dot_read : (g : Draft) (i : ℕ) → Stepping (mode_in g) → compose_token s g i dot ≡ point_read whole 0 (path_from 22 g)
  unfolding compose_token has M.number Survey.after pick rows
  dot_read (draft m x l deep d) i step_operand = refl
  dot_read (draft m x l deep d) i step_argument = refl
  dot_read (draft m x l deep d) i step_root = refl
  dot_read (draft m x l deep d) i step_step = refl

  pub dots_read : (g : Draft) (i : ℕ) → Stepping (mode_in g) → compose_token s g i dots ≡ point_read whole 2 (path_from 22 g)
  unfolding compose_token has M.number Survey.after pick rows
  dots_read (draft m x l deep d) i step_operand = refl
  dots_read (draft m x l deep d) i step_argument = refl
  dots_read (draft m x l deep d) i step_root = refl
  dots_read (draft m x l deep d) i step_step = refl

  -- a step behind `/` or `//`
  pub slash_read_lem : (g : Draft) (i : ℕ) → Had (mode_in g) → compose_token s g i '/' ≡ moved M.step (rest 10 g)
  unfolding compose_token moved step_ended path_from rest has M.number Survey.after pick rows
  slash_read_lem (draft m x l deep d) i had_whole = refl
  slash_read_lem (draft m x l deep d) i had_part = refl

  pub slashes_read : (g : Draft) (i : ℕ) → Had (mode_in g) → compose_token s g i '//' ≡ point_read M.step 5 (rest 10 g)
  unfolding compose_token step_ended path_from rest has M.number Survey.after pick rows
  slashes_read (draft m x l deep d) i had_whole = point_mode M.step whole M.part 5 x l deep (settled 10 d)
  slashes_read (draft m x l deep d) i had_part = refl

  -- ---- brackets

  -- what is open is filled, then the bracket closes
  pub square_read_lem : (g : Draft) (i : ℕ) → Ready (mode_in g) → compose_token s g i ']' ≡ closed close_square (rest 1 g)
  unfolding compose_token square_read rest has M.number Survey.after pick rows
  square_read_lem (draft m x l deep d) i ready_root = refl
  square_read_lem (draft m x l deep d) i ready_whole = refl
  square_read_lem (draft m x l deep d) i ready_part = refl

  pub round_read : (g : Draft) (i : ℕ) → Ready (mode_in g) → compose_token s g i closing ≡ closed close_round (rest 1 g)
  unfolding compose_token closing_read rest has M.number Survey.after pick rows
  round_read (draft m x l deep d) i ready_root = refl
  round_read (draft m x l deep d) i ready_whole = refl
  round_read (draft m x l deep d) i ready_part = refl

  -- `[` opens a predicate
  pub square_open :
      (l : List Float) (deep : ℕ) (fs : List Frame) (p : Pen) (i : ℕ)
      → compose_token s (draft M.part 1 l deep (desk fs p)) i '['
      ≡ draft operand 1 l deep (desk (frame 25 (link_of p) 0 0 0 0 ∷ fs) (emptied p))
  unfolding compose_token bracket_read push has M.number Survey.after pick rows M.inner
  square_open l deep fs p i = refl

  -- ---- operands

  pub number_read_lem :
      (m : Mode) (l : List Float) (deep : ℕ) (f : Frame) (fs : List Frame) (p : Pen) (i : ℕ) → Beginning m
      → compose_token s (draft m 1 l deep (desk (f ∷ fs) p)) i Number
      ≡ draft M.part 1 (with l (value_at s.text (place s i))) deep
      (desk (f ∷ fs) (put 1 (index_of l (value_at s.text (place s i))) 0 0 0 Numeral p))
  unfolding compose_token number_read with_pen has M.number Survey.after pick rows
  number_read_lem m l deep f fs p i at_operand = refl
  number_read_lem m l deep f fs p i at_argument = refl

  pub group_read :
      (m : Mode) (l : List Float) (deep op a c d o t : ℕ) (fs : List Frame) (p : Pen) (i : ℕ) → Beginning m
      → compose_token s (draft m 1 l deep (desk (frame op a c d o t ∷ fs) p)) i opening
      ≡ draft operand 1 l deep (desk (frame op a c d (o + 1) t ∷ fs) p)
  unfolding compose_token opening_read open_group has M.number Survey.after pick rows M.inner
  group_read m l deep op a c d o t fs p i at_operand = refl
  group_read m l deep op a c d o t fs p i at_argument = refl

  -- the number of the function that token i names
  abbrev pub numbered : ℕ → ℕ
  numbered i = position function_names (word_of s i)

  -- a call without arguments, and what opens one with arguments
  pub empty_read :
      (m : Mode) (l : List Float) (deep : ℕ) (d : Desk) (i : ℕ) → Beginning m
      → compose_token s (compose_token s (compose_token s (draft m 1 l deep d) i FunctionName) (suc i) opening) (suc (suc i)) closing
      ≡ call_read M.part (numbered i) (draft m 1 l deep d)
  unfolding compose_token call_read opening_read closing_read has M.number Survey.after pick rows M.inner
  empty_read m l deep d i at_operand = refl
  empty_read m l deep d i at_argument = refl

  pub full_read :
      (m : Mode) (l : List Float) (deep : ℕ) (d : Desk) (i : ℕ) → Beginning m
      → compose_token s (compose_token s (draft m 1 l deep d) i FunctionName) (suc i) opening
      ≡ call_read argument (numbered i) (draft m 1 l deep d)
  unfolding compose_token call_read opening_read has M.number Survey.after pick rows M.inner
  full_read m l deep d i at_operand = refl
  full_read m l deep d i at_argument = refl
