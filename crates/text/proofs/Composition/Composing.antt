-- Composing is right: the rows, the literals and the depth that it gives are those of the text's tree (`composed_right`). Each production keeps
-- the promise of its name; an induction on the derivation does the rest.
-- Assumes nothing.
use Prim.Native.Nat.{ℕ, zero, suc, ◌+◌, max, ◌≤◌, ◌<◌}
use mathlib.Core.Path.{◌≡◌, refl, sym, ◌∙◌, ap, subst, subst⁻¹}
use mathlib.Core.Bool.{true, false}
use mathlib.Core.List.{List, [], ◌∷◌, ◌++◌}
use native.Mathlib.Omega.{arith}
use native.Mathlib.Nat.{zero-add, le_refl}
use lib.Dec.{T}
use lib.ListN.{get_or}
use lib.Ieee.{Float}
use borrow.Author.Tests.{eqb-true}
use Rattle.meaning.specs.Rows.{code, is_literal}
use Rattle.meaning.specs.declared.Op.{Op}
use Rattle.meaning.specs.declared.Op.TheVariants.{Absolute, Count, Last, Literal, Negation, Position, Predicate, Relative, Step}
use Rattle.meaning.specs.Rows as R
use Rattle.meaning.specs.Tree.{Tree, none, node, depth}
use Rattle.meaning.specs.Turning.{weight, link, written}
use Rattle.text.specs.declared.Sort.{Sort}
use Rattle.text.specs.declared.Sort.TheVariants.{Numeral, Truth, Nodes, Unheld}
use Rattle.text.specs.Grammar.{Token, opening, closing, '[', ']', dot, dots, at, '::', NameTest, NodeType, 'processing_instruction', FunctionName, AxisName, Literal, Number, VariableReference, '/', '//', '|', '+', '-', '=', '!=', '<', '<=', '>', '>=', MultiplyOperator, 'and', 'or', 'div', 'mod', unknown}
use Rattle.text.specs.Grammar.{Symbol, the, LocationPath, AbsoluteLocationPath, RelativeLocationPath, Step, AxisSpecifier, NodeTest, Predicates, Predicate, PredicateExpr, AbbreviatedAbsoluteLocationPath, AbbreviatedRelativeLocationPath, AbbreviatedStep, AbbreviatedAxisSpecifier, Expr, PrimaryExpr, FunctionCall, Arguments, Argument, UnionExpr, PathExpr, FilterExpr, OrExpr, AndExpr, EqualityExpr, RelationalExpr, AdditiveExpr, MultiplicativeExpr, UnaryExpr, productions, Sentence}
use Rattle.text.specs.Machine.{Mode, operand, argument, root, whole, rows, on, go, has, signing}
use Rattle.text.specs.Machine as M
use Rattle.text.specs.Syntax.{Kind, number, string, variable, group, call, arguments, union, filter, onward, relative, absolute, chain, step, self, parent, axis, attribute, named, typed, instruction, target, predicates, is_kind, Syntax, blank, part, token_of, readings, made, stand_for, read_all}
use Rattle.text.specs.Growing.{tightness, syntax_of}
use Rattle.text.specs.Limited.{Source, place, word_of, function_of, holds_call, result_of, arity, is_held_call, operator_sort, axis_number, value_at, sort, fault, as_path, own, faults, text_faults}
use Rattle.text.specs.Reading.{values, index_of, distinct, literals_of, operation, as_truth, as_predicate, called, descended, axis_of, test_of, held, tree_of}
use Rattle.text.specs.Survey.{begins, function_at}
use Rattle.text.specs.Tokens as Tokens
use Rattle.text.specs.Composing.{Frame, frame, Pen, pen, Desk, desk, Draft, draft, link_of, over, truthful, emptied, strength_of, row_of, may_fill, settle, settled, with_pen, push, open_truth, close_round, close_square, is_path_op, paths_in, path_from, point_read, test_read, moved, call_read, mode_in, compose_token, unwritten, Composed, composed, rows_on, completed, composed_of}
use Rattle.text.proofs.Scheme.{Every, reads}
use Rattle.text.proofs.Tree.{the_tree}
use Rattle.text.proofs.Composition.Literals.{Front, front_all, index_settled, value_equal}
use Rattle.text.proofs.Composition.Pens.{after, after_none, after_emptied, puts_one, puts_none, puts_literal, true_sort, truthful_after, truth_depth, stays, fills, rest, same_draft, again}
use Rattle.text.proofs.Composition.Drafts.{Beginning, Stepping, Testing, Ready, Had, had_ready, Same, same_fills, mark, no_path, Open, Due, deeper, behind, Walking, stays_below, walked, pointed, PathOp, path_frame, begun, path_fills, path_depth, closes_path, path_walking, relative_walking, root_row, below_pen, below_row, specified, step_test, slash_moves, slashes_move, step_frame, test_pushes, step_begun, step_ends, closed, squared, predicate_behind, shallow_in, opened_stays, Closed, group_closes, truth_closes, at_operand, at_argument, step_root, step_step, ready_root, ready_part, had_whole, same, due, is_relative, is_absolute_lem}
use Rattle.text.proofs.Composition.Moves.{by_minus, begins_root, begins_below, axis_read_lem, at_read, by_name_read, by_type_read, by_instruction_read, by_target_read, dot_read, dots_read, slash_read_lem, slashes_read, square_read_lem, round_read, square_open, number_read_lem, group_read, numbered, empty_read, full_read}
use Rattle.text.proofs.Composition.Faultless.{no_back, unheld, own_none, third_none, no_truth, held_call, call_sort_lem}
use Rattle.text.proofs.Composition.Promises.{clean_inner, in_hand, behind_it, Clean, Whole, Exact, Walked, Expression, Primary, Walk, Specified, Tested, Filtered, Bracketed, Argued, view, two_values, clean_first, clean_second, passing, lifting}
use Rattle.text.proofs.Composition.Operators.{between, signs}

module _ (s : Source) (L : List Float) where
  -- ---- paths

  -- what binds as strongly as `/` finds a step as it is
  first_step : (g g' : Draft) (x : Syntax) → Walk s L 11 g g' x → Walk s L 10 g g' x
  unfolding rest settled
  first_step g g' x w l deep fs p before b c =
      let v : Walked s L 11 l deep fs p before x g' = w l deep fs p before b c in record {
        had = v.had;
        settles =
            sym (again 10 11 tt g')
            ∙ (ap (rest 10) v.settles
            ∙ ap (draft M.part 1 (distinct l (values s x)) (deeper deep fs (held s L before x)))
            (stays_below 10 tt fs (after (held s L before x) Unheld p) b.below));
      }

  -- a path behind its steps
  path_whole :
      {op : Op} → PathOp op → (l : List Float) (deep : ℕ) (f : Frame) (fs : List Frame) (p : Pen) (before : Tree) (x y : Syntax) (g : Draft)
      → sort s y ≡ Nodes → held s L none y ≡ node op (held s L before x) none 0 0 → values s y ≡ values s x
      → Walked s L 10 l (begun deep f fs) (path_frame op p ∷ f ∷ fs) p before x g → Whole s L 9 l deep f fs p y g
  path_whole {op} o l deep f fs p before x y g u h e v = record {
    known = rw u;
    top = f;
    kept = same;
    ready = had_ready v.had;
    settles = rw (u, h, e) (closes_path o (distinct l (values s x)) deep f fs p (held s L before x) g v.settles);
  }

  -- a path that begins with a step, and `/` alone
  location : (g g' : Draft) (i : ℕ) (x : Syntax) → Walk s L 10 g g' x → Expression s L 9 9 g g' (part relative unknown i blank blank x)
  unfolding held sort values faults own
  location g g' i x w l deep f fs p (due b lo op dp) c =
      path_whole is_relative l deep f fs p none x (part relative unknown i blank blank x) g' refl refl refl
      (w l (begun deep f fs) (path_frame Relative p ∷ f ∷ fs) p none (relative_walking l deep f fs p b)
      (clean_inner s L relative refl unknown i x l c))

  alone : (g : Draft) (i : ℕ) → Expression s L 9 9 g (compose_token s g i '/') (part absolute '/' i blank blank blank)
  unfolding held sort values descended Tokens.code distinct rest settled depth
  alone g i l deep f fs p (due b lo op dp) c =
      subst⁻¹ (Whole s L 9 l deep f fs p (part absolute '/' i blank blank blank)) (begins_root s _ l deep f fs p i b)
      (record {
        known = refl;
        top = f;
        kept = same;
        ready = ready_root;
        settles =
            same_draft M.part 1 refl (ap (λ (n : ℕ). max deep (paths_in (f ∷ fs) + n)) (sym (path_depth is_absolute_lem none)))
            (fills 9 (path_frame Absolute p) (f ∷ fs) (emptied p) (path_fills is_absolute_lem p) ∙ ap (settle 9 (f ∷ fs)) (root_row p));
      })

  -- steps behind `/` or `//` at the beginning
  from_root :
      (t : Token) (mode : Mode) (before : Tree) (q : Pen → Pen) → Stepping mode → begins mode ≡ false → depth before ≡ 0
      → descended t none ≡ before
      → ((p : Pen) → q p ≡ after before Unheld p)
      → ((m : Mode) (l : List Float) (deep : ℕ) (f : Frame) (fs : List Frame) (p : Pen) (i : ℕ) → Beginning m
      → compose_token s (draft m 1 l deep (desk (f ∷ fs) p)) i t
      ≡ draft mode 1 l (begun deep f fs) (desk (path_frame Absolute p ∷ f ∷ fs) (q p)))
      → (g g' : Draft) (i : ℕ) (x : Syntax) → Walk s L 10 (compose_token s g i t) g' x
      → Expression s L 9 9 g g' (part absolute t i blank blank x)
  unfolding held sort values faults own path_from
  from_root t mode before q st inner shallow e is-after begins-so g g' i x w l deep f fs p (due b lo op dp) c =
      path_whole is_absolute_lem l deep f fs p before x (part absolute t i blank blank x) g' refl (rw e) refl
      (w l (begun deep f fs) (path_frame Absolute p ∷ f ∷ fs) p before
      (subst⁻¹ (Walking l (begun deep f fs) (path_frame Absolute p ∷ f ∷ fs) p before) (begins-so _ l deep f fs p i b)
      (path_walking is_absolute_lem l deep f fs p (q p) before
      (draft mode 1 l (begun deep f fs) (desk (path_frame Absolute p ∷ f ∷ fs) (q p))) st (rw inner) (is-after p) shallow))
      (clean_inner s L absolute refl t i x l c))

  -- ---- steps

  -- an axis, `@`, and neither
  with_axis_lem :
      (g : Draft) (i : ℕ)
      → Specified s L g (compose_token s (compose_token s g i AxisName) (suc i) '::') (part axis AxisName i blank blank blank)
  unfolding values axis_of
  with_axis_lem g i = (refl, (λ l deep d st h. specified (axis_number (word_of s i)) g _ (axis_read_lem s g i st) l deep d h))

  with_at : (g : Draft) (i : ℕ) → Specified s L g (compose_token s g i at) (part attribute at i blank blank blank)
  unfolding values axis_of
  with_at g i = (refl, (λ l deep d st h. specified 11 g _ (at_read s g i st) l deep d h))

  without_axis : (g : Draft) → Specified s L g g blank
  unfolding values axis_of
  without_axis g = (refl, (λ l deep d st h. (step_test st, h)))

  -- the four node tests
  by_name :
      (g : Draft) (i : ℕ) → Tested s L g (compose_token s g i NameTest) (part named NameTest i blank blank blank)
  unfolding values test_of
  by_name g i = (refl, by_name_read s g i)

  by_type :
      (g : Draft) (i : ℕ)
      → Tested s L g (compose_token s (compose_token s (compose_token s g i NodeType) (suc i) opening) (suc (suc i)) closing)
      (part typed NodeType i blank blank blank)
  unfolding values test_of
  by_type g i = (refl, by_type_read s g i)

  by_instruction :
      (g : Draft) (i : ℕ)
      → Tested s L g (compose_token s (compose_token s (compose_token s g i 'processing_instruction') (suc i) opening) (suc (suc i)) closing)
      (part instruction 'processing_instruction' i blank blank blank)
  unfolding values test_of
  by_instruction g i = (refl, by_instruction_read s g i)

  by_target :
      (g : Draft) (i : ℕ)
      → Tested s L g
      (compose_token s (compose_token s (compose_token s (compose_token s g i 'processing_instruction') (suc i) opening) (suc (suc i)) Literal)
      (suc (suc (suc i))) closing) (part target 'processing_instruction' i blank blank blank)
  unfolding values test_of
  by_target g i = (refl, by_target_read s g i)

  -- `.` and `..`
  point :
      (k : Kind) (t : Token) (n : ℕ)
      → ((before : Tree) (i : ℕ) → held s L before (part k t i blank blank blank) ≡ node Step before none n 0)
      → is_kind k number ≡ false → ((g : Draft) (i : ℕ) → Stepping (mode_in g) → compose_token s g i t ≡ point_read whole n (path_from 22 g))
      → (g : Draft) (i : ℕ) → Walk s L 11 g (compose_token s g i t) (part k t i blank blank blank)
  unfolding values distinct
  point k t n holds plain h-reads g i l deep fs p before b c =
      let stepped : compose_token s g i t ≡ behind whole 1 l deep fs p (node Step before none n 0) =
      h-reads g i b.stepping ∙ pointed whole (mode_in g) n l deep fs p before (path_from 22 g) b.is in
      let v = walked whole l deep fs p (node Step before none n 0) (compose_token s g i t) had_whole b.below stepped in
      record { had = v.0; settles = v.1 ∙ rw (plain, holds before i) }

  -- a step behind `/` or `//`, whose effect on the draft is this
  next_step :
      (t : Token) (effect : Draft → Draft) → ((g : Draft) (j : ℕ) → Had (mode_in g) → compose_token s g j t ≡ effect (rest 10 g))
      → ((l : List Float) (deep : ℕ) (fs : List Frame) (p : Pen) (before : Tree) (g : Draft) → g ≡ behind M.part 1 l deep fs p before
      → effect g ≡ behind M.step 1 l deep fs p (descended t before))
      → (g g1 g2 : Draft) (i j : ℕ) (x y : Syntax) → Walk s L 10 g g1 x → Walk s L 11 (compose_token s g1 j t) g2 y
      → Walk s L 10 g g2 (part chain t i x blank y)
  unfolding held path_from has M.number
  next_step t effect h-reads moves g g1 g2 i j x y wx wy l deep fs p before b c =
      behind_left (wx l deep fs p before b (clean_first s L chain refl t i x y l c))
    where
      behind_left : Walked s L 10 l deep fs p before x g1 → Walked s L 10 l deep fs p before (part chain t i x blank y) g2
      behind_left v =
          let now : compose_token s g1 j t ≡ behind M.step 1 (distinct l (values s x)) deep fs p (descended t (held s L before x)) =
          h-reads g1 j v.had ∙ moves (distinct l (values s x)) deep fs p (held s L before x) (rest 10 g1) v.settles in
          let w : Walked s L 10 (distinct l (values s x)) deep fs p (descended t (held s L before x)) y g2 =
          first_step (compose_token s g1 j t) g2 y wy (distinct l (values s x)) deep fs p (descended t (held s L before x))
          (subst⁻¹ (Walking (distinct l (values s x)) deep fs p (descended t (held s L before x))) now
          (record { stepping = step_step; below = b.below; deep_enough = b.deep_enough; is = refl })) (clean_second s L chain refl t i x y l c) in
          record {
            had = w.had;
            settles =
                w.settles
                ∙ ap (λ (o : List Float). behind M.part 1 o deep fs p (held s L (descended t (held s L before x)) y))
                (sym (two_values s L chain refl t i x y l));
          }

  -- ---- predicates

  -- what a bracket holds is over the frame that it opened
  held_in :
      (close : Desk → Desk) (b : Token) → ((g : Draft) (i : ℕ) → Ready (mode_in g) → compose_token s g i b ≡ closed close (rest 1 g))
      → (l : List Float) (deep : ℕ) (f : Frame) (fs : List Frame) (p : Pen) (x : Syntax) (g : Draft) (j : ℕ) → may_fill 1 f ≡ false
      → (w : Whole s L 1 l deep f fs p x g)
      → compose_token s g j b
      ≡ behind_it s L l deep (f ∷ fs) x (close (desk (w.top ∷ fs) (in_hand s L x p)))
  held_in close b h-reads l deep f fs p x g j lo w =
      h-reads g j w.ready
      ∙ ap (closed close)
      (w.settles
      ∙ ap (behind_it s L l deep (f ∷ fs) x)
      (stays 1 w.top fs (in_hand s L x p) (same_fills 1 w.kept ∙ lo)))

  -- the row of a predicate
  square_closes :
      (x : Syntax) (fs : List Frame) (p : Pen) (top : Frame) → Same (sort s x) (frame 25 (link_of p) 0 0 0 0) top
      → close_square (desk (top ∷ fs) (in_hand s L x (emptied p))) ≡ desk fs (squared p (in_hand s L x p))
  unfolding close_square
  square_closes x fs p top kept =
      ap (λ (h : Frame). close_square (desk (h ∷ fs) (in_hand s L x (emptied p)))) (mark kept).1
      ∙ ap (λ (q : Pen). desk fs (squared p q)) (after_emptied (held s L none x) (sort s x) p)

  bracketed :
      (g g1 : Draft) (i j : ℕ) (x : Syntax) → Expression s L 1 1 (compose_token s g i '[') g1 x → Bracketed s L g (compose_token s g1 j ']') x
  unfolding may_fill strength_of
  bracketed g g1 i j x w l deep fs p e enough c = ended (w l deep (frame 25 (link_of p) 0 0 0 0) fs (emptied p) opened c)
    where
      same_paths_in : paths_in (frame 25 (link_of p) 0 0 0 0 ∷ fs) ≡ paths_in fs
      same_paths_in = no_path 25 (link_of p) 0 0 0 0 fs refl

      opened : Due 1 l deep (frame 25 (link_of p) 0 0 0 0) fs (emptied p) (compose_token s g i '[')
      opened =
          subst⁻¹ (Due 1 l deep (frame 25 (link_of p) 0 0 0 0) fs (emptied p))
          (ap (λ (o : Draft). compose_token s o i '[') e ∙ square_open s l deep fs p i)
          (due at_operand refl (le_refl 0) (subst⁻¹ (λ (n : ℕ). n ≤ deep) same_paths_in enough))

      ended : Whole s L 1 l deep (frame 25 (link_of p) 0 0 0 0) fs (emptied p) x g1
          → compose_token s g1 j ']' ≡ behind_it s L l deep fs x (desk fs (squared p (in_hand s L x p)))
      ended v =
          held_in close_square ']' (square_read_lem s) l deep (frame 25 (link_of p) 0 0 0 0) fs (emptied p) x g1 j refl v
          ∙ same_draft M.part 1 refl (ap (λ (n : ℕ). max deep (n + depth (held s L none x))) same_paths_in)
          (square_closes x fs p v.top v.kept)

  -- predicates, one by one
  no_more : (g : Draft) → Filtered s L g g blank
  unfolding held values distinct
  no_more g l deep fs p before e enough c = e

  more :
      (g g1 g2 : Draft) (i : ℕ) (x y : Syntax) → Bracketed s L g g1 x → Filtered s L g1 g2 y
      → Filtered s L g g2 (part predicates unknown i x blank y)
  unfolding held
  more g g1 g2 i x y wx wy l deep fs p before e enough c =
      let now : Tree = node Predicate before (as_predicate (sort s x) (held s L none x)) 0 0 in
      wy (distinct l (values s x)) deep fs p now
      (wx l (deeper deep fs before) fs (after before Unheld p) e (omega arith) (clean_first s L predicates refl unknown i x y l c)
      ∙ predicate_behind (distinct l (values s x)) deep fs p before (held s L none x) (sort s x)) enough
      (clean_second s L predicates refl unknown i x y l c)
      ∙ ap (λ (o : List Float). behind M.part 1 o deep fs p (held s L now y)) (sym (two_values s L predicates refl unknown i x y l))

  -- ---- a whole step

  full_step :
      (g g1 g2 g3 : Draft) (i : ℕ) (a t x : Syntax) → Specified s L g g1 a → Tested s L g1 g2 t → Filtered s L g2 g3 x
      → Walk s L 11 g g3 (part step unknown i a t x)
  unfolding held values
  full_step g g1 g2 g3 i a t x wa wt wx l deep fs p before b c =
      ended (wa.1 l (deeper deep fs before) (desk fs (after before Unheld p)) b.stepping b.is)
    where
      q : Pen
      q = after before Unheld p

      inner : List Frame
      inner = step_frame q (axis_of s a) (test_of s t) ∷ fs

      same_values : values s a ++ (values s t ++ values s x) ≡ values s x
      same_values = rw (wa.0, wt.0)

      ended :
          Testing (mode_in g1) × (path_from 22 g1 ≡ draft (mode_in g1) (axis_of s a) l (deeper deep fs before) (desk fs q))
          → Walked s L 11 l deep fs p before (part step unknown i a t x) g3
      ended v =
          let begun-so : g2 ≡ behind M.part 1 l (deeper deep fs before) inner q none =
          wt.1 v.0
          ∙ (ap (test_read M.part (test_of s t)) v.1
          ∙ (test_pushes (mode_in g1) (axis_of s a) (test_of s t) l (deeper deep fs before) fs q
          ∙ step_begun (axis_of s a) (test_of s t) l deep fs p before b.deep_enough)) in
          let paths : paths_in inner ≡ paths_in fs = no_path 24 (link_of q) (axis_of s a) (test_of s t) 0 0 fs refl in
          let enough : paths_in inner ≤ deeper deep fs before = omega (arith, b.deep_enough) in
          let filtered : g3 ≡ behind M.part 1 (distinct l (values s x)) (deeper deep fs before) inner q (held s L none x) =
          wx l (deeper deep fs before) inner q none begun-so enough (record {
            faultless = third_none s step unknown i a t x c.faultless;
            within = subst (λ (vs : List Float). Front (distinct l vs) L) same_values c.within;
          }) in
          let r = step_ends (axis_of s a) (test_of s t) (distinct l (values s x)) deep fs p before (held s L none x) g3 b.below filtered in
          record {
            had = r.0;
            settles =
                r.1
                ∙ ap (λ (vs : List Float). behind M.part 1 (distinct l vs) deep fs p
                (node Step before (held s L none x) (axis_of s a) (test_of s t))) (sym same_values);
          }

  -- ---- primary expressions

  -- followed by what binds as strongly as a path
  as_path_lem : (g g' : Draft) (x : Syntax) → Primary s L g g' x → Expression s L 9 9 g g' x
  unfolding rest settled
  as_path_lem g g' x w l deep f fs p b c =
      let v : Exact s L l deep f fs p x g' = w l deep f fs p b c in
      record {
        known = v.known;
        top = v.top;
        kept = v.kept;
        ready = subst⁻¹ (λ (o : Draft). Ready (mode_in o)) v.is ready_part;
        settles = ap (rest 9) v.is;
      }

  a_number : (g : Draft) (i : ℕ) → Primary s L g (compose_token s g i Number) (part number Number i blank blank blank)
  unfolding held sort values distinct faults own depth R.is_path code
  a_number g i l deep f fs p (due b lo op dp) c =
      let v : Float = value_at s.text (place s i) in record {
        known = refl;
        top = f;
        kept = same;
        is =
            number_read_lem s _ l deep f fs p i b
            ∙ same_draft M.part 1 refl (shallow_in deep (f ∷ fs) (node Literal none none (index_of L v) 0) dp refl)
            (ap (desk (f ∷ fs))
            (puts_literal (index_of l v) Numeral p
            ∙ ap (λ (n : ℕ). after (node Literal none none n 0) Numeral p)
            (index_settled l L v (value_equal s i (own_none s number Number i blank blank blank c.faultless)) c.within)));
      }

  -- ---- round brackets

  in_brackets :
      (g g1 : Draft) (i j : ℕ) (x : Syntax) → Expression s L 1 1 (compose_token s g i opening) g1 x
      → Primary s L g (compose_token s g1 j closing) (part group opening i blank blank x)
  unfolding held sort values paths_in
  in_brackets g g1 i j x w l deep (frame op a c d o t) fs p (due b lo h dp) cl =
      ended (w l deep (frame op a c d (o + 1) t) fs p inside (clean_inner s L group refl opening i x l cl))
    where
      inside : Due 1 l deep (frame op a c d (o + 1) t) fs p (compose_token s g i opening)
      inside =
          subst⁻¹ (Due 1 l deep (frame op a c d (o + 1) t) fs p) (group_read s _ l deep op a c d o t fs p i b)
          (due at_operand (opened_stays 1 op a c d o t) (omega arith) dp)

      ended :
          Whole s L 1 l deep (frame op a c d (o + 1) t) fs p x g1
          → Exact s L l deep (frame op a c d o t) fs p (part group opening i blank blank x) (compose_token s g1 j closing)
      ended v =
          let r : Closed op a c d o t fs (sort s x) (in_hand s L x p) (in_hand s L x p) v.top =
          group_closes op a c d o (o + 1) t fs (held s L none x) (sort s x) p v.top h refl v.kept in
          record {
            known = v.known;
            top = r.now;
            kept = r.kept;
            is =
                held_in close_round closing (round_read s) l deep (frame op a c d (o + 1) t) fs p x g1 j (opened_stays 1 op a c d o t) v
                ∙ same_draft M.part 1 refl refl r.is;
          }

  -- ---- calls

  -- position() and last()
  record Emptied (n : ℕ) (m : Mode) (l : List Float) (deep : ℕ) (f : Frame) (fs : List Frame) (p : Pen) (u : Sort) (t : Tree) : Type 0 where
    shallow : depth (called (function_at n) u t) ≡ 0
    known : true_sort (result_of (function_at n)) ≡ Truth
    is :
        call_read M.part n (draft m 1 l deep (desk (f ∷ fs) p))
        ≡ draft M.part 1 l deep (desk (f ∷ fs) (after (called (function_at n) u t) (result_of (function_at n)) p))

  -- by the function's number
  empty_by :
      (n : ℕ) (m : Mode) (l : List Float) (deep : ℕ) (f : Frame) (fs : List Frame) (p : Pen) (u : Sort) (t : Tree)
      → holds_call (function_at n) 0 ≡ true
      → Emptied n m l deep f fs p u t
  unfolding call_read with_pen called result_of holds_call depth R.is_path code is_literal
  empty_by zero m l deep f fs p u t e = record {
    shallow = refl;
    known = refl;
    is = ap (λ (q : Pen). draft M.part 1 l deep (desk (f ∷ fs) q)) (puts_none Position 0 0 Numeral p refl);
  }
  empty_by (suc zero) m l deep f fs p u t e = record {
    shallow = refl;
    known = refl;
    is = ap (λ (q : Pen). draft M.part 1 l deep (desk (f ∷ fs) q)) (puts_none Last 0 0 Numeral p refl);
  }
  empty_by (suc (suc zero)) m l deep f fs p u t e = absurd (subst T (sym e) tt)
  empty_by (suc (suc (suc zero))) m l deep f fs p u t e = absurd (subst T (sym e) tt)
  empty_by (suc (suc (suc (suc zero)))) m l deep f fs p u t e = absurd (subst T (sym e) tt)
  empty_by (suc (suc (suc (suc (suc n))))) m l deep f fs p u t e = absurd (subst T (sym e) tt)

  empty_call :
      (g : Draft) (i : ℕ)
      → Primary s L g (compose_token s (compose_token s (compose_token s g i FunctionName) (suc i) opening) (suc (suc i)) closing)
      (part call FunctionName i blank blank blank)
  unfolding held values distinct function_of arity
  empty_call g i l deep f fs p (due b lo op dp) c =
      let h : is_held_call s i blank ≡ true = held_call s i blank (own_none s call FunctionName i blank blank blank c.faultless) in
      let u : sort s (part call FunctionName i blank blank blank) ≡ result_of (function_at (numbered s i)) = call_sort_lem s i blank h in
      let r : Emptied (numbered s i) _ l deep f fs p (sort s blank) none = empty_by (numbered s i) _ l deep f fs p (sort s blank) none h in
      record {
        known = rw u r.known;
        top = f;
        kept = same;
        is =
            empty_read s _ l deep (desk (f ∷ fs) p) i b
            ∙ (r.is
            ∙ same_draft M.part 1 refl (shallow_in deep (f ∷ fs) (called (function_at (numbered s i)) (sort s blank) none) dp r.shallow)
            (ap (λ (v : Sort). desk (f ∷ fs) (after (called (function_at (numbered s i)) (sort s blank) none) v p)) (sym u)));
      }

  -- count() and not() have frames of their own, whose rows are written behind their argument
  argument_in :
      (op : ℕ) (finish : Pen → Pen) (t : Tree) (r : Sort) (l : List Float) (deep : ℕ) (f : Frame) (fs : List Frame) (p : Pen) (x : Syntax)
      (g : Draft) (j : ℕ)
      → is_path_op op ≡ false → may_fill 1 (frame op (link_of p) 0 0 0 0) ≡ false
      → ((a m : ℕ) (q : Pen) → close_round (desk (frame op a 0 0 0 m ∷ f ∷ fs) q) ≡ desk (f ∷ fs) (finish q))
      → finish (in_hand s L x (emptied p)) ≡ after t r (emptied p) → depth t ≡ depth (held s L none x) → paths_in (f ∷ fs) ≤ deep
      → Clean s L l x
      → Expression s L 1 1 (draft argument 1 l deep (desk (frame op (link_of p) 0 0 0 0 ∷ f ∷ fs) (emptied p))) g x
      → compose_token s g j closing ≡ draft M.part 1 (distinct l (values s x)) (deeper deep (f ∷ fs) t) (desk (f ∷ fs) (after t r p))
  argument_in op finish t r l deep f fs p x g j pathless loose closes finished same-depth enough c w =
      ended (w l deep waiting (f ∷ fs) (emptied p) (due at_argument loose (le_refl 0) (subst⁻¹ (λ (n : ℕ). n ≤ deep) paths enough)) c)
    where
      waiting : Frame
      waiting = frame op (link_of p) 0 0 0 0

      paths : paths_in (waiting ∷ f ∷ fs) ≡ paths_in (f ∷ fs)
      paths = no_path op (link_of p) 0 0 0 0 (f ∷ fs) pathless

      ended : Whole s L 1 l deep waiting (f ∷ fs) (emptied p) x g
          → compose_token s g j closing ≡ draft M.part 1 (distinct l (values s x)) (deeper deep (f ∷ fs) t) (desk (f ∷ fs) (after t r p))
      ended v =
          held_in close_round closing (round_read s) l deep waiting (f ∷ fs) (emptied p) x g j loose v
          ∙ same_draft M.part 1 refl (rw (paths, same-depth))
          (ap (λ (h : Frame). close_round (desk (h ∷ f ∷ fs) (in_hand s L x (emptied p)))) (mark v.kept).1
          ∙ (closes (link_of p) (mark v.kept).0 (in_hand s L x (emptied p)) ∙ ap (desk (f ∷ fs)) (finished ∙ after_emptied t r p)))

  -- behind a call of the n-th function with the argument x
  record Called (n : ℕ) (l : List Float) (deep : ℕ) (f : Frame) (fs : List Frame) (p : Pen) (x : Syntax) (g : Draft) : Type 0 where
    known : true_sort (result_of (function_at n)) ≡ Truth
    top : Frame
    kept : Same (result_of (function_at n)) f top
    is :
        g
        ≡ draft M.part 1 (distinct l (values s x)) (deeper deep (f ∷ fs) (called (function_at n) (sort s x) (held s L none x)))
        (desk (top ∷ fs) (after (called (function_at n) (sort s x) (held s L none x)) (result_of (function_at n)) p))

  full_by :
      (n : ℕ) (m : Mode) (l : List Float) (deep : ℕ) (f : Frame) (fs : List Frame) (p : Pen) (x : Syntax) (g1 : Draft) (j : ℕ)
      → holds_call (function_at n) (arity x) ≡ true → 0 < arity x
      → Open f → paths_in (f ∷ fs) ≤ deep → Clean s L l x
      → (arity x ≡ 1 → Expression s L 1 1 (call_read argument n (draft m 1 l deep (desk (f ∷ fs) p))) g1 x)
      → Called n l deep f fs p x (compose_token s g1 j closing)
  unfolding call_read push open_truth called result_of holds_call depth R.is_path code is_literal may_fill strength_of close_round paths_in
  full_by zero m l deep f fs p x g1 j e some op dp c w = absurd (let z : arity x ≡ 0 = eqb-true (arity x) 0 e in omega arith)
  full_by (suc zero) m l deep f fs p x g1 j e some op dp c w = absurd (let z : arity x ≡ 0 = eqb-true (arity x) 0 e in omega arith)
  full_by (suc (suc zero)) m l deep f fs p x g1 j e some op dp c w = record {
    known = refl;
    top = f;
    kept = same;
    is =
        argument_in 21 (over 21 Numeral) (node Count (held s L none x) none 0 0) Numeral l deep f fs p x g1 j refl refl (λ a m q. refl)
        (puts_one Count (held s L none x) 0 0 (sort s x) Numeral (emptied p) refl) (omega arith) dp c (w (eqb-true (arity x) 1 e));
  }
  full_by (suc (suc (suc zero))) m l deep f fs p x g1 j e some op dp c w =
      let t : Tree = as_truth (sort s x) (held s L none x) in record {
        known = refl;
        top = f;
        kept = same;
        is =
            argument_in 18 (λ q. over 18 Truth (truthful q)) (node Negation t none 0 0) Truth l deep f fs p x g1 j refl refl (λ a m q. refl)
            (ap (over 18 Truth) (truthful_after (held s L none x) (sort s x) (emptied p))
            ∙ puts_one Negation t 0 0 (true_sort (sort s x)) Truth (emptied p) refl)
            (rw (truth_depth (sort s x) (held s L none x)) (omega arith)) dp c (w (eqb-true (arity x) 1 e));
      }
  full_by (suc (suc (suc (suc zero)))) m l deep (frame op a c d o t) fs p x g1 j e some h dp cl w =
      let v : Whole s L 1 l deep (frame op a c d (o + 1) (o + 1)) fs p x g1 =
      w (eqb-true (arity x) 1 e) l deep (frame op a c d (o + 1) (o + 1)) fs p
      (due at_argument (opened_stays 1 op a c d o (o + 1)) (le_refl (o + 1)) dp) cl in
      let r : Closed op a c d o t fs Truth (in_hand s L x p) (after (as_truth (sort s x) (held s L none x)) Truth p) v.top =
      truth_closes op a c d o (o + 1) t fs (held s L none x) (sort s x) p v.top v.known refl v.kept in
      record {
        known = refl;
        top = r.now;
        kept = r.kept;
        is =
            held_in close_round closing (round_read s) l deep (frame op a c d (o + 1) (o + 1)) fs p x g1 j
            (opened_stays 1 op a c d o (o + 1)) v
            ∙ same_draft M.part 1 refl (rw (truth_depth (sort s x) (held s L none x))) r.is;
      }
  full_by (suc (suc (suc (suc (suc n))))) m l deep f fs p x g1 j e some op dp c w = absurd (subst T (sym e) tt)

  full_call :
      (g g1 : Draft) (i j : ℕ) (x : Syntax) → Argued s L (compose_token s (compose_token s g i FunctionName) (suc i) opening) g1 x
      → Primary s L g (compose_token s g1 j closing) (part call FunctionName i blank blank x)
  unfolding held values function_of
  full_call g g1 i j x w l deep f fs p (due b lo op dp) c =
      let h : is_held_call s i x ≡ true = held_call s i x (own_none s call FunctionName i blank blank x c.faultless) in
      let u : sort s (part call FunctionName i blank blank x) ≡ result_of (function_at (numbered s i)) = call_sort_lem s i x h in
      let r : Called (numbered s i) l deep f fs p x (compose_token s g1 j closing) =
      full_by (numbered s i) _ l deep f fs p x g1 j h w.0 op dp (clean_inner s L call refl FunctionName i x l c)
      (λ e. subst (λ (o : Draft). Expression s L 1 1 o g1 x) (full_read s _ l deep (desk (f ∷ fs) p) i b) (w.1 e)) in
      record {
        known = rw u r.known;
        top = r.top;
        kept = rw u r.kept;
        is =
            r.is ∙ ap
            (λ (v : Sort). draft M.part 1 (distinct l (values s x))
            (deeper deep (f ∷ fs) (called (function_at (numbered s i)) (sort s x) (held s L none x)))
            (desk (r.top ∷ fs) (after (called (function_at (numbered s i)) (sort s x) (held s L none x)) v p))) (sym u);
      }

  -- one argument, and more, which no call that is held has
  one_argument : (g g' : Draft) (i : ℕ) (x : Syntax) → Expression s L 1 1 g g' x → Argued s L g g' (part arguments unknown i blank blank x)
  unfolding held values sort arity faults own
  one_argument g g' i x w =
      (omega arith, (λ e l deep f fs p b c. pass_on (w l deep f fs p b (clean_inner s L arguments refl unknown i x l c))))
    where
      pass_on :
          {l : List Float} {deep : ℕ} {f : Frame} {fs : List Frame} {p : Pen} → Whole s L 1 l deep f fs p x g'
          → Whole s L 1 l deep f fs p (part arguments unknown i blank blank x) g'
      pass_on v = record { known = v.known; top = v.top; kept = v.kept; ready = v.ready; settles = v.settles }

  another_argument : (g g' : Draft) (i : ℕ) (x y : Syntax) → 0 < arity x → Argued s L g g' (part arguments unknown i x blank y)
  unfolding arity
  another_argument g g' i x y some = (omega arith, (λ e. absurd (omega arith)))

  -- ---- every production keeps its name's promise

  -- what is not held has no promise to keep
  not_held :
      {A : Type 0} (k : Kind) (t : Token) (i : ℕ) (a b c : Syntax) (l : List Float) → own s k t i a c ≡ fault s 26 i
      → Clean s L l (part k t i a b c) → A
  not_held k t i a b c l e cl = unheld (sym e ∙ own_none s k t i a b c cl.faultless)

  -- one production's proof, and those of the others
  infixr 2 ◌also◌
  ◌also◌ : {A B : Type 0} → A → B → A × B
  a also b = (a, b)

  -- in the table's order
  every : (n : Symbol) → Every (compose_token s) (view s L) (view s L n) (productions n) (readings n)
  unfolding productions readings made token_of own compose_token operation Tokens.code code strength_of is_literal tightness rows row_of operator_sort has M.number descended depth R.is_path held
  every (the t) = tt
  every LocationPath = (λ g i u. (tt, (λ g' j x w. location g g' i x w))) also passing (Expression s L 9 9) also tt
  every AbsoluteLocationPath =
      (λ g i u. alone g i)
      also (λ g i u. (tt, (λ g' j x w. from_root '/' root none emptied step_root refl refl refl (λ p. sym (after_none p)) (begins_root s) g g' i x w)))
      also passing (Expression s L 9 9)
      also tt
  every RelativeLocationPath =
      (λ g i u. (tt, (λ g' j x w. first_step g g' x w)))
      also (λ g i u. (tt, (λ g1 j x wx. (tt, (λ g2 n y wy. next_step '/' (moved M.step) (slash_read_lem s) slash_moves g g1 g2 i j x y wx wy)))))
      also passing (Walk s L 10)
      also tt
  every Step =
      (λ g i u. (tt, (λ g1 j a wa. (tt, (λ g2 n t wt. (tt, (λ g3 o x wx. full_step g g1 g2 g3 i a t x wa wt wx)))))))
      also passing (Walk s L 11)
      also tt
  every AxisSpecifier = (λ g i u. with_axis_lem g i) also passing (Specified s L) also tt
  every NodeTest =
      (λ g i u. by_name g i)
      also (λ g i u. by_type g i)
      also (λ g i u. by_instruction g i)
      also (λ g i u. by_target g i)
      also tt
  every Predicates = (λ g i u. no_more g) also (λ g i u. (tt, (λ g1 j x wx. (tt, (λ g2 n y wy. more g g1 g2 i x y wx wy))))) also tt
  every Predicate = (λ g i u. (tt, (λ g1 j x w. bracketed g g1 i j x w))) also tt
  every PredicateExpr = passing (Expression s L 1 1) also tt
  every AbbreviatedAbsoluteLocationPath =
      (λ g i u. (tt, (λ g' j x w. from_root '//' M.step (node Step none none 5 0) below_pen step_step refl refl refl below_row (begins_below s) g g' i x w)))
      also tt
  every AbbreviatedRelativeLocationPath =
      (λ g i u. (tt, (λ g1 j x wx. (tt, (λ g2 n y wy. next_step '//' (point_read M.step 5) (slashes_read s) slashes_move g g1 g2 i j x y wx wy)))))
      also tt
  every AbbreviatedStep =
      (λ g i u. point self dot 0 (λ b n. refl) refl (dot_read s) g i)
      also (λ g i u. point parent dots 2 (λ b n. refl) refl (dots_read s) g i)
      also tt
  every AbbreviatedAxisSpecifier = (λ g i u. with_at g i) also (λ g i u. without_axis g) also tt
  every Expr = passing (Expression s L 1 1) also tt
  every PrimaryExpr =
      (λ g i u l deep f fs p b c. not_held variable VariableReference i blank blank blank l refl c)
      also (λ g i u. (tt, (λ g1 j x w. in_brackets g g1 i j x w)))
      also (λ g i u l deep f fs p b c. not_held string Literal i blank blank blank l refl c)
      also (λ g i u. a_number g i)
      also passing (Primary s L)
      also tt
  every FunctionCall = (λ g i u. empty_call g i) also (λ g i u. (tt, (λ g1 j x w. full_call g g1 i j x w))) also tt
  every Arguments =
      (λ g i u. (tt, (λ g' j x w. one_argument g g' i x w)))
      also (λ g i u. (tt, (λ g1 j x wx. (tt, (λ g2 n y wy. another_argument g g2 i x y wx.0)))))
      also tt
  every Argument = passing (Expression s L 1 1) also tt
  every UnionExpr =
      lifting s L 8 9 8 9 tt tt
      also (λ g i u. (tt, (λ g1 j x wx. (tt, (λ g2 n y wy l deep f fs p b c. not_held union '|' i x blank y l refl c)))))
      also tt
  every PathExpr =
      passing (Expression s L 9 9)
      also (λ g i u. (tt, (λ g' j x w. as_path_lem g g' x w)))
      also (λ g i u. (tt, (λ g1 j x wx. (tt, (λ g2 n y wy l deep f fs p b c. not_held onward '/' i x blank y l refl c)))))
      also (λ g i u. (tt, (λ g1 j x wx. (tt, (λ g2 n y wy l deep f fs p b c. not_held onward '//' i x blank y l refl c)))))
      also tt
  every FilterExpr =
      passing (Primary s L)
      also (λ g i u. (tt, (λ g1 j x wx. (tt, (λ g2 n y wy l deep f fs p b c. not_held filter unknown i x blank y l refl c)))))
      also tt
  every OrExpr =
      lifting s L 1 2 1 2 tt tt
      also between s L 'or' 1 2 2 [] tt refl refl refl refl refl refl (λ g j r. refl) (λ a t q. refl) (λ i x y e h. refl)
      also tt
  every AndExpr =
      lifting s L 2 3 2 3 tt tt
      also between s L 'and' 2 3 3 [] tt refl refl refl refl refl refl (λ g j r. refl) (λ a t q. refl) (λ i x y e h. refl)
      also tt
  every EqualityExpr =
      lifting s L 3 4 3 4 tt tt
      also between s L '=' 3 4 4 [] tt refl refl refl refl refl refl (λ g j r. refl) (λ a t q. refl) (λ i x y e h. refl)
      also between s L '!=' 3 4 4 [] tt refl refl refl refl refl refl (λ g j r. refl) (λ a t q. refl) (λ i x y e h. refl)
      also tt
  every RelationalExpr =
      lifting s L 4 5 4 5 tt tt
      also between s L '<' 4 5 5 [] tt refl refl refl refl refl refl (λ g j r. refl) (λ a t q. refl) (λ i x y e h. refl)
      also between s L '>' 4 5 5 [] tt refl refl refl refl refl refl (λ g j r. refl) (λ a t q. refl) (λ i x y e h. refl)
      also between s L '<=' 4 5 5 [] tt refl refl refl refl refl refl (λ g j r. refl) (λ a t q. refl) (λ i x y e h. refl)
      also between s L '>=' 4 5 5 [] tt refl refl refl refl refl refl (λ g j r. refl) (λ a t q. refl) (λ i x y e h. refl)
      also tt
  every AdditiveExpr =
      lifting s L 5 6 5 6 tt tt
      also between s L '+' 5 6 6 [] tt refl refl refl refl refl refl (λ g j r. refl) (λ a t q. refl) (no_truth s '+' refl)
      also between s L '-' 5 6 6 (on signing (go operand) ∷ []) tt refl refl refl refl refl refl (by_minus s) (λ a t q. refl) (no_truth s '-' refl)
      also tt
  every MultiplicativeExpr =
      lifting s L 6 7 6 8 tt tt
      also between s L MultiplyOperator 6 7 8 [] tt refl refl refl refl refl refl (λ g j r. refl) (λ a t q. refl) (no_truth s MultiplyOperator refl)
      also between s L 'div' 6 7 8 [] tt refl refl refl refl refl refl (λ g j r. refl) (λ a t q. refl) (no_truth s 'div' refl)
      also between s L 'mod' 6 7 8 [] tt refl refl refl refl refl refl (λ g j r. refl) (λ a t q. refl) (no_truth s 'mod' refl)
      also tt
  every UnaryExpr = lifting s L 7 8 8 8 tt tt also (λ g i u. (tt, (λ g1 j x w. signs s L g g1 i x w))) also tt

-- ---- whole texts

-- all of a text was read: the rows of the tree t and these literals, on the bottom frame
pub record Ended (t : Tree) (l : List Float) (g : Draft) : Type 0 where
  pub bottom : Frame
  pub last : Sort
  pub is : rest 1 g ≡ draft M.part 1 l (depth t) (desk (bottom ∷ []) (pen (link 0 t) last (weight t) (written 0 t)))

-- the bottom frame is not filled
ended :
    (s : Source) (L : List Float) (x : Syntax) (g : Draft) → Whole s L 1 [] 0 (frame 0 0 0 0 0 0) [] (pen 0 Unheld 0 []) x g
    → Ended (held s L none x) (distinct [] (values s x)) g
unfolding after may_fill strength_of paths_in
ended s L x g w = record {
  bottom = w.top;
  last = sort s x;
  is =
      w.settles
      ∙ same_draft M.part 1 refl (omega arith)
      (stays 1 w.top [] (in_hand s L x (pen 0 Unheld 0 [])) (same_fills 1 w.kept)
      ∙ ap (λ (n : ℕ). desk (w.top ∷ []) (pen (link 0 (held s L none x)) (sort s x) n (written 0 (held s L none x))))
      (zero-add (weight (held s L none x))));
}

-- what is composed once the last frames are filled
taken : Draft → Composed
taken (draft m x l deep d) = composed (rows_on d) l deep

completed_rest : (g : Draft) → completed g ≡ taken (rest 1 g)
unfolding completed rest taken
completed_rest (draft m x l deep d) = refl

module _ (s : Source) (ts : List Token) (d : Sentence ts) (clean : text_faults s (syntax_of ts) ≡ []) where
  -- what the derivation stands for keeps the promise of the whole text
  stands_for :
      (L : List Float) → (x : Syntax) × Expression s L 1 1 unwritten (read_all (compose_token s) unwritten 0 ts) x × (stand_for d 0 ≡ x ∷ [])
  stands_for L =
      reads (compose_token s) (view s L) (λ t. refl) (every s L) d
      (λ g' j xs. (x : Syntax) × Expression s L 1 1 unwritten g' x × (xs ≡ x ∷ [])) unwritten 0
      (tt, (λ g' j x w. (x, w, refl)))

  -- composing ends with the rows of the text's tree
  pub composing_ends : Ended (tree_of s (syntax_of ts)) (literals_of s (syntax_of ts)) (read_all (compose_token s) unwritten 0 ts)
  unfolding tree_of literals_of text_faults may_fill strength_of paths_in
  composing_ends = by (stands_for (literals_of s (syntax_of ts)))
    where
      by :
          (x : Syntax) × Expression s (literals_of s (syntax_of ts)) 1 1 unwritten (read_all (compose_token s) unwritten 0 ts) x
          × (stand_for d 0 ≡ x ∷ [])
          → Ended (tree_of s (syntax_of ts)) (literals_of s (syntax_of ts)) (read_all (compose_token s) unwritten 0 ts)
      by (x, w, q) =
          let e : x ≡ syntax_of ts = ap (λ (l : List Syntax). get_or l 0 blank) (sym q ∙ the_tree ts d) in
          let v : Expression s (literals_of s (syntax_of ts)) 1 1 unwritten (read_all (compose_token s) unwritten 0 ts) (syntax_of ts) =
          rw e at w in
          ended s (literals_of s (syntax_of ts)) (syntax_of ts) (read_all (compose_token s) unwritten 0 ts)
          (v [] 0 (frame 0 0 0 0 0 0) [] (pen 0 Unheld 0 []) (due at_operand refl (le_refl 0) (le_refl 0))
          (record {
            faultless = no_back (as_path s (syntax_of ts)) (faults s (syntax_of ts)) clean;
            within = front_all (literals_of s (syntax_of ts));
          }))

  -- the rows, the literals and the depth of a text without faults
  pub composed_right :
      composed_of s ts ≡ composed (written 0 (tree_of s (syntax_of ts))) (literals_of s (syntax_of ts)) (depth (tree_of s (syntax_of ts)))
  unfolding composed_of taken rows_on
  composed_right = completed_rest (read_all (compose_token s) unwritten 0 ts) ∙ ap taken composing_ends.is
