-- What composing does to a draft whatever the tokens are: where an operand, a step or a node test is due, the frame on top, paths that begin
-- and end, steps and predicates behind others, round brackets that close.
-- Assumes nothing.
use Prim.Native.Nat.{ℕ, ◌+◌, ◌-◌, max, ◌≤◌}
use mathlib.Core.Path.{◌≡◌, refl, sym, ◌∙◌, ap, subst⁻¹}
use mathlib.Core.Bool.{Bool, true, false, ◌&&◌, cond}
use mathlib.Core.List.{List, [], ◌∷◌}
use native.Mathlib.Omega.{arith}
use native.Mathlib.Nat.{zero-add}
use lib.Dec.{T, eqb, leb}
use lib.Ieee.{Float}
use borrow.Author.Tests.{lt-ltb, ne_eqb, eq-eqb}
use Rattle.meaning.specs.Rows.{code, is_literal}
use Rattle.meaning.specs.declared.Op.{Op}
use Rattle.meaning.specs.declared.Op.TheVariants.{Absolute, Predicate, Relative, Step}
use Rattle.meaning.specs.Rows as R
use Rattle.meaning.specs.Tree.{Tree, none, node, depth}
use Rattle.text.specs.declared.Sort.{Sort}
use Rattle.text.specs.declared.Sort.TheVariants.{Truth, Nodes, Unheld}
use Rattle.text.specs.Grammar.{'/', '//'}
use Rattle.text.specs.Machine.{Mode, operand, argument, root, whole, has}
use Rattle.text.specs.Machine as M
use Rattle.text.specs.Reading.{as_truth, as_predicate, descended}
use Rattle.text.specs.Tokens as Tokens
use Rattle.text.specs.Composing.{Frame, frame, Pen, pen, Desk, desk, Draft, draft, put, link_of, truthful, predicable, emptied, strength_of, row_of, may_fill, settle, settled, push, close_round, is_path_op, paths_in, paths_on, path_from, point_read, axis_read, test_read, moved, mode_in}
use Rattle.text.proofs.Composition.Pens.{after, after_none, puts, puts_one, puts_none, true_sort, truthful_after, predicate_sort, predicable_after, predicate_depth, fill_higher, stays, fills, rest, same_draft, again}

-- ---- modes

-- an operand is due; a step is due; a node test is due; an operand is there; a step is there
pub data Beginning : Mode → Type 0 where
  at_operand : Beginning operand
  at_argument : Beginning argument

pub data Stepping : Mode → Type 0 where
  step_operand : Stepping operand
  step_argument : Stepping argument
  step_root : Stepping root
  step_step : Stepping M.step

pub data Testing : Mode → Type 0 where
  test_operand : Testing operand
  test_argument : Testing argument
  test_root : Testing root
  test_step : Testing M.step
  test_test : Testing M.test

pub data Ready : Mode → Type 0 where
  ready_root : Ready root
  ready_whole : Ready whole
  ready_part : Ready M.part

pub data Had : Mode → Type 0 where
  had_whole : Had whole
  had_part : Had M.part

pub had_ready : {m : Mode} → Had m → Ready m
had_ready had_whole = ready_whole
had_ready had_part = ready_part

-- ---- the frame on top

-- the same frame; where a truth is in hand, which boolean() was the last does not matter any more
pub data Same (u : Sort) : Frame → Frame → Type 0 where
  same : {f : Frame} → Same u f f
  told : {op a c d o t t' : ℕ} → u ≡ Truth → Same u (frame op a c d o t) (frame op a c d o t')

-- the same frame is filled by the same, and counts the same
pub same_fills : {u : Sort} {f f' : Frame} (k : ℕ) → Same u f f' → may_fill k f' ≡ may_fill k f
unfolding may_fill
same_fills k same = refl
same_fills k (told e) = refl

pub same_paths : {u : Sort} {f f' : Frame} (fs : List Frame) → Same u f f' → paths_in (f' ∷ fs) ≡ paths_in (f ∷ fs)
unfolding paths_in
same_paths fs same = refl
same_paths fs (told e) = refl

pub same_sort : {u v : Sort} {f f' : Frame} → (u ≡ Truth → v ≡ Truth) → Same u f f' → Same v f f'
same_sort h same = same
same_sort h (told e) = told (h e)

-- only the mark differs
pub mark : {u : Sort} {op a c d o t : ℕ} {f : Frame} → Same u (frame op a c d o t) f → (m : ℕ) × (f ≡ frame op a c d o m)
mark {t = t} same = (t, refl)
mark (told {t' = m} e) = (m, refl)

-- only the frames of paths count
pub no_path : (op a c d o t : ℕ) (fs : List Frame) → is_path_op op ≡ false → paths_in (frame op a c d o t ∷ fs) ≡ paths_in fs
unfolding paths_in
no_path op a c d o t fs e = rw e (zero-add (paths_in fs))

a_path : (op a c d o t : ℕ) (fs : List Frame) → is_path_op op ≡ true → paths_in (frame op a c d o t ∷ fs) ≡ 1 + paths_in fs
unfolding paths_in
a_path op a c d o t fs e = rw e

-- the last boolean() of a frame is open
abbrev pub Open : Frame → Type 0
Open (frame op a c d o t) = t ≤ o

-- an operand is due on the frame f, which is not filled before what binds as strongly as k
pub data Due (k : ℕ) (l : List Float) (deep : ℕ) (f : Frame) (fs : List Frame) (p : Pen) : Draft → Type 0 where
  due :
      {m : Mode} → Beginning m → may_fill k f ≡ false → Open f → paths_in (f ∷ fs) ≤ deep
      → Due k l deep f fs p (draft m 1 l deep (desk (f ∷ fs) p))

-- ---- behind steps and predicates

-- the paths around each other with this tree
abbrev pub deeper : ℕ → List Frame → Tree → ℕ
deeper deep fs t = max deep (paths_in fs + depth t)

-- the draft behind the steps or predicates `before`, in this mode and with this axis
abbrev pub behind : Mode → ℕ → List Float → ℕ → List Frame → Pen → Tree → Draft
behind m x l deep fs p before = draft m x l (deeper deep fs before) (desk fs (after before Unheld p))

-- the frame on top is not filled by what binds as strongly as `/`
abbrev Below : List Frame → Type 0
Below [] = ⊥
Below (f ∷ fs) = may_fill 10 f ≡ false

-- a step is due behind the steps `before`; a path begins with it where an operand is due
pub record Walking (l : List Float) (deep : ℕ) (fs : List Frame) (p : Pen) (before : Tree) (g : Draft) : Type 0 where
  pub stepping : Stepping (mode_in g)
  pub below : Below fs
  pub deep_enough : paths_in fs ≤ deep
  pub is : path_from 22 g ≡ behind (mode_in g) 1 l deep fs p before

-- what binds as strongly as a step fills none of the frames
pub stays_below : (k : ℕ) → T (leb 10 k) → (fs : List Frame) (q : Pen) → Below fs → settle k fs q ≡ desk fs q
stays_below k h [] q b = absurd b
stays_below k h (f ∷ fs) q b = stays k f fs q (fill_higher 10 k f h b)

-- a step that is there, with nothing to fill
pub walked :
    (m : Mode) (l : List Float) (deep : ℕ) (fs : List Frame) (p : Pen) (t : Tree) (g : Draft) → Had m → Below fs
    → g ≡ behind m 1 l deep fs p t
    → Had (mode_in g) × (rest 11 g ≡ behind M.part 1 l deep fs p t)
unfolding rest settled
walked m l deep fs p t g h b e =
    subst⁻¹ (λ (o : Draft). Had (mode_in o) × (rest 11 o ≡ behind M.part 1 l deep fs p t)) e
    (h, ap (draft M.part 1 l (deeper deep fs t)) (stays_below 11 tt fs (after t Unheld p) b))

-- a step without predicates behind others
pub pointed :
    (m o : Mode) (n : ℕ) (l : List Float) (deep : ℕ) (fs : List Frame) (p : Pen) (before : Tree) (g : Draft)
    → g ≡ behind o 1 l deep fs p before
    → point_read m n g ≡ behind m 1 l deep fs p (node Step before none n 0)
unfolding point_read depth R.is_path code is_literal
pointed m o n l deep fs p before g e =
    ap (point_read m n) e
    ∙ same_draft m 1 refl (omega arith) (ap (desk fs) (puts_one Step before n 0 Unheld Unheld p refl))

-- ---- paths

-- the ops of paths, and the frame of one
pub data PathOp : Op → Type 0 where
  is_relative : PathOp Relative
  is_absolute_lem : PathOp Absolute

abbrev pub path_frame : Op → Pen → Frame
path_frame op p = frame (code op) (link_of p) 0 0 0 0

-- the paths around each other where one begins
abbrev pub begun : ℕ → Frame → List Frame → ℕ
begun deep f fs = max deep (paths_in (f ∷ fs) + 1)

path_counts : {op : Op} → PathOp op → (p : Pen) (fs : List Frame) → paths_in (path_frame op p ∷ fs) ≡ 1 + paths_in fs
unfolding code
path_counts is_relative p fs = a_path 22 (link_of p) 0 0 0 0 fs refl
path_counts is_absolute_lem p fs = a_path 23 (link_of p) 0 0 0 0 fs refl

path_below : {op : Op} → PathOp op → (p : Pen) → may_fill 10 (path_frame op p) ≡ false
unfolding code may_fill strength_of
path_below is_relative p = refl
path_below is_absolute_lem p = refl

pub path_fills : {op : Op} → PathOp op → (p : Pen) → may_fill 9 (path_frame op p) ≡ true
unfolding code may_fill strength_of
path_fills is_relative p = refl
path_fills is_absolute_lem p = refl

path_row : {op : Op} → PathOp op → (p : Pen) (t : Tree) → row_of (path_frame op p) (after t Unheld p) ≡ after (node op t none 0 0) Nodes p
unfolding code row_of is_literal
path_row is_relative p t = puts_one Relative t 0 0 Unheld Nodes p refl
path_row is_absolute_lem p t = puts_one Absolute t 0 0 Unheld Nodes p refl

pub path_depth : {op : Op} → PathOp op → (t : Tree) → depth (node op t none 0 0) ≡ depth t + 1
unfolding depth R.is_path code
path_depth is_relative t = omega arith
path_depth is_absolute_lem t = omega arith

-- a path ends behind its steps
pub closes_path :
    {op : Op} → PathOp op → (l : List Float) (deep : ℕ) (f : Frame) (fs : List Frame) (p : Pen) (t : Tree) (g : Draft)
    → rest 10 g ≡ behind M.part 1 l (begun deep f fs) (path_frame op p ∷ f ∷ fs) p t
    → rest 9 g ≡ draft M.part 1 l (deeper deep (f ∷ fs) (node op t none 0 0)) (settle 9 (f ∷ fs) (after (node op t none 0 0) Nodes p))
unfolding rest settled
closes_path {op} o l deep f fs p t g e =
    sym (again 9 10 tt g)
    ∙ (ap (rest 9) e
    ∙ same_draft M.part 1 refl
    (let c : paths_in (path_frame op p ∷ f ∷ fs) ≡ 1 + paths_in (f ∷ fs) = path_counts o p (f ∷ fs) in rw (c, path_depth o t) (omega arith))
    (fills 9 (path_frame op p) (f ∷ fs) (after t Unheld p) (path_fills o p) ∙ ap (settle 9 (f ∷ fs)) (path_row o p t)))

-- steps of a path that has begun
pub path_walking :
    {op : Op} → PathOp op → (l : List Float) (deep : ℕ) (f : Frame) (fs : List Frame) (p q : Pen) (before : Tree) (g : Draft)
    → Stepping (mode_in g)
    → path_from 22 g ≡ draft (mode_in g) 1 l (begun deep f fs) (desk (path_frame op p ∷ f ∷ fs) q) → q ≡ after before Unheld p → depth before ≡ 0
    → Walking l (begun deep f fs) (path_frame op p ∷ f ∷ fs) p before g
path_walking {op} o l deep f fs p q before g st e b d =
    let c : paths_in (path_frame op p ∷ f ∷ fs) ≡ 1 + paths_in (f ∷ fs) = path_counts o p (f ∷ fs) in record {
      stepping = st;
      below = path_below o p;
      deep_enough = omega arith;
      is = e ∙ same_draft (mode_in g) 1 refl (rw (c, d) (omega arith)) (ap (desk (path_frame op p ∷ f ∷ fs)) b);
    }

-- a path begins with its first step
pub relative_walking :
    {m : Mode} (l : List Float) (deep : ℕ) (f : Frame) (fs : List Frame) (p : Pen) → Beginning m
    → Walking l (begun deep f fs) (path_frame Relative p ∷ f ∷ fs) p none (draft m 1 l deep (desk (f ∷ fs) p))
unfolding path_from paths_on push has M.number code depth
relative_walking l deep f fs p at_operand =
    path_walking is_relative l deep f fs p (emptied p) none (draft operand 1 l deep (desk (f ∷ fs) p)) step_operand refl
    (sym (after_none p)) refl
relative_walking l deep f fs p at_argument =
    path_walking is_relative l deep f fs p (emptied p) none (draft argument 1 l deep (desk (f ∷ fs) p)) step_argument refl
    (sym (after_none p)) refl

-- the row of `/` alone, and of the step of a `//` that begins a path
pub root_row : (p : Pen) → row_of (path_frame Absolute p) (emptied p) ≡ after (node Absolute none none 0 0) Nodes p
unfolding row_of code is_literal put
root_row (pen l u n out) = puts_none Absolute 0 0 Nodes (pen l u n out) refl

abbrev pub below_pen : Pen → Pen
below_pen p = put 24 (link_of (emptied p)) 0 5 0 Unheld (emptied p)

pub below_row : (p : Pen) → below_pen p ≡ after (node Step none none 5 0) Unheld p
unfolding code is_literal put
below_row (pen l u n out) = puts_none Step 5 0 Unheld (pen l u n out) refl

-- ---- steps

-- behind an axis a node test is due
pub specified :
    (n : ℕ) (g g' : Draft) → g' ≡ axis_read M.test n (path_from 22 g) → (l : List Float) (deep : ℕ) (d : Desk)
    → path_from 22 g ≡ draft (mode_in g) 1 l deep d
    → Testing (mode_in g') × (path_from 22 g' ≡ draft (mode_in g') n l deep d)
unfolding axis_read path_from has M.number
specified n g g' e l deep d h =
    subst⁻¹ (λ (o : Draft). Testing (mode_in o) × (path_from 22 o ≡ draft (mode_in o) n l deep d)) (e ∙ ap (axis_read M.test n) h)
    (test_test, refl)

pub step_test : {m : Mode} → Stepping m → Testing m
step_test step_operand = test_operand
step_test step_argument = test_argument
step_test step_root = test_root
step_test step_step = test_step

-- a step without predicates does not depend on the mode before it
pub point_mode :
    (m n o : Mode) (c x : ℕ) (l : List Float) (deep : ℕ) (d : Desk) → point_read m c (draft n x l deep d) ≡ point_read m c (draft o x l deep d)
unfolding point_read
point_mode m n o c x l deep (desk fs p) = refl

-- `/` and `//` behind steps
pub slash_moves :
    (l : List Float) (deep : ℕ) (fs : List Frame) (p : Pen) (t : Tree) (g : Draft) → g ≡ behind M.part 1 l deep fs p t
    → moved M.step g ≡ behind M.step 1 l deep fs p (descended '/' t)
unfolding moved descended Tokens.code
slash_moves l deep fs p t g e = ap (moved M.step) e

pub slashes_move :
    (l : List Float) (deep : ℕ) (fs : List Frame) (p : Pen) (t : Tree) (g : Draft) → g ≡ behind M.part 1 l deep fs p t
    → point_read M.step 5 g ≡ behind M.step 1 l deep fs p (descended '//' t)
unfolding descended Tokens.code
slashes_move l deep fs p t g e = pointed M.step M.part 5 l deep fs p t g e

-- the frame of a step behind the pen q
abbrev pub step_frame : Pen → ℕ → ℕ → Frame
step_frame q n test = frame 24 (link_of q) n test 0 0

pub test_pushes :
    (m : Mode) (n test : ℕ) (l : List Float) (deep : ℕ) (fs : List Frame) (q : Pen)
    → test_read M.part test (draft m n l deep (desk fs q)) ≡ draft M.part 1 l deep (desk (step_frame q n test ∷ fs) (emptied q))
unfolding test_read push
test_pushes m n test l deep fs q = refl

-- behind its node test, with no predicate yet
pub step_begun :
    (n test : ℕ) (l : List Float) (deep : ℕ) (fs : List Frame) (p : Pen) (before : Tree) → paths_in fs ≤ deep
    → draft M.part 1 l (deeper deep fs before) (desk (step_frame (after before Unheld p) n test ∷ fs) (emptied (after before Unheld p)))
    ≡ behind M.part 1 l (deeper deep fs before) (step_frame (after before Unheld p) n test ∷ fs) (after before Unheld p) none
unfolding depth
step_begun n test l deep fs p before enough =
    let e : paths_in (step_frame (after before Unheld p) n test ∷ fs) ≡ paths_in fs =
    no_path 24 (link_of (after before Unheld p)) n test 0 0 fs refl in
    same_draft M.part 1 refl (rw e (omega arith))
    (ap (desk (step_frame (after before Unheld p) n test ∷ fs)) (sym (after_none (after before Unheld p))))

-- behind its predicates
pub step_ends :
    (n test : ℕ) (l : List Float) (deep : ℕ) (fs : List Frame) (p : Pen) (before t : Tree) (g : Draft) → Below fs
    → g ≡ behind M.part 1 l (deeper deep fs before) (step_frame (after before Unheld p) n test ∷ fs) (after before Unheld p) t
    → Had (mode_in g) × (rest 11 g ≡ behind M.part 1 l deep fs p (node Step before t n test))
unfolding rest settled depth R.is_path code is_literal row_of may_fill strength_of
step_ends n test l deep fs p before t g b e =
    let q : Pen = after before Unheld p in
    let c : paths_in (step_frame q n test ∷ fs) ≡ paths_in fs = no_path 24 (link_of q) n test 0 0 fs refl in
    subst⁻¹ (λ (o : Draft). Had (mode_in o) × (rest 11 o ≡ behind M.part 1 l deep fs p (node Step before t n test))) e (
      had_part,
      same_draft M.part 1 refl (rw c (omega arith))
          (fills 11 (step_frame q n test) fs (after t Unheld q) refl
          ∙ (ap (settle 11 fs) (puts Step before t n test Unheld Unheld Unheld p refl)
          ∙ stays_below 11 tt fs (after (node Step before t n test) Unheld p) b)),
    )

-- ---- brackets

-- a bracket closes behind an expression
abbrev pub closed : (Desk → Desk) → Draft → Draft
closed f (draft m x l deep d) = draft M.part x l deep (f d)

-- `]` behind a predicate whose value is in hand
abbrev pub squared : Pen → Pen → Pen
squared p q = put 25 (link_of p) (link_of (predicable q)) 0 0 Unheld (predicable q)

-- a predicate's row behind those before it
pub predicate_behind :
    (l : List Float) (deep : ℕ) (fs : List Frame) (p : Pen) (before t : Tree) (u : Sort)
    → draft M.part 1 l (deeper (deeper deep fs before) fs t) (desk fs (squared (after before Unheld p) (after t u (after before Unheld p))))
    ≡ behind M.part 1 l deep fs p (node Predicate before (as_predicate u t) 0 0)
unfolding depth R.is_path code is_literal
predicate_behind l deep fs p before t u =
    same_draft M.part 1 refl (rw (predicate_depth u t) (omega arith))
    (ap (desk fs)
    (ap (λ (q : Pen). put 25 (link_of (after before Unheld p)) (link_of q) 0 0 Unheld q) (predicable_after t u (after before Unheld p))
    ∙ puts Predicate before (as_predicate u t) 0 0 Unheld (predicate_sort u) Unheld p refl))

-- a tree without paths is not deep
pub shallow_in : (deep : ℕ) (fs : List Frame) (t : Tree) → paths_in fs ≤ deep → depth t ≡ 0 → deep ≡ deeper deep fs t
shallow_in deep fs t enough e = rw e (omega arith)

-- a frame with an open bracket is not filled
pub opened_stays : (k op a c d o t : ℕ) → may_fill k (frame op a c d (o + 1) t) ≡ false
unfolding may_fill
opened_stays k op a c d o t = rw (ne_eqb (o + 1) 0 (λ e. omega arith)) (and-false (leb k (strength_of op)))
  where
    and-false : (b : Bool) → (b && false) ≡ false
    and-false true = refl
    and-false false = refl

-- `)` of a group or of boolean()
round_closes :
    (op a c d o t : ℕ) (fs : List Frame) (q : Pen)
    → close_round (desk (frame op a c d (o + 1) t ∷ fs) q) ≡ desk (frame op a c d o t ∷ fs) (cond (eqb (o + 1) t) (truthful q) q)
unfolding close_round
round_closes op a c d o t fs q = let e : o + 1 - 1 ≡ o = omega arith in rw (lt-ltb 0 (o + 1) (omega arith), e)

-- a truth in hand stays as it is
still_true : (b : Bool) (t : Tree) (u : Sort) (p : Pen) → u ≡ Truth → cond b (truthful (after t u p)) (after t u p) ≡ after (as_truth u t) u p
unfolding as_truth
still_true true t u p e = truthful_after t u p ∙ rw e
still_true false t u p e = rw e

-- the frame behind a bracket that closes, with what is then in hand
pub record Closed (op a c d o t : ℕ) (fs : List Frame) (u : Sort) (before after-it : Pen) (top : Frame) : Type 0 where
  pub now : Frame
  pub kept : Same u (frame op a c d o t) now
  pub is : close_round (desk (top ∷ fs) before) ≡ desk (now ∷ fs) after-it

-- a group leaves what is in hand as it is
pub group_closes :
    (op a c d o o' t : ℕ) (fs : List Frame) (x : Tree) (u : Sort) (p : Pen) (top : Frame) → t ≤ o → o' ≡ o + 1
    → Same u (frame op a c d o' t) top
    → Closed op a c d o t fs u (after x u p) (after x u p) top
unfolding as_truth
group_closes op a c d o o' t fs x u p top h e same = record {
  now = frame op a c d o t;
  kept = same;
  is = rw e (round_closes op a c d o t fs (after x u p) ∙ rw (ne_eqb (o + 1) t (λ z. omega arith)));
}
group_closes op a c d o o' t fs x u p top h e (told {t' = t'} y) = record {
  now = frame op a c d o t';
  kept = told y;
  is = rw e (round_closes op a c d o t' fs (after x u p) ∙ ap (desk (frame op a c d o t' ∷ fs)) (still_true (eqb (o + 1) t') x u p y ∙ rw y));
}

-- boolean() makes it a truth
pub truth_closes :
    (op a c d o o' t : ℕ) (fs : List Frame) (x : Tree) (u : Sort) (p : Pen) (top : Frame) → true_sort u ≡ Truth → o' ≡ o + 1
    → Same u (frame op a c d o' o') top
    → Closed op a c d o t fs Truth (after x u p) (after (as_truth u x) Truth p) top
truth_closes op a c d o o' t fs x u p top h e same = record {
  now = frame op a c d o (o + 1);
  kept = told refl;
  is = rw e (round_closes op a c d o (o + 1) fs (after x u p) ∙ rw (eq-eqb (o + 1) (o + 1) refl, truthful_after x u p, h));
}
truth_closes op a c d o o' t fs x u p top h e (told {t' = t'} y) = record {
  now = frame op a c d o t';
  kept = told refl;
  is =
      rw e (round_closes op a c d o t' fs (after x u p)
      ∙ ap (desk (frame op a c d o t' ∷ fs)) (still_true (eqb (o + 1) t') x u p y ∙ ap (λ (v : Sort). after (as_truth u x) v p) y));
}
