-- What composing promises of each name of the grammar, for constructs without faults: the rows of their trees are written. L is the literals
-- of the whole text.
-- Assumes nothing.
use Prim.Native.Nat.{ℕ, ◌≤◌, ◌<◌}
use mathlib.Core.Path.{◌≡◌, sym, ◌∙◌, ap, subst}
use mathlib.Core.Bool.{false}
use mathlib.Core.List.{List, [], ◌∷◌}
use lib.Dec.{T, leb}
use lib.Ieee.{Float}
use Rattle.meaning.specs.Tree.{Tree, none}
use Rattle.text.specs.declared.Sort.TheVariants.{Truth}
use Rattle.text.specs.Grammar.{Token}
use Rattle.text.specs.Grammar.{Symbol, the, LocationPath, AbsoluteLocationPath, RelativeLocationPath, Step, AxisSpecifier, NodeTest, Predicates, Predicate, PredicateExpr, AbbreviatedAbsoluteLocationPath, AbbreviatedRelativeLocationPath, AbbreviatedStep, AbbreviatedAxisSpecifier, Expr, PrimaryExpr, FunctionCall, Arguments, Argument, UnionExpr, PathExpr, FilterExpr, OrExpr, AndExpr, EqualityExpr, RelationalExpr, AdditiveExpr, MultiplicativeExpr, UnaryExpr}
use Rattle.text.specs.Machine as M
use Rattle.text.specs.Syntax.{Kind, number, is_kind, Syntax, blank, part}
use Rattle.text.specs.Limited.{Source, arity, sort, faults}
use Rattle.text.specs.Reading.{values, distinct, axis_of, test_of, held}
use Rattle.text.specs.Composing.{Frame, Pen, Desk, desk, Draft, draft, settle, settled, paths_in, path_from, test_read, mode_in}
use Rattle.text.proofs.Scheme.{View, a_token, a_name}
use Rattle.text.proofs.Composition.Literals.{Front, front_first, distinct_append}
use Rattle.text.proofs.Composition.Pens.{after, true_sort, fill_higher, twice, rest, again}
use Rattle.text.proofs.Composition.Drafts.{Stepping, Testing, Ready, Had, Same, Due, deeper, behind, Walking, squared, due}
use Rattle.text.proofs.Composition.Faultless.{first_none, third_none}

-- a name with no demand
abbrev promising : (Draft → Draft → Syntax → Type 0) → View Draft
promising Q = a_name (λ g i. Unit {0}) (λ g i g' j x. Q g g' x)

-- a name that stands for another
abbrev passes : (Draft → Draft → Syntax → Type 0) → (Draft → Draft → Syntax → Type 0) → Type 0
passes Q P = (g : Draft) (i : ℕ) → Unit {0} → Unit {0} × ((g' : Draft) (j : ℕ) (x : Syntax) → Q g g' x → P g g' x)

pub passing : (Q : Draft → Draft → Syntax → Type 0) → passes Q Q
passing Q g i u = (tt, (λ g' j x w. w))

-- ---- promises

module _ (s : Source) (L : List Float) where
  -- a construct without faults behind the literals l, all of whose literals are among L
  pub record Clean (l : List Float) (x : Syntax) : Type 0 where
    pub faultless : faults s x ≡ []
    pub within : Front (distinct l (values s x)) L

  -- x is in hand; and the draft behind x, with this desk
  abbrev pub in_hand : Syntax → Pen → Pen
  in_hand x p = after (held s L none x) (sort s x) p

  abbrev pub behind_it : List Float → ℕ → List Frame → Syntax → Desk → Draft
  behind_it l deep fs x d = draft M.part 1 (distinct l (values s x)) (deeper deep fs (held s L none x)) d

  -- what binds as strongly as k finds x over the frames
  pub record Whole (k : ℕ) (l : List Float) (deep : ℕ) (f : Frame) (fs : List Frame) (p : Pen) (x : Syntax) (g : Draft) : Type 0 where
    pub known : true_sort (sort s x) ≡ Truth
    pub top : Frame
    pub kept : Same (sort s x) f top
    pub ready : Ready (mode_in g)
    pub settles :
        rest k g
        ≡ behind_it l deep (f ∷ fs) x (settle k (top ∷ fs) (in_hand x p))

  -- x itself is over the frames
  pub record Exact (l : List Float) (deep : ℕ) (f : Frame) (fs : List Frame) (p : Pen) (x : Syntax) (g : Draft) : Type 0 where
    pub known : true_sort (sort s x) ≡ Truth
    pub top : Frame
    pub kept : Same (sort s x) f top
    pub is :
        g
        ≡ behind_it l deep (f ∷ fs) x (desk (top ∷ fs) (in_hand x p))

  -- the same of steps behind those before them
  pub record Walked (k : ℕ) (l : List Float) (deep : ℕ) (fs : List Frame) (p : Pen) (before : Tree) (x : Syntax) (g : Draft) : Type 0 where
    pub had : Had (mode_in g)
    pub settles : rest k g ≡ behind M.part 1 (distinct l (values s x)) deep fs p (held s L before x)

  -- an expression that is due on a frame that binds less than d, and is followed by what binds as strongly as k
  abbrev pub Expression : ℕ → ℕ → Draft → Draft → Syntax → Type 0
  Expression d k g g' x =
      (l : List Float) (deep : ℕ) (f : Frame) (fs : List Frame) (p : Pen) → Due d l deep f fs p g → Clean l x → Whole k l deep f fs p x g'

  -- an expression that is whole with its last token
  abbrev pub Primary : Draft → Draft → Syntax → Type 0
  Primary g g' x =
      (l : List Float) (deep : ℕ) (f : Frame) (fs : List Frame) (p : Pen) → Due 9 l deep f fs p g → Clean l x → Exact l deep f fs p x g'

  -- steps, followed by what binds as strongly as k
  abbrev pub Walk : ℕ → Draft → Draft → Syntax → Type 0
  Walk k g g' x =
      (l : List Float) (deep : ℕ) (fs : List Frame) (p : Pen) (before : Tree) → Walking l deep fs p before g → Clean l x
      → Walked k l deep fs p before x g'

  -- the axis of a step, and its node test
  abbrev pub Specified : Draft → Draft → Syntax → Type 0
  Specified g g' x =
      (values s x ≡ [])
      × ((l : List Float) (deep : ℕ) (d : Desk) → Stepping (mode_in g) → path_from 22 g ≡ draft (mode_in g) 1 l deep d
      → Testing (mode_in g') × (path_from 22 g' ≡ draft (mode_in g') (axis_of s x) l deep d))

  abbrev pub Tested : Draft → Draft → Syntax → Type 0
  Tested g g' x = (values s x ≡ []) × (Testing (mode_in g) → g' ≡ test_read M.part (test_of s x) (path_from 22 g))

  -- predicates behind those before them, and one of them
  abbrev pub Filtered : Draft → Draft → Syntax → Type 0
  Filtered g g' x =
      (l : List Float) (deep : ℕ) (fs : List Frame) (p : Pen) (before : Tree) → g ≡ behind M.part 1 l deep fs p before → paths_in fs ≤ deep
      → Clean l x
      → g' ≡ behind M.part 1 (distinct l (values s x)) deep fs p (held s L before x)

  abbrev pub Bracketed : Draft → Draft → Syntax → Type 0
  Bracketed g g' x =
      (l : List Float) (deep : ℕ) (fs : List Frame) (p : Pen) → g ≡ draft M.part 1 l deep (desk fs p) → paths_in fs ≤ deep → Clean l x
      → g' ≡ behind_it l deep fs x (desk fs (squared p (in_hand x p)))

  -- a call that is held has at most one argument
  abbrev pub Argued : Draft → Draft → Syntax → Type 0
  Argued g g' x = (0 < arity x) × (arity x ≡ 1 → Expression 1 1 g g' x)

  -- a line a symbol
  abbrev pub view : Symbol → View Draft
  view (the t) = a_token t
  view LocationPath = promising (Expression 9 9)
  view AbsoluteLocationPath = promising (Expression 9 9)
  view RelativeLocationPath = promising (Walk 10)
  view Step = promising (Walk 11)
  view AxisSpecifier = promising Specified
  view NodeTest = promising Tested
  view Predicates = promising Filtered
  view Predicate = promising Bracketed
  view PredicateExpr = promising (Expression 1 1)
  view AbbreviatedAbsoluteLocationPath = promising (Expression 9 9)
  view AbbreviatedRelativeLocationPath = promising (Walk 10)
  view AbbreviatedStep = promising (Walk 11)
  view AbbreviatedAxisSpecifier = promising Specified
  view Expr = promising (Expression 1 1)
  view PrimaryExpr = promising Primary
  view FunctionCall = promising Primary
  view Arguments = promising Argued
  view Argument = promising (Expression 1 1)
  view UnionExpr = promising (Expression 8 8)
  view PathExpr = promising (Expression 9 9)
  view FilterExpr = promising Primary
  view OrExpr = promising (Expression 1 1)
  view AndExpr = promising (Expression 2 2)
  view EqualityExpr = promising (Expression 3 3)
  view RelationalExpr = promising (Expression 4 4)
  view AdditiveExpr = promising (Expression 5 5)
  view MultiplicativeExpr = promising (Expression 6 6)
  view UnaryExpr = promising (Expression 8 7)

  -- what binds less strongly finds the same
  pub loosened :
      (k m : ℕ) → T (leb k m)
      → {l : List Float} {deep : ℕ} {f : Frame} {fs : List Frame} {p : Pen} {x : Syntax} {g : Draft} (w : Whole m l deep f fs p x g)
      → rest k g
      ≡ behind_it l deep (f ∷ fs) x (settle k (w.top ∷ fs) (in_hand x p))
  unfolding rest settled
  loosened k m h {l} {deep} {f} {fs} {p} {x} {g} w =
      sym (again k m h g)
      ∙ (ap (rest k) w.settles
      ∙ ap (behind_it l deep (f ∷ fs) x) (twice k m h (w.top ∷ fs) (in_hand x p)))

  lift : (k m d e : ℕ) → T (leb k m) → T (leb d e) → (g g' : Draft) (x : Syntax) → Expression e m g g' x → Expression d k g g' x
  lift k m d e h n g g' x w l deep f fs p (due b o op dp) c =
      let v : Whole m l deep f fs p x g' = w l deep f fs p (due b (fill_higher d e f n o) op dp) c in
      record { known = v.known; top = v.top; kept = v.kept; ready = v.ready; settles = loosened k m h v }

  -- a construct of one part
  pub clean_inner :
      (k : Kind) (plain : is_kind k number ≡ false) (t : Token) (i : ℕ) (x : Syntax) (l : List Float) → Clean l (part k t i blank blank x)
      → Clean l x
  unfolding values
  clean_inner k plain t i x l c = record { faultless = third_none s k t i blank blank x c.faultless; within = rw plain at c.within }

  -- a construct of two parts
  module _ (k : Kind) (plain : is_kind k number ≡ false) (t : Token) (i : ℕ) (x y : Syntax) (l : List Float) where
    pub two_values : distinct l (values s (part k t i x blank y)) ≡ distinct (distinct l (values s x)) (values s y)
    unfolding values
    two_values = rw plain (distinct_append l (values s x) (values s y))

    pub clean_first : Clean l (part k t i x blank y) → Clean l x
    unfolding values
    clean_first c = record {
      faultless = first_none s k t i x blank y c.faultless;
      within = front_first l (values s x) (values s y) (rw plain at c.within);
    }

    pub clean_second : Clean l (part k t i x blank y) → Clean (distinct l (values s x)) y
    clean_second c = record {
      faultless = third_none s k t i x blank y c.faultless;
      within = subst (λ (o : List Float). Front o L) two_values c.within;
    }

  pub lifting : (k m d e : ℕ) → T (leb k m) → T (leb d e) → passes (Expression e m) (Expression d k)
  lifting k m d e h n g i u = (tt, (λ g' j x w. lift k m d e h n g g' x w))
