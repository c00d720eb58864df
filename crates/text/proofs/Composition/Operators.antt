-- Composing writes two operands with an operator between them, and an operand behind a sign, as their rows.
-- Assumes nothing.
use Prim.Native.Nat.{ℕ, ◌≤◌}
use mathlib.Core.Path.{◌≡◌, refl, sym, ◌∙◌, ap, subst⁻¹}
use mathlib.Core.Bool.{Bool, true, false, cond}
use mathlib.Core.List.{List, [], ◌∷◌}
use native.Mathlib.Omega.{arith}
use native.Mathlib.Nat.{le_refl}
use lib.Dec.{T, leb}
use lib.Ieee.{Float}
use borrow.Author.Tests.{le-leb}
use Rattle.meaning.specs.Rows.{code, is_literal}
use Rattle.meaning.specs.declared.Op.TheVariants.{Negate}
use Rattle.meaning.specs.Rows as R
use Rattle.meaning.specs.Tree.{Tree, none, node, depth}
use Rattle.text.specs.declared.Sort.{Sort}
use Rattle.text.specs.declared.Sort.TheVariants.{Numeral, Truth}
use Rattle.text.specs.Grammar.{Token, '-'}
use Rattle.text.specs.Machine.{operand, Row, rows, on, go, ending}
use Rattle.text.specs.Machine as M
use Rattle.text.specs.Syntax.{negative, binary, Syntax, blank, part}
use Rattle.text.specs.Growing.{tightness}
use Rattle.text.specs.Limited.{Source, operator_sort, sort, own}
use Rattle.text.specs.Reading.{values, distinct, operation, as_truth, operand_of, held}
use Rattle.text.specs.Survey.{mode_after}
use Rattle.text.specs.Composing.{Frame, frame, Pen, desk, Draft, draft, put, link_of, truthful, emptied, strength_of, row_of, may_fill, settle, with_pen, push, is_path_op, paths_in, operator_read, mode_in, compose_token}
use Rattle.text.proofs.Composition.Pens.{after, after_emptied, puts, puts_one, true_sort, truthful_after, truth_depth, stays, fills, same_draft}
use Rattle.text.proofs.Composition.Drafts.{Ready, Same, same_fills, same_paths, same_sort, mark, no_path, Due, deeper, at_operand, same, due}
use Rattle.text.proofs.Composition.Moves.{wanted, operated, read_operator, minus_due}
use Rattle.text.proofs.Composition.Faultless.{own_none}
use Rattle.text.proofs.Composition.Promises.{clean_inner, in_hand, behind_it, Whole, Expression, loosened, two_values, clean_first, clean_second}

module _ (s : Source) (L : List Float) where
  -- ---- two operands with an operator between them

  -- an operator that binds as strongly as k; its right operand is one of strength m, and is due on a frame that binds less than f
  module _
      (tok : Token) (k m f : ℕ) (others : List Row) (below : T (leb k m)) (loose : leb f k ≡ false)
      (binds : strength_of (code (operation tok)) ≡ k)
      (tight : tightness tok ≡ k) (plain : is_literal (operation tok) ≡ false) (pathless : is_path_op (code (operation tok)) ≡ false)
      (leads : rows tok ≡ on ending (go operand) ∷ others)
      (reads : (g : Draft) (j : ℕ) → Ready (mode_in g)
      → compose_token s g j tok ≡ operator_read (mode_after (mode_in g) tok) (code (operation tok)) g)
      (row_is :
      (a t : ℕ) (q : Pen)
      → row_of (frame (code (operation tok)) a 0 0 0 t) q
      ≡ put (code (operation tok)) a (link_of (wanted k q)) 0 0 (operator_sort tok) (wanted k q))
      (tells-truth : (i : ℕ) (x y : Syntax) → own s binary tok i x y ≡ [] → sort s x ≡ Truth → operator_sort tok ≡ Truth)
    where
      -- a construct's tree as an operand, its sort then, and the pen that has it in hand
      abbrev operand_tree : Syntax → Tree
      operand_tree x = operand_of tok (sort s x) (held s L none x)

      abbrev operand_sort : Syntax → Sort
      operand_sort x = cond (leb k 2) (true_sort (sort s x)) (sort s x)

      abbrev left : Syntax → Pen → Pen
      left x p = after (operand_tree x) (operand_sort x) p

      -- the frame of the operator behind its left operand
      abbrev waiting : Syntax → Pen → Frame
      waiting x p = frame (code (operation tok)) (link_of (left x p)) 0 0 0 0

      abbrev joined_tree : Syntax → Syntax → Tree
      joined_tree x y = node (operation tok) (operand_tree x) (operand_tree y) 0 0

      wanted_after : (x : Syntax) (p : Pen) → wanted k (in_hand s L x p) ≡ left x p
      unfolding operand_of
      wanted_after x p = rw tight (by (leb k 2))
        where
          by :
              (b : Bool)
              → cond b (truthful (in_hand s L x p)) (in_hand s L x p)
              ≡ after (cond b (as_truth (sort s x) (held s L none x)) (held s L none x)) (cond b (true_sort (sort s x)) (sort s x)) p
          by true = truthful_after (held s L none x) (sort s x) p
          by false = refl

      operand_depth : (x : Syntax) → depth (operand_tree x) ≡ depth (held s L none x)
      unfolding operand_of
      operand_depth x = by (leb (tightness tok) 2)
        where
          by : (b : Bool) → depth (cond b (as_truth (sort s x) (held s L none x)) (held s L none x)) ≡ depth (held s L none x)
          by true = truth_depth (sort s x) (held s L none x)
          by false = refl

      operator-read :
          (l : List Float) (deep : ℕ) (fr : Frame) (fs : List Frame) (p : Pen) (x : Syntax) (g : Draft) (j : ℕ) → may_fill k fr ≡ false
          → (w : Whole s L k l deep fr fs p x g)
          → compose_token s g j tok
          ≡ draft operand 1 (distinct l (values s x)) (deeper deep (fr ∷ fs) (held s L none x))
          (desk (waiting x p ∷ w.top ∷ fs) (emptied (left x p)))
      unfolding push with_pen
      operator-read l deep fr fs p x g j lo w =
          read_operator s tok k others binds leads reads g j w.ready
          ∙ (ap (operated (code (operation tok)) k)
          (w.settles ∙ ap (behind_it s L l deep (fr ∷ fs) x) (stays k w.top fs (in_hand s L x p) (same_fills k w.kept ∙ lo)))
          ∙ ap
          (λ (q : Pen).
          draft operand 1 (distinct l (values s x)) (deeper deep (fr ∷ fs) (held s L none x))
          (desk (frame (code (operation tok)) (link_of q) 0 0 0 0 ∷ w.top ∷ fs) (emptied q)))
          (wanted_after x p))

      operator_row :
          (x y : Syntax) (p : Pen) (top : Frame) → Same (sort s y) (waiting x p) top
          → row_of top (in_hand s L y (emptied (left x p))) ≡ after (joined_tree x y) (operator_sort tok) p
      operator_row x y p top kept =
          ap (λ (h : Frame). row_of h (in_hand s L y (emptied (left x p)))) (mark kept).1
          ∙ (row_is (link_of (left x p)) (mark kept).0 (in_hand s L y (emptied (left x p)))
          ∙ (ap (λ (r : Pen). put (code (operation tok)) (link_of (left x p)) (link_of r) 0 0 (operator_sort tok) r)
          (wanted_after y (emptied (left x p)) ∙ after_emptied (operand_tree y) (operand_sort y) (left x p))
          ∙ puts (operation tok) (operand_tree x) (operand_tree y) 0 0 (operand_sort x) (operand_sort y) (operator_sort tok) p plain))

      operator_fills : (a t : ℕ) → may_fill k (frame (code (operation tok)) a 0 0 0 t) ≡ true
      unfolding may_fill
      operator_fills a t = rw (binds, le-leb k k (le_refl k))

      operator_loose : (a : ℕ) → may_fill f (frame (code (operation tok)) a 0 0 0 0) ≡ false
      unfolding may_fill
      operator_loose a = rw (binds, loose)

      operator_paths :
          (x : Syntax) (p : Pen) (fr top : Frame) (fs : List Frame) {u : Sort} → Same u fr top
          → paths_in (waiting x p ∷ top ∷ fs) ≡ paths_in (fr ∷ fs)
      operator_paths x p fr top fs kept = no_path (code (operation tok)) (link_of (left x p)) 0 0 0 0 (top ∷ fs) pathless ∙ same_paths fs kept

      operator_deep :
          (deep : ℕ) (p : Pen) (fr top : Frame) (fs : List Frame) {u : Sort} (x y : Syntax) → Same u fr top
          → deeper (deeper deep (fr ∷ fs) (held s L none x)) (waiting x p ∷ top ∷ fs) (held s L none y)
          ≡ deeper deep (fr ∷ fs) (joined_tree x y)
      unfolding depth R.is_path
      operator_deep deep p fr top fs x y kept =
          rw (operator_paths x p fr top fs kept, operand_depth x, operand_depth y, pathless) (omega arith)

      joined :
          {l : List Float} {deep : ℕ} {fr : Frame} {fs : List Frame} {p : Pen} {x y : Syntax} {g1 g2 : Draft} (i : ℕ)
          (v : Whole s L k l deep fr fs p x g1)
          → Whole s L m (distinct l (values s x)) (deeper deep (fr ∷ fs) (held s L none x)) (waiting x p) (v.top ∷ fs)
          (emptied (left x p)) y g2
          → own s binary tok i x y ≡ [] → Whole s L k l deep fr fs p (part binary tok i x blank y) g2
      unfolding held sort operator_sort
      joined {l} {deep} {fr} {fs} {p} {x} {y} i v w e = record {
        known = known_so (leb 5 (tightness tok));
        top = v.top;
        kept = same_sort (tells-truth i x y e) v.kept;
        ready = w.ready;
        settles =
            loosened s L k m below w
            ∙ same_draft M.part 1 (sym (two_values s L binary refl tok i x y l)) (operator_deep deep p fr v.top fs x y v.kept)
            (fills k w.top (v.top ∷ fs) (in_hand s L y (emptied (left x p)))
            (same_fills k w.kept ∙ operator_fills (link_of (left x p)) 0)
            ∙ ap (settle k (v.top ∷ fs)) (operator_row x y p w.top w.kept));
      }
        where
          known_so : (b : Bool) → true_sort (cond b Numeral Truth) ≡ Truth
          known_so true = refl
          known_so false = refl

      joins :
          (g g1 g2 : Draft) (i j : ℕ) (x y : Syntax) → Expression s L k k g g1 x → Expression s L f m (compose_token s g1 j tok) g2 y
          → Expression s L k k g g2 (part binary tok i x blank y)
      joins g g1 g2 i j x y wx wy l deep fr fs p (due b lo op dp) c =
          behind_left (wx l deep fr fs p (due b lo op dp) (clean_first s L binary refl tok i x y l c))
        where
          behind_left : Whole s L k l deep fr fs p x g1 → Whole s L k l deep fr fs p (part binary tok i x blank y) g2
          behind_left v =
              let deep1 : ℕ = deeper deep (fr ∷ fs) (held s L none x) in
              let paths-same : paths_in (waiting x p ∷ v.top ∷ fs) ≡ paths_in (fr ∷ fs) = operator_paths x p fr v.top fs v.kept in
              let enough : paths_in (waiting x p ∷ v.top ∷ fs) ≤ deep1 = omega arith in
              joined i v
              (wy (distinct l (values s x)) deep1 (waiting x p) (v.top ∷ fs) (emptied (left x p))
              (subst⁻¹ (Due f (distinct l (values s x)) deep1 (waiting x p) (v.top ∷ fs) (emptied (left x p)))
              (operator-read l deep fr fs p x g1 j lo v)
              (due at_operand (operator_loose (link_of (left x p))) (le_refl 0) enough))
              (clean_second s L binary refl tok i x y l c))
              (own_none s binary tok i x blank y c.faultless)

      pub between :
          (g : Draft) (i : ℕ) → Unit {0}
          → Unit {0}
          × ((g1 : Draft) (j : ℕ) (x : Syntax) → Expression s L k k g g1 x
          → Unit {0}
          × ((g2 : Draft) (n : ℕ) (y : Syntax) → Expression s L f m (compose_token s g1 j tok) g2 y
          → Expression s L k k g g2 (part binary tok i x blank y)))
      between g i u = (tt, (λ g1 j x wx. (tt, (λ g2 n y wy. joins g g1 g2 i j x y wx wy))))

  -- ---- a sign before an operand

  negated :
      (x : Syntax) (p : Pen) (top : Frame) → Same (sort s x) (frame 9 (link_of p) 0 0 0 0) top
      → row_of top (in_hand s L x (emptied p)) ≡ after (node Negate (held s L none x) none 0 0) Numeral p
  unfolding row_of is_literal code
  negated x p top kept =
      ap (λ (h : Frame). row_of h (in_hand s L x (emptied p))) (mark kept).1
      ∙ (puts_one Negate (held s L none x) 0 0 (sort s x) Numeral (emptied p) refl
      ∙ after_emptied (node Negate (held s L none x) none 0 0) Numeral p)

  signed :
      (l : List Float) (deep : ℕ) (f : Frame) (fs : List Frame) (p : Pen) (x : Syntax) (i : ℕ) (g : Draft)
      → Whole s L 7 l deep (frame 9 (link_of p) 0 0 0 0) (f ∷ fs) (emptied p) x g
      → Whole s L 7 l deep f fs p (part negative '-' i blank blank x) g
  unfolding held sort values depth R.is_path code may_fill strength_of
  signed l deep f fs p x i g w = record {
    known = refl;
    top = f;
    kept = same;
    ready = w.ready;
    settles =
        w.settles
        ∙ same_draft M.part 1 refl
        (let e : paths_in (frame 9 (link_of p) 0 0 0 0 ∷ f ∷ fs)
        ≡ paths_in (f ∷ fs) = no_path 9 (link_of p) 0 0 0 0 (f ∷ fs) refl in rw e (omega arith))
        (fills 7 w.top (f ∷ fs) (in_hand s L x (emptied p)) (same_fills 7 w.kept)
        ∙ ap (settle 7 (f ∷ fs)) (negated x p w.top w.kept));
  }

  pub signs :
      (g g1 : Draft) (i : ℕ) (x : Syntax) → Expression s L 8 7 (compose_token s g i '-') g1 x
      → Expression s L 8 7 g g1 (part negative '-' i blank blank x)
  unfolding values
  signs g g1 i x wx l deep f fs p (due b lo op dp) c =
      signed l deep f fs p x i g1
      (wx l deep (frame 9 (link_of p) 0 0 0 0) (f ∷ fs) (emptied p) (minus_due s l deep f fs p i b dp)
      (clean_inner s L negative refl '-' i x l c))
