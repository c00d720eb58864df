-- What composing writes: the rows of trees behind a pen, and the frames that are filled. What binds less strongly fills all that what binds
-- more strongly does.
-- Assumes nothing.
use Prim.Native.Nat.{ℕ, ◌+◌}
use mathlib.Core.Path.{◌≡◌, refl, sym, ◌∙◌, ap, ap₂, subst}
use mathlib.Core.Bool.{Bool, true, false, ◌&&◌}
use mathlib.Core.List.{List, [], ◌∷◌, ◌++◌, append-nil, append_assoc}
use native.Mathlib.Omega.{arith}
use native.Mathlib.Nat.{add-zero}
use lib.Dec.{T, eqb, leb}
use lib.Ieee.{Float}
use Rattle.meaning.specs.Rows.{code, is_literal}
use Rattle.meaning.specs.declared.Op.{Op}
use Rattle.meaning.specs.declared.Op.TheVariants.{Exists, Literal, TruthOf}
use Rattle.meaning.specs.Rows as R
use Rattle.meaning.specs.Tree.{Tree, none, node, depth}
use Rattle.meaning.specs.Turning.{weight, link, row, written}
use Rattle.meaning.proofs.Bools.{and_l, and_r, and_i, truly, is_true}
use Rattle.text.specs.declared.Sort.{Sort}
use Rattle.text.specs.declared.Sort.TheVariants.{Numeral, Truth, Nodes, Unheld}
use Rattle.text.specs.Machine.{Mode}
use Rattle.text.specs.Machine as M
use Rattle.text.specs.Reading.{as_truth, as_predicate}
use Rattle.text.specs.Composing.{Frame, frame, Pen, pen, Desk, desk, Draft, draft, put, link_of, truthful, predicable, emptied, strength_of, row_of, may_fill, settle, settled}
use Rattle.text.proofs.Tree.{lower}

-- ---- rows of trees

-- a tree's rows are written, and it is in hand
unfoldable pub after : Tree → Sort → Pen → Pen
after t u (pen l v n out) = pen (link n t) u (n + weight t) (out ++ written n t)

-- nothing is written of no tree; and what was in hand before does not matter
pub after_none : (p : Pen) → after none Unheld p ≡ emptied p
unfolding after link weight written
after_none (pen l u n out) = rw (add-zero n, append-nil out)

pub after_emptied : (t : Tree) (u : Sort) (p : Pen) → after t u (emptied p) ≡ after t u p
unfolding after
after_emptied t u (pen l v n out) = refl

same_pen : {n m : ℕ} {out rest : List ℕ} (w : Sort) → n ≡ m → out ≡ rest → pen n w n out ≡ pen m w m rest
same_pen w e f = ap₂ (λ (k : ℕ) (l : List ℕ). pen k w k l) e f

plain_row : (op : Op) (l m c d : ℕ) → is_literal op ≡ false → row op l m c d ≡ code op ∷ l ∷ m ∷ c ∷ d ∷ []
unfolding row
plain_row op l m c d e = rw e

-- the row of an op over two trees, behind their rows
pub puts :
    (op : Op) (a b : Tree) (c d : ℕ) (u v w : Sort) (p : Pen) → is_literal op ≡ false
    → put (code op) (link_of (after a u p)) (link_of (after b v (after a u p))) c d w (after b v (after a u p)) ≡ after (node op a b c d) w p
unfolding after put link weight written
puts op a b c d u v w (pen l x n out) e = same_pen w (omega arith) (rw plain_row (simp append_assoc))

-- over one tree
pub puts_one :
    (op : Op) (a : Tree) (c d : ℕ) (u w : Sort) (p : Pen) → is_literal op ≡ false
    → put (code op) (link_of (after a u p)) 0 c d w (after a u p) ≡ after (node op a none c d) w p
unfolding after put link weight written
puts_one op a c d u w (pen l x n out) e = same_pen w (omega arith) (rw plain_row (simp append_assoc))

-- over none
pub puts_none :
    (op : Op) (c d : ℕ) (w : Sort) (p : Pen) → is_literal op ≡ false → put (code op) 0 0 c d w p ≡ after (node op none none c d) w p
unfolding after put link weight written
puts_none op c d w (pen l x n out) e = rw plain_row

pub puts_literal : (i : ℕ) (w : Sort) (p : Pen) → put 1 i 0 0 0 w p ≡ after (node Literal none none i 0) w p
unfolding after put link weight written row is_literal code
puts_literal i w (pen l x n out) = refl

-- ---- truths

-- the sort of what is made a truth; and how a pen makes it one
abbrev pub true_sort : Sort → Sort
true_sort Numeral = Truth
true_sort Truth = Truth
true_sort Nodes = Truth
true_sort Unheld = Unheld

pub truthful_after : (t : Tree) (u : Sort) (p : Pen) → truthful (after t u p) ≡ after (as_truth u t) (true_sort u) p
unfolding truthful as_truth after is_literal code
truthful_after t Numeral (pen l v n out) = puts_one TruthOf t 0 0 Numeral Truth (pen l v n out) refl
truthful_after t Truth (pen l v n out) = refl
truthful_after t Nodes (pen l v n out) = puts_one Exists t 0 0 Nodes Truth (pen l v n out) refl
truthful_after t Unheld (pen l v n out) = refl

-- the same of a whole predicate
abbrev pub predicate_sort : Sort → Sort
predicate_sort Numeral = Numeral
predicate_sort Truth = Truth
predicate_sort Nodes = Truth
predicate_sort Unheld = Unheld

pub predicable_after : (t : Tree) (u : Sort) (p : Pen) → predicable (after t u p) ≡ after (as_predicate u t) (predicate_sort u) p
unfolding predicable as_predicate after is_literal code
predicable_after t Numeral (pen l v n out) = refl
predicable_after t Truth (pen l v n out) = refl
predicable_after t Nodes (pen l v n out) = puts_one Exists t 0 0 Nodes Truth (pen l v n out) refl
predicable_after t Unheld (pen l v n out) = refl

-- a truth is no deeper
pub truth_depth : (u : Sort) (t : Tree) → depth (as_truth u t) ≡ depth t
unfolding depth as_truth R.is_path code
truth_depth Numeral t = omega arith
truth_depth Truth t = refl
truth_depth Nodes t = omega arith
truth_depth Unheld t = refl

pub predicate_depth : (u : Sort) (t : Tree) → depth (as_predicate u t) ≡ depth t
unfolding depth as_predicate R.is_path code
predicate_depth Numeral t = refl
predicate_depth Truth t = refl
predicate_depth Nodes t = omega arith
predicate_depth Unheld t = refl

-- ---- filling frames

-- a frame that what binds more strongly fills, what binds less strongly does too
fill_lower : (k m : ℕ) (f : Frame) → T (leb k m) → may_fill m f ≡ true → may_fill k f ≡ true
unfolding may_fill
fill_lower k m (frame op a c d o t) h e =
    let binds : T (leb m (strength_of op)) = and_l (leb m (strength_of op)) (eqb o 0) (truly e) in
    let closed : T (eqb o 0) = and_r (leb m (strength_of op)) (eqb o 0) (truly e) in
    is_true (leb k (strength_of op) && eqb o 0)
    (and_i (leb k (strength_of op)) (eqb o 0) (truly (lower k m (strength_of op) h (is_true (leb m (strength_of op)) binds))) closed)

pub fill_higher : (k m : ℕ) (f : Frame) → T (leb k m) → may_fill k f ≡ false → may_fill m f ≡ false
fill_higher k m f h e = decide (may_fill m f) refl
  where
    decide : (b : Bool) → may_fill m f ≡ b → may_fill m f ≡ false
    decide false q = q
    decide true q = absurd (subst T (sym (fill_lower k m f h q) ∙ e) tt)

pub stays : (k : ℕ) (f : Frame) (fs : List Frame) (p : Pen) → may_fill k f ≡ false → settle k (f ∷ fs) p ≡ desk (f ∷ fs) p
unfolding settle
stays k f fs p e = rw e

pub fills : (k : ℕ) (f : Frame) (fs : List Frame) (p : Pen) → may_fill k f ≡ true → settle k (f ∷ fs) p ≡ settle k fs (row_of f p)
unfolding settle
fills k f fs p e = rw e

-- what binds less strongly fills all that what binds more strongly does
pub twice : (k m : ℕ) → T (leb k m) → (fs : List Frame) (p : Pen) → settled k (settle m fs p) ≡ settle k fs p
unfolding settle settled
twice k m h [] p = refl
twice k m h (f ∷ fs) p = decide (twice k m h fs (row_of f p)) (may_fill m f) refl
  where
    decide :
        settled k (settle m fs (row_of f p)) ≡ settle k fs (row_of f p) → (b : Bool) → may_fill m f ≡ b
        → settled k (settle m (f ∷ fs) p) ≡ settle k (f ∷ fs) p
    decide ih true q = ap (settled k) (fills m f fs p q) ∙ (ih ∙ sym (fills k f fs p (fill_lower k m f h q)))
    decide ih false q = ap (settled k) (stays m f fs p q)

-- the draft behind an operand, where what follows binds as strongly as k
unfoldable pub rest : ℕ → Draft → Draft
rest k (draft m x l deep d) = draft M.part x l deep (settled k d)

pub same_draft :
    {l l' : List Float} {deep deep' : ℕ} {d d' : Desk} (m : Mode) (x : ℕ) → l ≡ l' → deep ≡ deep' → d ≡ d'
    → draft m x l deep d ≡ draft m x l' deep' d'
same_draft {l' = l'} {deep = deep} {deep' = deep'} {d = d} m x e f h =
    ap (λ (o : List Float). draft m x o deep d) e ∙ ap₂ (λ (n : ℕ) (o : Desk). draft m x l' n o) f h

pub again : (k m : ℕ) → T (leb k m) → (g : Draft) → rest k (rest m g) ≡ rest k g
unfolding rest settled
again k m h (draft mode x l deep (desk fs p)) = ap (draft M.part x l deep) (twice k m h fs p)
