-- Trees that are made by the rules of rows: a row's fields are good exactly if its node is, with each link's tree in the link's place.
-- So the tree of an accepted path is made by the rules, and rows written from such a tree have good fields.
-- Assumes nothing.
use Prim.Native.Nat.{ℕ, zero, suc, ◌-◌, ◌<◌, ◌≤◌}
use mathlib.Core.Path.{◌≡◌, refl, sym, subst, ap, ◌∙◌}
use mathlib.Core.Bool.{Bool, true, false, ◌&&◌, cond, true≢false}
use mathlib.Core.List.{List, []}
use lib.Dec.{T}
use native.Mathlib.Omega.{arith}
use borrow.Author.Tests.{ne_eqb, le-leb}
use Rattle.meaning.specs.Rows.{op_of, op_at, field, fields_of, is_literal, is_unknown, is_link, may_miss, takes, good_link, good_field, good_fields, first_link, second_link, rows_of}
use Rattle.meaning.specs.declared.Op.{Op}
use Rattle.meaning.specs.declared.Field.{Field}
use Rattle.meaning.specs.Tree.{Tree, none, node, index_or_axis, test_at, tree}
use Rattle.meaning.specs.Answers.{path_tree}
use Rattle.meaning.proofs.Trees.{first_le, second_le, tree_zero, tree_suc}
use Rattle.meaning.proofs.Ops.{op_code, literal_links_nothing, third_links_nothing, fourth_links_nothing, field_by_kind}
use Rattle.meaning.proofs.ReadBack.{cond_again}
use Rattle.meaning.proofs.Exactly.{AcceptedPath}
use Rattle.meaning.proofs.Paths.{Holds, known_op, good_fields_lem, row_holds}

-- may a link field of this kind stand for this tree?
unfoldable pub good_child : Field → Tree → Bool
good_child f none = may_miss f
good_child f (node op a b c d) = takes f op

-- is a tree allowed in a field that is a link, or a number in a field that is none?
unfoldable pub good_held : ℕ → Field → Tree → ℕ → Bool
good_held literals f a v = cond (is_link f) (good_child f a) (good_field [] literals 0 f v)

-- does a node keep the rules of its op's fields?
unfoldable pub good_node : ℕ → Op → Tree → Tree → ℕ → ℕ → Bool
good_node literals op a b c d =
    good_held literals (fields_of op).a a (cond (is_literal op) c 0)
    && good_held literals (fields_of op).b b 0
    && good_held literals (fields_of op).c none (cond (is_literal op) 0 c)
    && good_held literals (fields_of op).d none d

-- every node has a known op and keeps the rules
abbrev pub Made : ℕ → Tree → Type 0
Made literals none = Unit {0}
Made literals (node op a b c d) = (is_unknown op ≡ false) × T (good_node literals op a b c d) × Made literals a × Made literals b

-- ---- a row and its node

-- the link l of row r stands for the tree: a lower row of the tree's op, or none
unfoldable pub Stands : List ℕ → ℕ → ℕ → Tree → Type 0
Stands p r l none = l ≡ 0
Stands p r l (node op a b c d) = (0 < l) × (l ≤ r) × (op_at p (l - 1) ≡ op)

-- a link stands for what it reads as
pub tree_stands : (p : List ℕ) (r l : ℕ) → l ≤ r → Stands p r l (tree p l)
unfolding Stands
tree_stands p r zero h = rw (tree_zero p) refl
tree_stands p r (suc l) h = let e : suc l - 1 ≡ l = omega arith in rw (tree_suc p l) (omega arith, h, ap (op_at p) e)

link_child : (p : List ℕ) (r : ℕ) (f : Field) (l : ℕ) (a : Tree) → Stands p r l a → good_link p r f l ≡ good_child f a
unfolding good_link good_child Stands
link_child p r f l none h = rw h
link_child p r f l (node op a b c d) h = rw (ne_eqb l 0 (λ e. omega arith), le-leb l r h.1, h.2)

field_held : (p : List ℕ) (literals r : ℕ) (f : Field) (l v : ℕ) (a : Tree) → Stands p r l a → good_field p literals r f (cond (is_link f) l v) ≡ good_held literals f a v
unfolding good_held
field_held p literals r f l v a h = field_by_kind p literals r f (cond (is_link f) l v) ∙ go (is_link f)
  where
    go : (k : Bool) → cond k (good_link p r f (cond k l v)) (good_field [] literals 0 f (cond k l v)) ≡ cond k (good_child f a) (good_field [] literals 0 f v)
    go true = link_child p r f l a h
    go false = refl

first_field : (k q : Bool) (c l : ℕ) → (q ≡ true → k ≡ false) → cond k l 0 ≡ l → cond q c l ≡ cond k l (cond q c 0)
first_field true true c l f e = absurd (true≢false (f refl))
first_field true false c l f e = refl
first_field false true c l f e = refl
first_field false false c l f e = sym e

-- a row's fields are good exactly if its node keeps the rules
pub row_as_node : (p : List ℕ) (literals r : ℕ) (op : Op) (a b : Tree) (l m c d : ℕ) → Holds p r op l m c d → Stands p r l a → Stands p r m b
    → cond (is_link (fields_of op).a) l 0 ≡ l → cond (is_link (fields_of op).b) m 0 ≡ m → good_fields p literals r ≡ good_node literals op a b c d
unfolding good_fields good_node
row_as_node p literals r op a b l m c d h sa sb ea eb =
    let o : op_at p r ≡ op = ap op_of h.op_at_lem ∙ op_code op in
    let fa : good_field p literals r (fields_of op).a (field p r 1) ≡ good_held literals (fields_of op).a a (cond (is_literal op) c 0) =
    rw (h.a_at, first_field (is_link (fields_of op).a) (is_literal op) c l (literal_links_nothing op) ea) (field_held p literals r (fields_of op).a l (cond (is_literal op) c 0) a sa) in
    let fb : good_field p literals r (fields_of op).b (field p r 2) ≡ good_held literals (fields_of op).b b 0 =
    rw (h.b_at, ← eb) (field_held p literals r (fields_of op).b m 0 b sb) in
    let fc : good_field p literals r (fields_of op).c (field p r 3) ≡ good_held literals (fields_of op).c none (cond (is_literal op) 0 c) =
    rw h.c_at (rw (third_links_nothing op) at (field_held p literals r (fields_of op).c 0 (cond (is_literal op) 0 c) none (unfold Stands in refl))) in
    let fd : good_field p literals r (fields_of op).d (field p r 4) ≡ good_held literals (fields_of op).d none d =
    rw h.d_at (rw (fourth_links_nothing op) at (field_held p literals r (fields_of op).d 0 d none (unfold Stands in refl))) in
    rw (o, fa, fb, fc, fd)

-- ---- the tree of an accepted path

module _ (p : List ℕ) (literals : ℕ) (acc : AcceptedPath p literals) where
  -- a row's node keeps the rules
  pub good_node_lem : (r : ℕ) → r < rows_of p → T (good_node literals (op_at p r) (tree p (first_link p r)) (tree p (second_link p r)) (index_or_axis p r) (test_at p r))
  unfolding first_link second_link
  good_node_lem r h =
      subst T
      (row_as_node p literals r (op_at p r) (tree p (first_link p r)) (tree p (second_link p r)) (first_link p r) (second_link p r) (index_or_axis p r) (test_at p r)
      (row_holds p literals acc r h) (tree_stands p r (first_link p r) (first_le p r)) (tree_stands p r (second_link p r) (second_le p r))
      (cond_again (is_link (fields_of (op_at p r)).a) _) (cond_again (is_link (fields_of (op_at p r)).b) _))
      (good_fields_lem p literals acc r h)

  made_below : (n l : ℕ) → l < n → l ≤ rows_of p → Made literals (tree p l)
  made_below zero l h k = absurd (omega arith)
  made_below (suc n) zero h k = rw (tree_zero p) tt
  made_below (suc n) (suc r) h k =
      rw (tree_suc p r) (
        known_op p literals acc r k,
        good_node_lem r k,
        made_below n (first_link p r) (omega (arith, first_le p r)) (omega (arith, first_le p r)),
        made_below n (second_link p r) (omega (arith, second_le p r)) (omega (arith, second_le p r)),
      )

  -- the tree of an accepted path is made by the rules
  pub made : Made literals (path_tree p)
  made = made_below (suc (rows_of p)) (rows_of p) (omega arith) (omega arith)
