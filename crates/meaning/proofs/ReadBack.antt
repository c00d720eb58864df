-- Rows written in postorder read back as the tree. What stands where is a statement by recursion on the tree (`Laid`), not an
-- equation of lists: each row holds its node, so that it reads as its node, and the tree follows by induction.
-- Assumes nothing.
use Prim.Native.Nat.{ℕ, zero, suc, ◌+◌, ◌*◌, ◌≤◌}
use mathlib.Core.Path.{◌≡◌, refl, sym, subst, ap, ◌∙◌}
use mathlib.Core.Bool.{Bool, true, false, cond, true≢false}
use mathlib.Core.List.{List, [], ◌++◌, append_assoc, append-nil}
use lib.ListN.{length, get_or, length-append}
use lib.Seq.{get_or-append-add}
use native.Mathlib.Omega.{arith}
use Rattle.meaning.specs.Rows.{op_of, op_at, field, fields_of, is_literal, is_step, is_link, follow, first_link, second_link, rows_of}
use Rattle.meaning.specs.declared.Op.{Op}
use Rattle.meaning.specs.Tree.{Tree, none, node, index_or_axis, test_at, linked, tree}
use Rattle.meaning.specs.Turning.{weight, link, row, written}
use Rattle.meaning.proofs.Trees.{follow_in, tree_zero, tree_suc}
use Rattle.meaning.proofs.Ops.{op_code, literal_links_nothing}
use Rattle.meaning.proofs.Paths.{Holds}

-- ---- tidy trees

-- nothing is set that its op leaves unused: such are the trees that rows read as
abbrev pub Tidy : Tree → Type 0
Tidy none = Unit {0}
Tidy (node op a b c d) =
    (cond (is_link (fields_of op).a) a none ≡ a)
    × (cond (is_link (fields_of op).b) b none ≡ b)
    × (cond (is_literal op) c (cond (is_step op) c 0) ≡ c)
    × (cond (is_step op) d 0 ≡ d)
    × Tidy a
    × Tidy b

tidy_link : (k : Bool) (fuel : ℕ) (p : List ℕ) (l : ℕ) → cond k (linked fuel p (cond k l 0)) none ≡ linked fuel p (cond k l 0)
unfolding linked
tidy_link true fuel p l = refl
tidy_link false zero p l = refl
tidy_link false (suc fuel) p l = refl

tidy_index : (q s : Bool) (i c : ℕ) → cond q (cond q i (cond s c 0)) (cond s (cond q i (cond s c 0)) 0) ≡ cond q i (cond s c 0)
tidy_index true s i c = refl
tidy_index false true i c = refl
tidy_index false false i c = refl

-- what is left out is left out once and for all
pub cond_again : (k : Bool) (v : ℕ) → cond k (cond k v 0) 0 ≡ cond k v 0
cond_again true v = refl
cond_again false v = refl

linked_tidy : (fuel : ℕ) (p : List ℕ) (l : ℕ) → Tidy (linked fuel p l)
unfolding linked first_link second_link index_or_axis test_at
linked_tidy zero p l = tt
linked_tidy (suc fuel) p zero = tt
linked_tidy (suc fuel) p (suc r) = (
  tidy_link (is_link (fields_of (op_at p r)).a) fuel p (follow r (field p r 1)),
  tidy_link (is_link (fields_of (op_at p r)).b) fuel p (follow r (field p r 2)),
  tidy_index (is_literal (op_at p r)) (is_step (op_at p r)) (field p r 1) (field p r 3),
  cond_again (is_step (op_at p r)) (field p r 4),
  linked_tidy fuel p (first_link p r),
  linked_tidy fuel p (second_link p r),
)

-- what rows read as is tidy
pub tree_tidy : (p : List ℕ) (l : ℕ) → Tidy (tree p l)
unfolding tree
tree_tidy p l = linked_tidy l p l

-- ---- what stands where

-- the rows from n on are those of the tree
abbrev pub Laid : List ℕ → ℕ → Tree → Type 0
Laid p n none = Unit {0}
Laid p n (node op a b c d) =
    Laid p n a
    × Laid p (n + weight a) b
    × Holds p (n + weight a + weight b) op (link n a) (link (n + weight a) b) c d

-- five numbers a row
pub length_written : (n : ℕ) (e : Tree) → length (written n e) ≡ 5 * weight e
unfolding written weight row
length_written n none = refl
length_written n (node op a b c d) = simp (length-append, length_written n a, length_written (n + weight a) b) (omega arith)

-- so many rows as the tree has
pub written_rows : (e : Tree) → rows_of (written 0 e) ≡ weight e
written_rows e = omega (arith, length_written 0 e)

field_behind : (front q : List ℕ) (r f : ℕ) → length front ≡ 5 * r → field (front ++ q) r f ≡ get_or q f 0
field_behind front q r f l = rw (← l) (get_or-append-add front q f 0)

laid_between : (e : Tree) (front behind : List ℕ) (n : ℕ) → length front ≡ 5 * n → Laid (front ++ (written n e ++ behind)) n e
unfolding written row
laid_between none front behind n l = tt
laid_between (node op a b c d) front behind n l =
    let m : ℕ = n + weight a in
    let r : ℕ = m + weight b in
    let A : List ℕ = written n a in
    let B : List ℕ = written m b in
    let R : List ℕ = row op (link n a) (link m b) c d in
    let p : List ℕ = front ++ ((A ++ (B ++ R)) ++ behind) in
    let lm : length (front ++ A) ≡ 5 * m = simp length-append (omega (arith, length_written n a)) in
    let lr : length ((front ++ A) ++ B) ≡ 5 * r = simp length-append (omega (arith, length_written n a, length_written m b)) in
    let ea : front ++ (A ++ (B ++ (R ++ behind))) ≡ p = simp append_assoc in
    let eb : (front ++ A) ++ (B ++ (R ++ behind)) ≡ p = simp append_assoc in
    let er : ((front ++ A) ++ B) ++ (R ++ behind) ≡ p = simp append_assoc in
    let at : (f : ℕ) → field p r f ≡ get_or (R ++ behind) f 0 =
    λ f. subst (λ (q : List ℕ). field q r f ≡ get_or (R ++ behind) f 0) er (field_behind ((front ++ A) ++ B) (R ++ behind) r f lr) in (
      subst (λ (q : List ℕ). Laid q n a) ea (laid_between a front (B ++ (R ++ behind)) n l),
      subst (λ (q : List ℕ). Laid q m b) eb (laid_between b (front ++ A) (R ++ behind) m lm),
      record { op_at_lem = at 0; a_at = at 1; b_at = at 2; c_at = at 3; d_at = at 4 },
    )

-- written rows stand as their tree says
pub written_laid : (e : Tree) → Laid (written 0 e) 0 e
written_laid e = rw append-nil at (laid_between e [] [] 0 refl)

-- ---- reading

-- what is read from row r
pub record Reads (p : List ℕ) (r : ℕ) (op : Op) (l m c d : ℕ) : Type 0 where
  pub op_read : op_at p r ≡ op
  pub first_read : first_link p r ≡ l
  pub second_read : second_link p r ≡ m
  pub index_read : index_or_axis p r ≡ c
  pub test_read : test_at p r ≡ d

-- the link to a tree names no row behind the tree's own
pub link_le : (n : ℕ) (e : Tree) → link n e ≤ n + weight e
unfolding link weight
link_le n none = omega arith
link_le n (node op a b c d) = omega arith

-- the link to a tree that is left out where the field is no link
pub link_kept : (k : Bool) (n : ℕ) (a : Tree) → cond k a none ≡ a → cond k (link n a) 0 ≡ link n a
unfolding link
link_kept true n a e = refl
link_kept false n a e = ap (link n) e

-- a link that is written, or stands where a literal has its index, is followed again
followed_again : (k q : Bool) (r c l : ℕ) → (q ≡ true → k ≡ false) → l ≤ r → cond k l 0 ≡ l → cond k (follow r (cond q c l)) 0 ≡ l
followed_again true true r c l f h e = absurd (true≢false (f refl))
followed_again true false r c l f h e = follow_in r l h
followed_again false q r c l f h e = e

index_again : (q s : Bool) (c l : ℕ) → cond q c (cond s c 0) ≡ c → cond q (cond q c l) (cond s (cond q 0 c) 0) ≡ c
index_again true s c l e = refl
index_again false s c l e = e

module _ (p : List ℕ) (n : ℕ) (op : Op) (a b : Tree) (c d : ℕ) (tidy : Tidy (node op a b c d)) (laid : Laid p n (node op a b c d)) where
  -- the last row of a tidy tree that is laid reads as the tree's node
  pub row_reads : Reads p (n + weight a + weight b) op (link n a) (link (n + weight a) b) c d
  unfolding first_link second_link index_or_axis test_at
  row_reads =
      let m : ℕ = n + weight a in
      let r : ℕ = m + weight b in
      let h : Holds p r op (link n a) (link m b) c d = laid.2 in
      let o : op_at p r ≡ op = ap op_of h.op_at_lem ∙ op_code op in
      record {
        op_read = o;
        first_read = rw (o, h.a_at)
            (followed_again (is_link (fields_of op).a) (is_literal op) r c (link n a) (literal_links_nothing op) (omega (arith, link_le n a)) (link_kept (is_link (fields_of op).a) n a tidy.0));
        second_read = rw (o, h.b_at)
            (followed_again (is_link (fields_of op).b) false r 0 (link m b) (λ e. absurd (true≢false (sym e))) (omega (arith, link_le m b)) (link_kept (is_link (fields_of op).b) m b tidy.1));
        index_read = rw (o, h.a_at, h.c_at) (index_again (is_literal op) (is_step op) c (link n a) tidy.2);
        test_read = rw (o, h.d_at) tidy.3;
      }

-- a tidy tree that is laid is what its link reads as
pub reads_back : (e : Tree) (p : List ℕ) (n : ℕ) → Tidy e → Laid p n e → tree p (link n e) ≡ e
unfolding link weight
reads_back none p n tidy laid = tree_zero p
reads_back (node op a b c d) p n tidy laid =
    let r : ℕ = n + weight a + weight b in
    let s : Reads p r op (link n a) (link (n + weight a) b) c d = row_reads p n op a b c d tidy laid in
    let e : n + (weight a + weight b + 1) ≡ suc r = omega arith in
    rw (
      e,
      tree_suc p r,
      s.op_read,
      s.first_read,
      s.second_read,
      s.index_read,
      s.test_read,
      reads_back a p n tidy.4 laid.0,
      reads_back b p (n + weight a) tidy.5 laid.1,
    )

-- the link to a tree at the front
pub link_zero : (e : Tree) → link 0 e ≡ weight e
unfolding link weight
link_zero none = refl
link_zero (node op a b c d) = omega arith

-- the written rows of a tidy tree read back as the tree
pub written_reads_back : (e : Tree) → Tidy e → tree (written 0 e) (weight e) ≡ e
written_reads_back e tidy = rw link_zero at (reads_back e (written 0 e) 0 tidy (written_laid e))
