-- Rows written from a tree that is made by the rules, and whose top is a path, are accepted.
-- A tree's rows are a block: those of a, those of b, then its own; a fact of each row of a block is a fact of a block's last row.
-- Links of a block stay in the block, so a row links what no other does, and every row of a block but its last is linked in it.
-- Assumes nothing.
use Prim.Native.Nat.{ℕ, zero, suc, ◌+◌, ◌-◌, ◌%◌, ◌<◌, ◌≤◌}
use mathlib.Core.Path.{◌≡◌, refl, sym, subst, ap, ◌∙◌}
use mathlib.Core.Logic.{◌⊎◌, inl, inr}
use mathlib.Core.Bool.{Bool, true, false, ◌&&◌, ◌||◌, and-false}
use mathlib.Core.List.{List}
use lib.ListN.{length}
use lib.Dec.{T, ltb, eqb}
use native.Mathlib.Omega.{arith}
use native.Mathlib.Nat.{eq-or-lt_of_le}
use borrow.Author.Tests.{le-leb, ne_eqb, eq-eqb}
use Rattle.meaning.specs.Lists.{up_to}
use Rattle.meaning.specs.Rows.{op_of, op_at, fields_of, is_link, is_path, is_unknown, good_fields, first_link, second_link, links, linked_below, links_again, misplaced, broken_row, rows_of, path_length_allowed, most_path_rows}
use Rattle.meaning.specs.declared.Op.{Op}
use Rattle.meaning.specs.Tree.{Tree, none, node, depth, most_depth}
use Rattle.meaning.specs.Turning.{weight, link, written}
use Rattle.meaning.proofs.Bools.{is_true, or_i_l, or_i_r, eq→eqb, lt_or_ge}
use Rattle.meaning.proofs.Lists.{none_below, some_from, has_up_to_from}
use Rattle.meaning.proofs.Trees.{first_le, second_le}
use Rattle.meaning.proofs.Ops.{op_code}
use Rattle.meaning.proofs.Exactly.{AcceptedPath, GoodRows}
use Rattle.meaning.proofs.Paths.{unlinked_above}
use Rattle.meaning.proofs.ReadBack.{Tidy, Laid, Reads, row_reads, link_le, link_kept, length_written, written_rows, written_laid, written_reads_back}
use Rattle.meaning.proofs.Made.{Made, Stands, good_node, row_as_node}

-- the rows from n on are those of a tree that is tidy and made by the rules
pub record Block (p : List ℕ) (literals n : ℕ) (e : Tree) : Type 0 where
  pub tidy : Tidy e
  pub made : Made literals e
  pub laid : Laid p n e

-- the link to a tree that has rows, and the link to one from a row behind it
link_some : (n : ℕ) (a : Tree) → 0 < weight a → link n a ≡ n + weight a
unfolding link weight
link_some n none h = absurd (omega arith)
link_some n (node op a b c d) h = refl

link_none : (n : ℕ) (a : Tree) → 0 < link n a → 0 < weight a
unfolding link weight
link_none n none h = h
link_none n (node op a b c d) h = omega arith

-- a link is none, or to a row from n on
abbrev Past : ℕ → ℕ → Type 0
Past n l = (l ≡ 0) ⊎ (n < l)

past_link : (n : ℕ) (a : Tree) → Past n (link n a)
unfolding link weight
past_link n none = inl refl
past_link n (node op a b c d) = inr (omega arith)

past_down : (m n l : ℕ) → n ≤ m → Past m l → Past n l
past_down m n l h (inl e) = inl e
past_down m n l h (inr k) = inr (omega arith)

not_past : (n l : ℕ) → 0 < n → Past n l → l ≡ n → ⊥
not_past n l h (inl e) q = omega arith
not_past n l h (inr k) q = omega arith

fresh_link : (l : ℕ) (again : Bool) → (0 < l → again ≡ false) → (ltb 0 l && again) ≡ false
fresh_link zero again h = refl
fresh_link (suc l) again h = rw (h (omega arith), and-false)

module _ (p : List ℕ) (literals : ℕ) where
  first_block : {n : ℕ} {op : Op} {a b : Tree} {c d : ℕ} → Block p literals n (node op a b c d) → Block p literals n a
  first_block k = record { tidy = k.tidy.4; made = k.made.2; laid = k.laid.0 }

  second_block : {n : ℕ} {op : Op} {a b : Tree} {c d : ℕ} → Block p literals n (node op a b c d) → Block p literals (n + weight a) b
  second_block k = record { tidy = k.tidy.5; made = k.made.3; laid = k.laid.1 }

  -- what the last row of each block says, and a block says of the blocks around it, every row of a block says
  module _ (P : ℕ → ℕ → Type 0) (around : (m n r : ℕ) → n ≤ m → P m r → P n r)
      (last : (n : ℕ) (op : Op) (a b : Tree) (c d : ℕ) → Block p literals n (node op a b c d) → P n (n + weight a + weight b)) where
    each_row : (e : Tree) (n : ℕ) → Block p literals n e → (r : ℕ) → n ≤ r → r < n + weight e → P n r
    unfolding weight
    each_row none n k r h l = absurd (omega arith)
    each_row (node op a b c d) n k r h l = elim (lt_or_ge r (n + weight a)) [
      | inl m ↦ each_row a n (first_block k) r h m
      | inr m ↦ elim (eq-or-lt_of_le {n = r} {m = n + weight a + weight b} (omega arith)) [
        | inl e ↦ subst (P n) (sym e) (last n op a b c d k)
        | inr o ↦ around (n + weight a) n r (omega arith) (each_row b (n + weight a) (second_block k) r m o)
      ]
    ]

  module _ (n : ℕ) (op : Op) (a b : Tree) (c d : ℕ) (k : Block p literals n (node op a b c d)) where
    reads : Reads p (n + weight a + weight b) op (link n a) (link (n + weight a) b) c d
    reads = row_reads p n op a b c d k.tidy k.laid

    last_past : Past n (first_link p (n + weight a + weight b)) × Past n (second_link p (n + weight a + weight b))
    last_past = (
      rw reads.first_read (past_link n a),
      rw reads.second_read (past_down (n + weight a) n (link (n + weight a) b) (omega arith) (past_link (n + weight a) b)),
    )

  -- a block's rows link rows of the block
  links_stay : (e : Tree) (n : ℕ) → Block p literals n e → (r : ℕ) → n ≤ r → r < n + weight e → Past n (first_link p r) × Past n (second_link p r)
  links_stay = each_row (λ n r. Past n (first_link p r) × Past n (second_link p r))
      (λ m n r h s. (past_down m n (first_link p r) h s.0, past_down m n (second_link p r) h s.1)) last_past

  laid_stands : (a : Tree) (n r : ℕ) → Laid p n a → n + weight a ≤ r → Stands p r (link n a) a
  unfolding Stands link weight
  laid_stands none n r l h = refl
  laid_stands (node op a b c d) n r l h =
      let e : n + (weight a + weight b + 1) - 1 ≡ n + weight a + weight b = omega arith in
      (omega arith, h, ap (op_at p) e ∙ ap op_of l.2.op_at_lem ∙ op_code op)

  -- a block's rows have known ops and good fields
  last_good : (n : ℕ) (op : Op) (a b : Tree) (c d : ℕ) → Block p literals n (node op a b c d)
      → (is_unknown (op_at p (n + weight a + weight b)) ≡ false) × (good_fields p literals (n + weight a + weight b) ≡ true)
  last_good n op a b c d k =
      let m : ℕ = n + weight a in
      let r : ℕ = m + weight b in (
        rw (reads n op a b c d k).op_read k.made.0,
        row_as_node p literals r op a b (link n a) (link m b) c d k.laid.2
            (laid_stands a n r k.laid.0 (omega arith)) (laid_stands b m r k.laid.1 (omega arith))
            (link_kept (is_link (fields_of op).a) n a k.tidy.0) (link_kept (is_link (fields_of op).b) m b k.tidy.1)
            ∙ is_true (good_node literals op a b c d) k.made.1,
      )

  -- a block's rows link what no lower row links
  last_once : (n : ℕ) (op : Op) (a b : Tree) (c d : ℕ) → Block p literals n (node op a b c d) → links_again p (n + weight a + weight b) ≡ false
  unfolding links_again linked_below links
  last_once n op a b c d k =
      let m : ℕ = n + weight a in
      let r : ℕ = m + weight b in
      let f : ℕ = link n a in
      let g : ℕ = link m b in
      let one : 0 < f → linked_below p r f ≡ false = λ h.
      let w : 0 < weight a = link_none n a h in
      let e : link n a ≡ m = link_some n a w in
      rw e (none_below (λ q. links p q m) r (λ q o. elim (lt_or_ge q m) [
        | inl u ↦ rw (ne_eqb (first_link p q) m (λ z. omega (arith, first_le p q)), ne_eqb (second_link p q) m (λ z. omega (arith, second_le p q)))
        | inr u ↦
            let s : Past m (first_link p q) × Past m (second_link p q) = links_stay b m (second_block k) q u o in
            rw (ne_eqb (first_link p q) m (not_past m (first_link p q) (omega arith) s.0), ne_eqb (second_link p q) m (not_past m (second_link p q) (omega arith) s.1))
      ])) in
      let two : 0 < g → (linked_below p r g || eqb f g) ≡ false = λ h.
      let e : link m b ≡ r = link_some m b (link_none m b h) in
      rw (unlinked_above p r g (omega arith) h, ne_eqb f g (λ z. omega (arith, link_le n a, link_none m b h))) in
      let s : Reads p r op f g c d = reads n op a b c d k in
      rw (s.first_read, s.second_read, fresh_link f (linked_below p r f) one, fresh_link g (linked_below p r g || eqb f g) two)

  -- every row of a block but its last is linked by a row of the block
  linked_within : (e : Tree) (n : ℕ) → Block p literals n e → (l : ℕ) → n < l → l < n + weight e → (r : ℕ) × (r < n + weight e) × T (links p r l)
  unfolding weight links
  linked_within none n k l x y = absurd (omega arith)
  linked_within (node op a b c d) n k l x y =
      let m : ℕ = n + weight a in
      let r : ℕ = m + weight b in
      let s : Reads p r op (link n a) (link m b) c d = reads n op a b c d k in
      elim (lt_or_ge l m) [
        | inl u ↦ let i : (r : ℕ) × (r < m) × T (links p r l) = linked_within a n (first_block k) l x u in (i.0, omega arith, i.2)
        | inr u ↦ elim (eq-or-lt_of_le {n = m} {m = l} u) [
          | inl e ↦
              let q : first_link p r ≡ l = s.first_read ∙ link_some n a (omega arith) ∙ e in
              (r, omega arith, or_i_l (eqb (first_link p r) l) (eqb (second_link p r) l) (eq→eqb (first_link p r) l q))
          | inr v ↦ elim (lt_or_ge l r) [
            | inl w ↦ let i : (q : ℕ) × (q < r) × T (links p q l) = linked_within b m (second_block k) l v w in (i.0, omega arith, i.2)
            | inr w ↦
                let z : r ≡ l = omega arith in
                let q : second_link p r ≡ l = s.second_read ∙ link_some m b (omega arith) ∙ z in
                (r, omega arith, or_i_r (eqb (first_link p r) l) (eqb (second_link p r) l) (eq→eqb (second_link p r) l q))
          ]
        ]
      ]

  -- ---- a whole path

  module _ (op : Op) (a b : Tree) (c d : ℕ) (k : Block p literals 0 (node op a b c d)) (path : is_path op ≡ true) (all : rows_of p ≡ weight (node op a b c d)) where
    placed_row : (r : ℕ) → r < rows_of p → misplaced p r ≡ false
    unfolding misplaced weight linked_below
    placed_row r h = elim (eq-or-lt_of_le {n = suc r} {m = rows_of p} h) [
      | inl e ↦
          let o : r ≡ 0 + weight a + weight b = omega arith in
          rw (eq-eqb (r + 1) (rows_of p) (omega arith), o, (reads 0 op a b c d k).op_read, path)
      | inr l ↦
          let i : (q : ℕ) × (q < 0 + (weight a + weight b + 1)) × T (links p q (r + 1)) = linked_within (node op a b c d) 0 k (r + 1) (omega arith) (omega arith) in
          rw (
            ne_eqb (r + 1) (rows_of p) (λ e. omega arith),
            is_true (linked_below p (rows_of p) (r + 1)) (some_from (λ q. links p q (r + 1)) (up_to (rows_of p)) i.0 i.2 (has_up_to_from (rows_of p) i.0 (omega arith))),
          )
    ]

    whole_row : (r : ℕ) → r < rows_of p → broken_row p literals r ≡ false
    unfolding broken_row
    whole_row r h =
        let e : Tree = node op a b c d in
        let l : r < 0 + weight e = omega arith in
        let g : (is_unknown (op_at p r) ≡ false) × (good_fields p literals r ≡ true) =
        each_row (λ n r. (is_unknown (op_at p r) ≡ false) × (good_fields p literals r ≡ true)) (λ m n r h s. s) last_good e 0 k r (omega arith) l in
        let o : links_again p r ≡ false = each_row (λ n r. links_again p r ≡ false) (λ m n r h s. s) last_once e 0 k r (omega arith) l in
        rw (g.0, g.1, o, placed_row r h)

-- no row is broken that is written from a tidy tree which is made by the rules, and whose top is a path, however many rows it has
pub written_whole : (literals : ℕ) (op : Op) (a b : Tree) (c d : ℕ) → Tidy (node op a b c d) → Made literals (node op a b c d) → is_path op ≡ true
    → GoodRows (written 0 (node op a b c d)) literals
written_whole literals op a b c d tidy made path =
    let e : Tree = node op a b c d in
    whole_row (written 0 e) literals op a b c d (record { tidy = tidy; made = made; laid = written_laid e }) path (written_rows e)

-- rows written from a tidy tree that is made by the rules, and whose top is a path, are accepted
pub written_accepted : (literals : ℕ) (op : Op) (a b : Tree) (c d : ℕ) → Tidy (node op a b c d) → Made literals (node op a b c d) → is_path op ≡ true
    → weight (node op a b c d) ≤ most_path_rows → depth (node op a b c d) ≤ most_depth → AcceptedPath (written 0 (node op a b c d)) literals
unfolding path_length_allowed weight
written_accepted literals op a b c d tidy made path few shallow =
    let e : Tree = node op a b c d in
    let q : List ℕ = written 0 e in
    let n : rows_of q ≡ weight e = written_rows e in
    record {
      allowed = rw (eq-eqb (length q % 5) 0 (omega (arith, length_written 0 e)), le-leb 1 (rows_of q) (omega arith), le-leb (rows_of q) most_path_rows (omega arith));
      whole = written_whole literals op a b c d tidy made path;
      shallow = rw (n, written_reads_back e tidy) shallow;
    }
