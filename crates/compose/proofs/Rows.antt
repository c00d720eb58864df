-- Rows written one behind the other: what a row adds to the pen.
-- Assumes nothing.
use Prim.Native.Nat.{ℕ, ◌+◌, ◌*◌, ◌<◌, ◌≤◌}
use native.Mathlib.Omega.{arith}
use mathlib.Core.Path.{◌≡◌, refl, ◌∙◌, ap}
use mathlib.Core.List.{List, [], ◌∷◌, ◌++◌}
use lib.ListN.{length, take, drop, length-append}
use lib.Seq.{sets, sets-eq, take_at, length-take-le, length-sets}
use borrow.Author.Tests.{eq-eqb, ne_eqb, le-leb, lt-leb}
use Rattle.text.specs.declared.Sort.{Sort}
use Rattle.text.specs.declared.Sort.TheVariants.{Numeral, Truth, Nodes, Unheld}
use Rattle.text.specs.Composing.{frame, Pen, pen, put, link_of, truthful, predicable, row_of}
use Rattle.compose.specs.declared.Hand.{Hand}
use Rattle.compose.specs.Standing.{pen_of, Penned}

-- what is stored behind the front is added to it
pub front_more : (l vs : List ℕ) (i j : ℕ) → i + length vs ≡ j → j ≤ length l → take j (sets l i vs) ≡ take i l ++ vs
front_more l vs i j e h =
    let k : i + length vs ≤ length l = omega arith in
    let n : length (take i l ++ vs) ≡ j = length-append (take i l) vs
    ∙ (ap (λ (n : ℕ). n + length vs) (length-take-le i l (omega arith)) ∙ e) in
    ap (take j) (sets-eq vs l i k) ∙ take_at (take i l ++ vs) (drop (i + length vs) l) j n

-- a row is stored behind the others
pub row_more :
    (h : Hand) (rows rows' : List ℕ) (op a b c d : ℕ) (v : Sort) → 5 * h.rows + 5 ≤ length rows
    → rows' ≡ sets rows (5 * h.rows) (op ∷ a ∷ b ∷ c ∷ d ∷ [])
    → Penned h rows (put op a b c d v) (record { link = h.rows + 1; sort = v; rows = h.rows + 1 }) rows' 1
unfolding pen_of put
row_more h rows rows' op a b c d v room e =
    let n : 5 * h.rows + 5 ≡ 5 * (h.rows + 1) = omega arith in
    record {
      pen_is =
          ap (pen (h.rows + 1) v (h.rows + 1))
          (ap (take (5 * (h.rows + 1))) e ∙ front_more rows (op ∷ a ∷ b ∷ c ∷ d ∷ []) (5 * h.rows) (5 * (h.rows + 1)) n (omega arith));
      kept = ap length e ∙ length-sets rows (5 * h.rows) (op ∷ a ∷ b ∷ c ∷ d ∷ []);
      grown = omega arith;
      most = omega arith;
    }

-- nothing is done
pub pen_kept : (h : Hand) (rows : List ℕ) → Penned h rows (λ p. p) h rows 0
pen_kept h rows = record { pen_is = refl; kept = refl; grown = omega arith; most = omega arith }

-- the same done by another name
pub penned_as :
    {h r : Hand} {rows rows' : List ℕ} {f : Pen → Pen} {k : ℕ} (g : Pen → Pen) (j : ℕ) → Penned h rows f r rows' k
    → f (pen_of h rows) ≡ g (pen_of h rows) → k ≤ j → Penned h rows g r rows' j
penned_as g j p e l = record { pen_is = p.pen_is ∙ e; kept = p.kept; grown = p.grown; most = omega (arith, p.most) }

-- one after the other
pub penned_then :
    {h m r : Hand} {rows rows₁ rows' : List ℕ} {f g : Pen → Pen} {k j : ℕ} → Penned h rows f m rows₁ k → Penned m rows₁ g r rows' j
    → Penned h rows (λ p. g (f p)) r rows' (k + j)
penned_then {g = g} p q =
    record {
      pen_is = q.pen_is ∙ ap g p.pen_is;
      kept = q.kept ∙ p.kept;
      grown = omega (arith, p.grown, q.grown);
      most = omega (arith, p.most, q.most);
    }

-- the link in hand is the pen's
pub link_in : (F : ℕ → Pen → Pen) (t : Hand) (rows : List ℕ) (q : Pen) → pen_of t rows ≡ q → F t.link (pen_of t rows) ≡ F (link_of q) q
unfolding pen_of
link_in F t rows q e = ap (λ (q : Pen). F (link_of q) q) e

module _ (h : Hand) (rows : List ℕ) where
  pub truthful_numeral : h.sort ≡ Numeral → put 19 h.link 0 0 0 Truth (pen_of h rows) ≡ truthful (pen_of h rows)
  unfolding pen_of put truthful
  truthful_numeral e = rw e

  pub truthful_nodes : h.sort ≡ Nodes → put 20 h.link 0 0 0 Truth (pen_of h rows) ≡ truthful (pen_of h rows)
  unfolding pen_of put truthful
  truthful_nodes e = rw e

  pub truthful_truth : h.sort ≡ Truth → pen_of h rows ≡ truthful (pen_of h rows)
  unfolding pen_of truthful
  truthful_truth e = rw e

  pub truthful_unheld : h.sort ≡ Unheld → pen_of h rows ≡ truthful (pen_of h rows)
  unfolding pen_of truthful
  truthful_unheld e = rw e

  pub predicable_nodes : h.sort ≡ Nodes → put 20 h.link 0 0 0 Truth (pen_of h rows) ≡ predicable (pen_of h rows)
  unfolding pen_of put predicable
  predicable_nodes e = rw e

  pub predicable_numeral : h.sort ≡ Numeral → pen_of h rows ≡ predicable (pen_of h rows)
  unfolding pen_of predicable
  predicable_numeral e = rw e

  pub predicable_truth : h.sort ≡ Truth → pen_of h rows ≡ predicable (pen_of h rows)
  unfolding pen_of predicable
  predicable_truth e = rw e

  pub predicable_unheld : h.sort ≡ Unheld → pen_of h rows ≡ predicable (pen_of h rows)
  unfolding pen_of predicable
  predicable_unheld e = rw e

  -- ---- the row of a frame, by its op

  module _ (op a c d : ℕ) where
    pub fill_step : op ≡ 24 → put op a h.link c d Unheld (pen_of h rows) ≡ row_of (frame op a c d 0 0) (pen_of h rows)
    unfolding pen_of row_of
    fill_step e = rw (eq-eqb op 24 e)

    pub fill_path : (op ≡ 24 → ⊥) → 22 ≤ op → put op h.link 0 0 0 Nodes (pen_of h rows) ≡ row_of (frame op a c d 0 0) (pen_of h rows)
    unfolding pen_of row_of
    fill_path n l = rw (ne_eqb op 24 n, le-leb 22 op l)

    pub fill_sign : op ≡ 9 → put op h.link 0 0 0 Numeral (pen_of h rows) ≡ row_of (frame op a c d 0 0) (pen_of h rows)
    unfolding pen_of row_of
    fill_sign e = rw e

    pub fill_number : (op ≡ 9 → ⊥) → op ≤ 9 → put op a h.link 0 0 Numeral (pen_of h rows) ≡ row_of (frame op a c d 0 0) (pen_of h rows)
    unfolding pen_of row_of
    fill_number n l = rw (ne_eqb op 24 (λ e. omega arith), lt-leb 22 op (omega arith), ne_eqb op 9 n, le-leb op 9 l)

    pub fill_test : 9 < op → op ≤ 15 → put op a h.link 0 0 Truth (pen_of h rows) ≡ row_of (frame op a c d 0 0) (pen_of h rows)
    unfolding pen_of row_of
    fill_test n l =
        rw (ne_eqb op 24 (λ e. omega arith), lt-leb 22 op (omega arith), ne_eqb op 9 (λ e. omega arith), lt-leb op 9 n, le-leb op 15 l)

    -- the second operand of and and or is made a truth first
    pub fill_truth :
        (t : Hand) (rows₁ : List ℕ) → pen_of t rows₁ ≡ truthful (pen_of h rows) → 15 < op → op < 22
        → put op a t.link 0 0 Truth (truthful (pen_of h rows)) ≡ row_of (frame op a c d 0 0) (pen_of h rows)
    unfolding pen_of row_of
    fill_truth t rows₁ e n l =
        let k : t.link ≡ link_of (truthful (pen_of h rows)) = ap link_of e in
        rw (ne_eqb op 24 (λ e. omega arith), lt-leb 22 op l, ne_eqb op 9 (λ e. omega arith), lt-leb op 9 (omega arith), lt-leb op 15 n)
        (ap (λ (n : ℕ). put op a n 0 0 Truth (truthful (pen_of h rows))) k)
