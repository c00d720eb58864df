-- What the code does to the draft: paths, steps, numbers, and any token by its class.
-- Assumes nothing.
use Prim.Native.Nat.{ℕ, ◌+◌, ◌<◌, ◌≤◌, max}
use native.Mathlib.Omega.{arith}
use mathlib.Core.Path.{◌≡◌, refl, sym, ◌∙◌, ap}
use mathlib.Core.Bool.{true, false, ◌&&◌, cond}
use mathlib.Core.Logic.{◌⊎◌, inl, inr, ⊎_elim}
use mathlib.Core.List.{List, [], ◌∷◌}
use lib.ListN.{take}
use lib.Dec.{T, eqb, leb}
use lib.Ieee.{Float}
use borrow.Author.Tests.{ne_eqb, leb-true, leb-false}
use Rattle.meaning.proofs.Bools.{eq_or_ne, is_true, or_none_r}
use Rattle.text.specs.declared.Sort.TheVariants.{Numeral, Unheld}
use Rattle.text.specs.Tokens.{code, class_of}
use Rattle.text.specs.Machine.{has, beginning}
use Rattle.text.specs.Limited.{Source, place, word_of, axis_number, value_at}
use Rattle.text.specs.Reading.{index_of, with, name_number, type_number}
use Rattle.text.specs.Survey.{mode_after}
use Rattle.text.proofs.Lexemes.{both_l, both_r}
use Rattle.text.specs.Composing.{Pen, pen, desk, Draft, draft, put, settled, push, paths_in, paths_on, with_pen, path_from, point_read, axis_read, test_read, step_ended, moved, number_read, compose_token}
use Rattle.modes.proofs.Table as Table
use Rattle.compose.specs.declared.Hand.{Hand}
use Rattle.compose.specs.declared.Bench.{Bench}
use Rattle.compose.specs.declared.State.{State}
use Rattle.compose.specs.Standing.{pen_of, frames_of, desk_of, mode_of, draft_of, Penned, Worked, Read, word_number, Deals, Dealt}
use Rattle.compose.specs.Deals.{of_desk, of_step}

-- ---- one after the other

pub read_kept : (s : State) (rows ops opens : List ℕ) (values : List Float) → Read s rows ops opens values (λ w. w) s rows ops opens values
    0
read_kept s rows ops opens values = record { draft_is = refl; grown = omega arith; most = omega arith; few = omega arith }

pub read_then :
    {s m r : State} {rows ops opens rows₁ ops₁ opens₁ rows' ops' opens' : List ℕ} {values values₁ values' : List Float}
    {f g : Draft → Draft} {k j : ℕ}
    → Read s rows ops opens values f m rows₁ ops₁ opens₁ values₁ k → Read m rows₁ ops₁ opens₁ values₁ g r rows' ops' opens' values' j
    → Read s rows ops opens values (λ w. g (f w)) r rows' ops' opens' values' (k + j)
read_then {g = g} v w =
    record {
      draft_is = w.draft_is ∙ ap g v.draft_is;
      grown = omega (arith, v.grown, w.grown);
      most = omega (arith, v.most, w.most);
      few = omega (arith, v.few, w.few);
    }

pub read_as :
    {s r : State} {rows ops opens rows' ops' opens' : List ℕ} {values values' : List Float} {f : Draft → Draft} {k : ℕ} (g : Draft → Draft)
    (j : ℕ)
    → Read s rows ops opens values f r rows' ops' opens' values' k
    → f (draft_of s rows ops opens values) ≡ g (draft_of s rows ops opens values) → k ≤ j
    → Read s rows ops opens values g r rows' ops' opens' values' j
read_as g j w e l = record { draft_is = w.draft_is ∙ e; grown = w.grown; most = omega (arith, w.most); few = w.few }

-- ---- parts of steps

module _ (s : State) (rows ops opens : List ℕ) (values : List Float) where
  paths_on_lem : paths_on (desk_of s.bench rows ops opens) ≡ paths_in (frames_of ops opens s.bench.height)
  unfolding desk_of paths_on
  paths_on_lem = refl

  pub path_begins :
      (op paths : ℕ) (b : Bench) {ops' opens' : List ℕ} → has beginning (mode_of s.mode) ≡ true
      → paths ≡ paths_in (frames_of ops opens s.bench.height) → Worked s.bench rows ops opens (push op 0 0) b rows ops' opens' 2
      → Read s rows ops opens values (path_from op)
      (record { mode = s.mode; axis = s.axis; literals = s.literals; deepest = max s.deepest (paths + 1); bench = b }) rows ops'
      opens' values 2
  unfolding draft_of path_from
  path_begins op paths b e p w =
      record { draft_is = rw (e, paths_on_lem, p, w.desk_is); grown = w.grown; most = w.most; few = omega (arith, w.grown) }

  pub path_goes_on : (op : ℕ) → has beginning (mode_of s.mode) ≡ false → Read s rows ops opens values (path_from op) s rows ops opens
      values 2
  unfolding draft_of path_from
  path_goes_on op e = record { draft_is = rw e; grown = omega arith; most = omega arith; few = omega arith }

  pub pointed :
      (mode axis : ℕ) {done : Hand} {rows' : List ℕ} → Penned s.bench.hand rows (put 24 s.bench.hand.link 0 axis 0 Unheld) done
      rows' 1
      → Read s rows ops opens values (point_read (mode_of mode) axis)
      (record {
        mode = mode;
        axis = s.axis;
        literals = s.literals;
        deepest = s.deepest;
        bench = record { hand = done; height = s.bench.height };
      })
      rows' ops opens values 1
  unfolding draft_of desk_of point_read pen_of
  pointed mode axis p =
      record {
        draft_is =
            ap (λ (q : Pen). draft (mode_of mode) s.axis (take s.literals values) s.deepest
            (desk (frames_of ops opens s.bench.height) q))
            p.pen_is;
        grown = p.grown;
        most = omega (arith, p.most);
        few = omega (arith, p.grown);
      }

  pub axis_set :
      (mode axis : ℕ)
      → Read s rows ops opens values (axis_read (mode_of mode) axis)
      (record { mode = mode; axis = axis; literals = s.literals; deepest = s.deepest; bench = s.bench }) rows ops opens values 0
  unfolding draft_of axis_read
  axis_set mode axis = record { draft_is = refl; grown = omega arith; most = omega arith; few = omega arith }

  pub tested :
      (mode test : ℕ) (b : Bench) {ops' opens' : List ℕ} → Worked s.bench rows ops opens (push 24 s.axis test) b rows ops' opens' 2
      → Read s rows ops opens values (test_read (mode_of mode) test)
      (record { mode = mode; axis = 1; literals = s.literals; deepest = s.deepest; bench = b }) rows ops' opens' values 2
  unfolding draft_of test_read
  tested mode test b w = record { draft_is = rw w.desk_is; grown = w.grown; most = w.most; few = omega (arith, w.grown) }

  pub ended :
      (b : Bench) {rows' : List ℕ} → has beginning (mode_of s.mode) ≡ false → Worked s.bench rows ops opens (settled 10) b rows' ops
      opens 0
      → Read s rows ops opens values step_ended
      (record { mode = s.mode; axis = s.axis; literals = s.literals; deepest = s.deepest; bench = b }) rows' ops opens values 0
  unfolding draft_of step_ended
  ended b e w = record { draft_is = rw (e, w.desk_is); grown = w.grown; most = w.most; few = omega (arith, w.grown) }

  pub not_ended : has beginning (mode_of s.mode) ≡ true → Read s rows ops opens values step_ended s rows ops opens values 0
  unfolding draft_of step_ended
  not_ended e = record { draft_is = rw e; grown = omega arith; most = omega arith; few = omega arith }

  pub mode_set :
      (mode : ℕ)
      → Read s rows ops opens values (moved (mode_of mode))
      (record { mode = mode; axis = s.axis; literals = s.literals; deepest = s.deepest; bench = s.bench }) rows ops opens values 0
  unfolding draft_of moved
  mode_set mode = record { draft_is = refl; grown = omega arith; most = omega arith; few = omega arith }

  -- ---- numbers

  rows_more : (op a b c d : ℕ) (h done : Hand) (rows rows' : List ℕ) → pen_of done rows' ≡ put op a b c d Numeral (pen_of h rows)
      → done.rows ≡ h.rows + 1
  unfolding pen_of put
  rows_more op a b c d h done rows rows' e = ap count e
    where
      count : Pen → ℕ
      count (pen l u n out) = n

  pub numbered :
      (mode literals index : ℕ) (value : Float) {done : Hand} {rows' : List ℕ} {values' : List Float} → index ≡ index_of
      (take s.literals values) value
      → take literals values' ≡ with (take s.literals values) value → literals ≤ s.literals + 1
      → Penned s.bench.hand rows (put 1 index 0 0 0 Numeral) done rows' 1
      → Read s rows ops opens values (number_read (mode_of mode) value)
      (record {
        mode = mode;
        axis = s.axis;
        literals = literals;
        deepest = s.deepest;
        bench = record { hand = done; height = s.bench.height };
      })
      rows' ops opens values' 1
  unfolding draft_of desk_of number_read with_pen
  numbered mode literals index value {done} {rows'} i k l p =
      let more = rows_more 1 index 0 0 0 s.bench.hand done rows rows' p.pen_is in
      record { draft_is = rw (p.pen_is, k, i); grown = p.grown; most = omega (arith, p.most); few = omega arith }

-- ---- tokens by their classes

module _ (s : State) (rows ops opens : List ℕ) (values : List Float) (src : Source) (i kind mode : ℕ)
    (m : mode_of mode ≡ mode_after (mode_of s.mode) (class_of kind)) where
  pub dealt_read :
      {number : ℕ} (b : Bench) {rows' ops' opens' : List ℕ} → number ≡ word_number src i kind
      → Dealt kind number s.mode s.bench rows ops opens b rows' ops' opens'
      → Read s rows ops opens values (λ w. compose_token src w i (class_of kind))
      (record { mode = mode; axis = s.axis; literals = s.literals; deepest = s.deepest; bench = b }) rows' ops' opens' values 4
  unfolding draft_of Deals
  dealt_read b n d =
      record {
        draft_is = rw m (sym (d.deals src i s.axis (take s.literals values) s.deepest n));
        grown = d.grown;
        most = d.most;
        few = omega (arith, d.grown);
      }

  pub as_dot :
      kind ≡ 4 → point_read (mode_of mode) 0 (path_from 22 (draft_of s rows ops opens values)) ≡ compose_token src
      (draft_of s rows ops opens values) i (class_of kind)
  unfolding compose_token draft_of
  as_dot e = rw (m, e)

  pub as_dots :
      kind ≡ 5 → point_read (mode_of mode) 2 (path_from 22 (draft_of s rows ops opens values)) ≡ compose_token src
      (draft_of s rows ops opens values) i (class_of kind)
  unfolding compose_token draft_of
  as_dots e = rw (m, e)

  pub as_slash :
      kind ≡ 17
      → moved (mode_of mode) (step_ended (path_from 23 (draft_of s rows ops opens values))) ≡ compose_token src
      (draft_of s rows ops opens values) i (class_of kind)
  unfolding compose_token draft_of
  as_slash e = rw (m, e)

  pub as_slashes :
      kind ≡ 18
      → point_read (mode_of mode) 5 (step_ended (path_from 23 (draft_of s rows ops opens values))) ≡ compose_token src
      (draft_of s rows ops opens values) i (class_of kind)
  unfolding compose_token draft_of
  as_slashes e = rw (m, e)

  pub as_number :
      (value : Float) → value ≡ value_at src.text (place src i) → kind ≡ 15
      → number_read (mode_of mode) value (draft_of s rows ops opens values) ≡ compose_token src (draft_of s rows ops opens values) i
      (class_of kind)
  unfolding compose_token draft_of
  as_number value v e = rw (m, e, v)

  module _ (number : ℕ) (n : number ≡ word_number src i kind) where
    pub as_axis :
        (kind ≡ 6) ⊎ (kind ≡ 13)
        → axis_read (mode_of mode) number (path_from 22 (draft_of s rows ops opens values)) ≡ compose_token src
        (draft_of s rows ops opens values) i (class_of kind)
    unfolding compose_token draft_of word_number code
    as_axis o =
        ⊎_elim (λ (e : kind ≡ 6). let k : word_number src i kind ≡ 11 = rw e in rw (m, e, n ∙ k))
        (λ (e : kind ≡ 13). let k : word_number src i kind ≡ axis_number (word_of src i) = rw e in rw (m, e, n ∙ k)) o

    pub as_test :
        (kind ≡ 9) ⊎ ((kind ≡ 10) ⊎ (kind ≡ 11))
        → test_read (mode_of mode) number (path_from 22 (draft_of s rows ops opens values)) ≡ compose_token src
        (draft_of s rows ops opens values) i (class_of kind)
    unfolding compose_token draft_of word_number code
    as_test o =
        ⊎_elim (λ (e : kind ≡ 9). let k : word_number src i kind ≡ name_number src i = rw e in rw (m, e, n ∙ k))
        (λ o. ⊎_elim (λ (e : kind ≡ 10). let k : word_number src i kind ≡ type_number (word_of src i) = rw e in rw (m, e, n ∙ k))
        (λ (e : kind ≡ 11). let k : word_number src i kind ≡ 4 = rw e in rw (m, e, n ∙ k)) o) o

-- ---- which class it is

-- a token of a step that is none of `.`, `..`, `@` and an axis is a node test
pub test_kind :
    (kind : ℕ) → of_step kind ≡ true → (kind ≡ 4 → ⊥) → (kind ≡ 5 → ⊥) → (kind ≡ 6 → ⊥) → (kind ≡ 13 → ⊥) → (kind ≡ 9) ⊎
    ((kind ≡ 10) ⊎ (kind ≡ 11))
unfolding of_step
test_kind kind t a b c d =
    let u : (leb 9 kind && leb kind 11) ≡ true = rw (ne_eqb kind 4 a, ne_eqb kind 5 b, ne_eqb kind 6 c, ne_eqb kind 13 d) at t in
    three kind (leb-true 9 kind (both_l (leb 9 kind) (leb kind 11) u)) (leb-true kind 11 (both_r (leb 9 kind) (leb kind 11) u))
  where
    three : (k : ℕ) → 9 ≤ k → k ≤ 11 → (k ≡ 9) ⊎ ((k ≡ 10) ⊎ (k ≡ 11))
    three k l h = elim (eq_or_ne k 9) [
      | inl e ↦ inl e
      | inr n ↦ elim (eq_or_ne k 10) [
        | inl e ↦ inr (inl e)
        | inr o ↦ inr (inr (omega arith))
      ]
    ]

-- seventeen of anything
numbers : List ℕ
numbers = 0 ∷ 0 ∷ 0 ∷ 0 ∷ 0 ∷ 0 ∷ 0 ∷ 0 ∷ 0 ∷ 0 ∷ 0 ∷ 0 ∷ 0 ∷ 0 ∷ 0 ∷ 0 ∷ 0 ∷ []

-- what changes more than the desk is a step's token, or a number, or a slash
pub step_kind : (kind : ℕ) → of_desk kind ≡ false → (kind ≡ 15 → ⊥) → kind < 17 → of_step kind ≡ true
unfolding numbers of_desk of_step
step_kind kind d n h =
    let t : T (cond (of_desk kind) true (cond (eqb kind 15) true (of_step kind))) =
    Table.at (λ k x. cond (of_desk k) true (cond (eqb k 15) true (of_step k))) numbers tt kind h in
    is_true (of_step kind) (rw (ne_eqb kind 15 n) at (rw d at t))

pub slash_kind : (kind : ℕ) → of_desk kind ≡ false → kind ≤ 18
unfolding of_desk
slash_kind kind d =
    let below : kind < 19 =
    leb-false 19 kind
    (or_none_r (eqb kind 16) _
    (or_none_r (eqb kind 14) _
    (or_none_r (eqb kind 12) _ (or_none_r (eqb kind 8) _ (or_none_r (eqb kind 7) _ (or_none_r (leb kind 3) _ d)))))) in
    omega arith
