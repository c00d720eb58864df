-- The turned chain grows from the inside out: behind the rows of the steps that are done, one more step is its predicates and its row.
-- `Behind` is what the writer's loop keeps: some tree of steps is done, its rows stand at the front, and the steps that are left lead to the whole chain.
-- Assumes nothing.
use Prim.Native.Nat.{ℕ, ◌+◌, ◌-◌, ◌*◌, ◌≤◌}
use mathlib.Core.Path.{◌≡◌, refl, sym, ap, ◌∙◌}
use mathlib.Core.Bool.{cond}
use mathlib.Core.List.{List, [], ◌∷◌, ◌++◌, append_assoc, append-nil}
use lib.Dec.{eqb}
use lib.ListN.{length, length-append}
use lib.Seq.{sets, length-sets}
use native.Mathlib.Omega.{arith}
use Rattle.meaning.specs.Rows.{code, is_literal, first_link}
use Rattle.meaning.specs.declared.Op.TheVariants.{Step}
use Rattle.meaning.specs.Tree.{Tree, none, node, tree, index_or_axis}
use Rattle.meaning.specs.Turning.{inverse_of, predicates, test, back, weight, link, row, written}
use Rattle.meaning.proofs.Trees.{tree_zero, tree_row}
use Rattle.meaning.proofs.ReadBack.{length_written, link_zero}
use Rattle.meaning.proofs.Demand.{weight_back}
use Rattle.meaning.proofs.Written.{sets_behind, link_from}
use Rattle.turn.specs.declared.pen.Pen.{Pen}
use Rattle.turn.specs.Parts.{Room, step_rows, chain}
use Rattle.turn.specs.Wrote.{Wrote}

-- a step behind the steps that are done
abbrev further : Tree → Tree → ℕ → Tree
further done s axis = node Step done (predicates s) axis (test s)

-- its rows stand behind theirs
written_further : (done s : Tree) (axis at : ℕ) → at ≡ weight done → written 0 (further done s axis) ≡ written 0 done ++ step_rows at s axis
unfolding written step_rows
written_further done s axis at e =
    let z : 0 + weight done ≡ at = omega arith in
    rw (z, link_zero done, ← e)

weight_further : (done s : Tree) (axis at : ℕ) → at ≡ weight done → at + weight (predicates s) + 1 ≡ weight (further done s axis)
unfolding weight
weight_further done s axis at e = omega arith

-- the first step back of a chain is done, the others are left
back_row : (p : List ℕ) (l a : ℕ) (done : Tree) → (l ≡ 0 → ⊥) → a ≡ first_link p (l - 1) → back (tree p l) done ≡ back (tree p a) (further done (tree p a) (inverse_of (index_or_axis p (l - 1))))
unfolding back
back_row p l a done h e = rw (tree_row p l h, ← e)

-- the predicates of a chain's last step are rows of the chain
pub few_predicates : (s : Tree) → weight (predicates s) ≤ weight s
unfolding weight predicates
few_predicates none = omega arith
few_predicates (node op a b c d) = omega arith

-- the turned chain has one row more
pub weight_chain : (s : Tree) → weight (chain s) ≡ weight s + 1
unfolding chain weight
weight_chain s = omega (arith, weight_back s (further none s 0))

-- ---- one step

-- what was written keeps the output's length
pub wrote_length : (before after : Pen) (rows : List ℕ) (n : ℕ) → Wrote before after rows n → length after.out.now ≡ length before.out.now
wrote_length before after rows n w = ap length w.stored ∙ length-sets before.out.now (5 * before.at) rows

-- the predicates, then the step's row
pub step_stored : (p : List ℕ) (l held at m axis u d : ℕ) (out x z : List ℕ) → tree p held ≡ predicates (tree p l)
    → (m ≡ at + weight (tree p held)) × (x ≡ sets out (5 * at) (written at (tree p held)))
    → u ≡ cond (eqb held 0) 0 m → d ≡ test (tree p l) → z ≡ sets x (5 * m) (24 ∷ at ∷ u ∷ axis ∷ d ∷ [])
    → (m + 1 ≡ at + weight (predicates (tree p l)) + 1) × (z ≡ sets out (5 * at) (step_rows at (tree p l) axis))
unfolding step_rows row is_literal code
step_stored p l held at m axis u d out x z e f g h k =
    let P : List ℕ = written at (tree p held) in
    let la : u ≡ link at (tree p held) = g ∙ link_from p held at m f.0 in
    rw (← e, ← la, ← h) (
      omega arith,
      k ∙ sets_behind P (24 ∷ at ∷ u ∷ axis ∷ d ∷ []) out x (5 * at) (5 * m) f.1 (omega (arith, length_written at (tree p held))),
    )

-- ---- the loop

module _ (p : List ℕ) (last : ℕ) (start : List ℕ) (first : ℕ) where
  -- from the first step's rows on, `rest` was stored; with it the rows are those of the steps that are done
  pub record Behind (out : List ℕ) (at from : ℕ) : Type 0 where
    pub done : Tree
    pub rest : List ℕ
    pub room : Room start (weight (tree p last) + 1)
    pub began : first ≡ weight (further none (tree p last) 0)
    pub next : at ≡ weight done
    pub stored : out ≡ sets start (5 * first) rest
    pub stand : written 0 done ≡ written 0 (further none (tree p last) 0) ++ rest
    pub left : back (tree p from) done ≡ chain (tree p last)

  -- the first step is done
  pub behind_start : (out : List ℕ) → Room out (weight (tree p last) + 1)
      → (first ≡ 0 + weight (predicates (tree p last)) + 1) × (start ≡ sets out (5 * 0) (step_rows 0 (tree p last) 0)) → Behind start first last
  unfolding chain weight
  behind_start out k f =
      let s : Tree = tree p last in
      let e : length start ≡ length out = ap length f.1 ∙ length-sets out (5 * 0) (step_rows 0 s 0) in
      record {
        done = further none s 0;
        rest = [];
        room = record { few = k.few; holds = omega (arith, k.holds) };
        began = omega arith;
        next = omega arith;
        stored = refl;
        stand = sym (append-nil (written 0 (further none s 0)));
        left = refl;
      }

  module _ (out : List ℕ) (at from : ℕ) (i : Behind out at from) where
    -- the output keeps its length
    pub behind_length : length out ≡ length start
    behind_length = ap length i.stored ∙ length-sets start (5 * first) i.rest

    -- where what was stored ends
    reached : 5 * first + length i.rest ≡ 5 * at
    reached =
        omega (
          arith,
          i.next,
          i.began,
          length_written 0 i.done,
          length_written 0 (further none (tree p last) 0),
          simp length-append at (ap length i.stand),
        )

    -- the chain has no step left
    pub behind_done : (entry : List ℕ) → from ≡ 0 → start ≡ sets entry (5 * 0) (step_rows 0 (tree p last) 0)
        → (at ≡ weight (chain (tree p last))) × (out ≡ sets entry 0 (written 0 (chain (tree p last))))
    unfolding back weight step_rows written
    behind_done entry e f =
        let s : Tree = tree p last in
        let d : i.done ≡ chain s = sym (ap (λ (x : Tree). back x i.done) (ap (tree p) e ∙ tree_zero p)) ∙ i.left in
        let w : written 0 (further none s 0) ≡ step_rows 0 s 0 = written_further none s 0 0 refl in
        let b : 0 + length (step_rows 0 s 0) ≡ 5 * first = omega (arith, i.began, length_written 0 (further none s 0), ap length w) in (
          i.next ∙ ap weight d,
          i.stored
              ∙ sets_behind (step_rows 0 s 0) i.rest entry start 0 (5 * first) f b
              ∙ ap (sets entry 0) (ap (λ (x : List ℕ). x ++ i.rest) (sym w) ∙ sym i.stand ∙ ap (written 0) d),
        )

    module _ (more : from ≡ 0 → ⊥) (before : ℕ) (is-before : before ≡ first_link p (from - 1)) where
      -- there is room for one step more
      pub behind_room : Room out (at + weight (predicates (tree p before)) + 1)
      behind_room =
          let b : Tree = tree p before in
          let k : ℕ = inverse_of (index_or_axis p (from - 1)) in
          let w : weight (back b (further i.done b k)) ≡ weight (chain (tree p last)) = ap weight (sym (back_row p from before i.done more is-before) ∙ i.left) in
          let n : at + weight b + 1 ≡ weight (tree p last) + 1 =
          omega (arith, w, weight_back b (further i.done b k), weight_further i.done b k at i.next, weight_chain (tree p last)) in
          record { few = omega (arith, few_predicates b, i.room.few); holds = omega (arith, few_predicates b, behind_length, i.room.holds) }

      -- one step more is done
      pub behind_step : (axis c at' : ℕ) (out' : List ℕ) → c ≡ index_or_axis p (from - 1) → axis ≡ inverse_of c
          → (at' ≡ at + weight (predicates (tree p before)) + 1) × (out' ≡ sets out (5 * at) (step_rows at (tree p before) axis))
          → Behind out' at' before
      behind_step axis c at' out' f g k =
          let done : Tree = further i.done (tree p before) axis in
          let e : back (tree p before) done ≡ back (tree p from) i.done =
          ap (λ (n : ℕ). back (tree p before) (further i.done (tree p before) n)) (g ∙ ap inverse_of f) ∙ sym (back_row p from before i.done more is-before) in
          record {
            done = done;
            rest = i.rest ++ step_rows at (tree p before) axis;
            room = i.room;
            began = i.began;
            next = k.0 ∙ weight_further i.done (tree p before) axis at i.next;
            stored = k.1 ∙ sets_behind i.rest (step_rows at (tree p before) axis) start out (5 * first) (5 * at) i.stored reached;
            stand = written_further i.done (tree p before) axis at i.next ∙ rw i.stand (append_assoc (written 0 (further none (tree p last) 0)) i.rest (step_rows at (tree p before) axis));
            left = e ∙ i.left;
          }
