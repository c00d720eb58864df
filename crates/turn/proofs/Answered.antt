-- The turner's answers, check by check, and what its output then holds; and what an accepted path has that gets through.
-- Assumes nothing.
use Prim.Native.Nat.{ℕ, ◌+◌, ◌-◌, ◌*◌, ◌<◌, ◌≤◌}
use mathlib.Core.Path.{◌≡◌, refl, sym, ap, ◌∙◌}
use mathlib.Core.Bool.{false}
use mathlib.Core.List.{List, [], ◌∷◌, ◌++◌}
use lib.ListN.{length, drop, length-append}
use lib.Seq.{sets}
use lib.Ieee.{Float}
use native.Mathlib.Omega.{arith}
use borrow.Author.Tests.{lt-ltb, le-ltb, ne_eqb}
use Rattle.meaning.specs.Rows.{op_of, op_at, code, is_literal, fields_of, is_link, first_link, second_link, rows_of, most_path_rows}
use Rattle.meaning.specs.declared.Op.{Op}
use Rattle.meaning.specs.declared.Op.TheVariants.{Absolute, Relative}
use Rattle.meaning.specs.declared.Refusal.{Refusal}
use Rattle.meaning.specs.Tree.{none, node, tree, index_or_axis, test_at}
use Rattle.meaning.specs.Meaning.{is_absolute}
use Rattle.meaning.specs.Turning.{first_step, is_counting, is_of_attributes, turned, weight, link, row, written}
use Rattle.meaning.specs.Answers.{answer, refused, path_tree, path_answer, output, counting_step, attribute_step, absolute_path, turning, turned_rows, turned_output}
use Rattle.meaning.specs.Promises.{TurnsPath}
use Rattle.meaning.specs.declared.Answer.{Answer}
use Rattle.meaning.proofs.Ops.{op_code}
use Rattle.meaning.proofs.Trees.{tree_zero, tree_row}
use Rattle.meaning.proofs.Exactly.{AcceptedPath}
use Rattle.meaning.proofs.Checks.{path_accepted, path_passes, path_stops, most_rows_lem}
use Rattle.meaning.proofs.Outcome.{refusal_number}
use Rattle.meaning.proofs.Paths.{some_path_row, top_is_path, all_rows}
use Rattle.meaning.proofs.ReadBack.{length_written, link_zero}
use Rattle.meaning.proofs.Demand.{relative_is}
use Rattle.meaning.proofs.Written.{sets_behind, sets_front}
use Rattle.turn.specs.Parts.{Room, Turnable, chain}
use Rattle.turn.proofs.Chain.{weight_chain}

-- ---- the turned rows

module _ (p : List ℕ) (n last : ℕ) (is-n : n ≡ rows_of p) (is_last : last ≡ first_link p (n - 1)) (out : List ℕ) (k : Turnable p out) where
  chain_link : last ≡ first_link p (rows_of p - 1)
  chain_link = rw (← is-n) is_last

  -- a relative path has no second link
  nothing_second : second_link p (rows_of p - 1) ≡ 0
  unfolding second_link fields_of is_link
  nothing_second = rw k.relative

  -- a relative path's rows are its steps' and its own
  top : path_tree p ≡ node Relative (tree p last) none (index_or_axis p (rows_of p - 1)) (test_at p (rows_of p - 1))
  top = tree_row p (rows_of p) (λ z. omega (arith, k.there)) ∙ rw (k.relative, ← chain_link, nothing_second, tree_zero p)

  chain_weight : weight (tree p last) + 1 ≡ rows_of p
  unfolding weight
  chain_weight = omega (arith, ap weight top, k.whole)

  -- there is room for the chain
  pub chain_fits : Room out (weight (tree p last) + 1)
  chain_fits = record { few = omega (arith, chain_weight, k.room.few); holds = omega (arith, chain_weight, k.room.holds) }

  -- the chain is followed by one row more
  pub row_fits : (at : ℕ) → at ≡ 0 + weight (chain (tree p last)) → (at < 256) × (5 * at + 5 ≤ length out)
  row_fits at e =
      let w : at + 1 ≡ rows_of p + 1 = omega (arith, weight_chain (tree p last), chain_weight) in
      (omega (arith, k.room.few), omega (arith, k.room.holds))

  rows_of_turned : (at : ℕ) → at ≡ weight (chain (tree p last)) → written 0 (chain (tree p last)) ++ (22 ∷ at ∷ 0 ∷ 0 ∷ 0 ∷ []) ≡ turned_rows p
  unfolding turned chain written link row is_literal code
  rows_of_turned at e = rw (top, link_zero, ← e)

  -- the chain, then the path's own row
  pub turned_stored : (at : ℕ) (x z : List ℕ) → (at ≡ 0 + weight (chain (tree p last))) × (x ≡ sets out 0 (written 0 (chain (tree p last))))
      → z ≡ sets x (5 * at) (22 ∷ at ∷ 0 ∷ 0 ∷ 0 ∷ []) → z ≡ turned_rows p ++ drop (length (turned_rows p)) out
  turned_stored at x z f e =
      let C : List ℕ = written 0 (chain (tree p last)) in
      let R : List ℕ = 22 ∷ at ∷ 0 ∷ 0 ∷ 0 ∷ [] in
      let l : length C ≡ 5 * at = omega (arith, length_written 0 (chain (tree p last)), f.0) in
      let w : C ++ R ≡ turned_rows p = rows_of_turned at (omega (arith, f.0)) in
      let h : length (C ++ R) ≤ length out = simp length-append (omega (arith, row_fits at f.0)) in
      rw (← w) (e ∙ sets_behind C R out x 0 (5 * at) f.1 (omega arith) ∙ sets_front (C ++ R) out h)

-- ---- the answers

module _ (p : List ℕ) (literals : List Float) (out : List ℕ) where
  -- a refusal leaves the output as it is
  pub refuses : (r : Refusal) → refused r ≡ turning p literals (length out) → TurnsPath p literals out (refused r) out
  unfolding turned_output output
  refuses r e = (e, rw (← e, ne_eqb (refused r).number 0 (λ z. omega (arith, refusal_number r))))

  -- the path checker's is the turner's
  pub stopped : (r : Refusal) → refused r ≡ path_answer p literals → TurnsPath p literals out (refused r) out
  unfolding turning
  stopped r e = refuses r (e ∙ sym (path_stops p literals (λ z. omega (arith, refusal_number r, ap (λ (a : Answer). a.number) e, z)) _))

  -- on 0 the rows stand at the front
  pub turned_round : (place : ℕ) (z : List ℕ) → answer 0 place ≡ turning p literals (length out) → z ≡ turned_rows p ++ drop (length (turned_rows p)) out
      → TurnsPath p literals out (answer 0 place) z
  unfolding turned_output output
  turned_round place z f g = (f, rw (← f) g)

-- any other op than Absolute is relative
pub not_absolute_lem : (op : Op) → (op ≡ Absolute → ⊥) → is_absolute op ≡ false
unfolding is_absolute op_of
not_absolute_lem op f = ne_eqb (code op) 23 (λ e. f (sym (op_code op) ∙ rw e refl))

module _ (p : List ℕ) (literals : List Float) (n : ℕ) (passed : answer 0 n ≡ path_answer p literals) where
  zero_answer : (path_answer p literals).number ≡ 0
  zero_answer = ap (λ (a : Answer). a.number) (sym passed)

  accepted : AcceptedPath p (length literals)
  accepted = (path_accepted p literals zero_answer).0

  -- the place of the checker's 0 is the path's row count
  pub is-n : n ≡ rows_of p
  unfolding path_answer
  is-n = ap (λ (a : Answer). a.place) (passed ∙ path_passes p literals zero_answer (answer 0 (rows_of p)))

  -- an accepted path has 1 to 256 rows
  pub rows_there : (0 < n) × (n ≤ 256)
  rows_there = rw is-n (some_path_row p (length literals) accepted, most_rows_lem p accepted.allowed)

  module _ (last : ℕ) (op : Op) (room : ℕ) (is_last : last ≡ first_link p (n - 1)) (is-op : op ≡ op_at p (n - 1)) where
    no_zero : (rows_of p ≡ 0) → ⊥
    no_zero z = omega (arith, rows_there.0, is-n)

    counting_is : counting_step (path_tree p) ≡ first_step is_counting (tree p last)
    unfolding counting_step
    counting_is = rw (tree_row p (rows_of p) no_zero, ← is-n, ← is_last)

    attributes_is : attribute_step (path_tree p) ≡ first_step is_of_attributes (tree p last)
    unfolding attribute_step
    attributes_is = rw (tree_row p (rows_of p) no_zero, ← is-n, ← is_last)

    absolute_is : absolute_path (path_tree p) ≡ is_absolute op
    unfolding absolute_path
    absolute_is = rw (tree_row p (rows_of p) no_zero, ← is-n, is-op)

    -- 9
    pub step_counts : (k : ℕ) → k ≡ first_step is_counting (tree p last) → 0 < k → answer 9 k ≡ turning p literals room
    unfolding turning
    step_counts k e h = rw (path_passes p literals zero_answer, counting_is, ← e, lt-ltb 0 k h)

    module _ (uncounted : first_step is_counting (tree p last) ≡ 0) where
      -- 13
      pub step_of_attributes : (k : ℕ) → k ≡ first_step is_of_attributes (tree p last) → 0 < k → answer 13 k ≡ turning p literals room
      unfolding turning
      step_of_attributes k e h = rw (path_passes p literals zero_answer, counting_is, uncounted, attributes_is, ← e, lt-ltb 0 k h)

      module _ (usual : first_step is_of_attributes (tree p last) ≡ 0) where
        -- 10
        pub is_absolute_lem : op ≡ Absolute → answer 10 0 ≡ turning p literals room
        unfolding turning is_absolute code
        is_absolute_lem e = rw (path_passes p literals zero_answer, counting_is, uncounted, attributes_is, usual, absolute_is, e)

        module _ (not_absolute : is_absolute op ≡ false) where
          -- 11: too many rows, or too little room
          pub too_many : most_path_rows < n + 1 → answer 11 (n + 1) ≡ turning p literals room
          unfolding turning
          too_many h = rw (path_passes p literals zero_answer, counting_is, uncounted, attributes_is, usual, absolute_is, not_absolute, ← is-n, lt-ltb most_path_rows (n + 1) h)

          pub too_short : n + 1 ≤ most_path_rows → room < 5 * (n + 1) → answer 11 (n + 1) ≡ turning p literals room
          unfolding turning
          too_short few h =
              rw (path_passes p literals zero_answer, counting_is, uncounted, attributes_is, usual, absolute_is, not_absolute, ← is-n, le-ltb most_path_rows (n + 1) few, lt-ltb room (5 * (n + 1)) h)

          -- 0
          pub is_turned : n + 1 ≤ most_path_rows → 5 * (n + 1) ≤ room → answer 0 (n + 1) ≡ turning p literals room
          unfolding turning
          is_turned few holds =
              rw (path_passes p literals zero_answer, counting_is, uncounted, attributes_is, usual, absolute_is, not_absolute, ← is-n, le-ltb most_path_rows (n + 1) few, le-ltb room (5 * (n + 1)) holds)

          -- what the writer asks for
          pub is_turnable : (out : List ℕ) → room ≡ length out → n + 1 ≤ most_path_rows → 5 * (n + 1) ≤ room → Turnable p out
          is_turnable out e few holds =
              let o : is_absolute (op_at p (rows_of p - 1)) ≡ false = rw (← is-n, ← is-op) not_absolute in
              record {
                there = omega (arith, rows_there.0, is-n);
                relative = relative_is (op_at p (rows_of p - 1)) (top_is_path p (length literals) accepted) o;
                whole = all_rows p (length literals) accepted;
                room = record { few = omega (arith, is-n); holds = omega (arith, is-n) };
              }
