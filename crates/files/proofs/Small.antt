-- The numbers of an accepted table are small, so that a file can hold them.
-- Assumes nothing.
use Prim.Native.Nat.{ℕ, zero, suc, ◌+◌, ◌-◌, ◌*◌, ◌/◌, ◌%◌, ◌<◌, ◌≤◌}
use native.Mathlib.Omega.{arith}
use mathlib.Core.Path.{◌≡◌}
use mathlib.Core.Logic.{⊎_elim}
use mathlib.Core.Bool.{Bool, true, false, ◌&&◌, ◌||◌, cond}
use mathlib.Core.List.{List}
use lib.ListN.{length, get_or, get_or-eq_default}
use lib.Dec.{T, leb, eqb, leb→le, eqb→eq}
use Rattle.meaning.specs.Table.{kind, name, parent_of, size, rows, end, good_root, good_name, good_row, accepted}
use Rattle.meaning.proofs.Bools.{and_l, and_r, lt_or_ge}
use Rattle.meaning.proofs.Tables.{length_within_lem, root_holds, row_holds, whole, some_row, few_rows, child, nest, allowed}

-- a name is at most 65,535
good_name_lem : (k n : ℕ) → T (good_name k n) → n ≤ 65535
unfolding good_name
good_name_lem k n h = by (eqb k 1 || eqb k 4 || eqb k 5) h
  where
    by : (b : Bool) → T (cond b (leb 1 n && leb n 65535) (eqb n 0)) → n ≤ 65535
    by true h = leb→le n 65535 (and_r (leb 1 n) (leb n 65535) h)
    by false h = omega (arith, eqb→eq n 0 h)

module _ (t : List ℕ) (acc : accepted t ≡ true) where
  -- a row's four numbers
  Small : ℕ → Type 0
  Small i = (kind t i ≤ 65535) × (name t i ≤ 65535) × (parent_of t i ≤ 65535) × (size t i ≤ 65535)

  root_end : end t 0 ≡ rows t - 1
  unfolding good_root
  root_end =
      let g : T (good_root t) = root_holds t (rows t) (whole t acc) (some_row t acc) in
      let f : T (eqb (size t 0) (rows t - 1)) = search (and_l, and_r) in
      omega (arith, eqb→eq (size t 0) (rows t - 1) f)

  root_small : Small 0
  unfolding Small good_root
  root_small =
      let g : T (good_root t) = root_holds t (rows t) (whole t acc) (some_row t acc) in
      let k : T (eqb (kind t 0) 0) = search (and_l, and_r) in
      let n : T (eqb (name t 0) 0) = search (and_l, and_r) in
      let p : T (eqb (parent_of t 0) 0) = search (and_l, and_r) in
      let f = few_rows t acc in
      (omega (arith, eqb→eq (kind t 0) 0 k), omega (arith, eqb→eq (name t 0) 0 n), omega (arith, eqb→eq (parent_of t 0) 0 p), omega (arith, root_end))

  other_small : (i : ℕ) → 0 < i → i < rows t → Small i
  unfolding Small good_row
  other_small i p h =
      let g : T (good_row t i) = row_holds t (rows t) (whole t acc) i p h in
      let k : T (leb (kind t i) 5) = search (and_l, and_r) depth 9 in
      let n : T (good_name (kind t i) (name t i)) = search (and_l, and_r) depth 9 in
      let c = child t acc i p h in
      let f = few_rows t acc in
      let r = root_end in
      let e : end t i ≤ end t 0 = nest t acc 0 i h p (omega arith) in
      (omega (arith, leb→le (kind t i) 5 k), good_name_lem (kind t i) (name t i) n, omega (arith, c.below), omega arith)

  row_small : (i : ℕ) → i < rows t → Small i
  row_small zero h = root_small
  row_small (suc i) h = other_small (suc i) (omega arith) h

  -- every number of the table
  pub numbers_small : (i : ℕ) → get_or t i 0 ≤ 65535
  unfolding Small
  numbers_small i =
      ⊎_elim
      (λ (h : i < length t).
      let a = length_within_lem _ t (allowed t acc) in
      let s = row_small (i / 4) (omega arith) in
      field (i / 4) (i % 4) s (omega arith) (omega arith))
      (λ (h : length t ≤ i). rw (get_or-eq_default t 0 h) (omega arith))
      (lt_or_ge i (length t))
    where
      field : (r f : ℕ) → Small r → f < 4 → i ≡ 4 * r + f → get_or t i 0 ≤ 65535
      field r zero s h e = let z : 4 * r + 0 ≡ 4 * r = omega arith in rw (e, z) s.0
      field r (suc zero) s h e = rw e s.1
      field r (suc (suc zero)) s h e = rw e s.2
      field r (suc (suc (suc zero))) s h e = rw e s.3
      field r (suc (suc (suc (suc f)))) s h e = absurd (omega arith)
