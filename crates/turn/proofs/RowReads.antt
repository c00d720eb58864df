-- A step's axis is what its third field holds, stated over what code has read.
-- Assumes nothing.
use Prim.Native.Nat.{ℕ, ◌<◌}
use mathlib.Core.Path.{◌≡◌}
use mathlib.Core.List.{List}
use lib.Dec.{eqb}
use native.Mathlib.Omega.{arith}
use borrow.Author.Tests.{eq-eqb, ne_eqb}
use Rattle.meaning.specs.Rows.{op_of, field, is_literal, is_step}
use Rattle.meaning.specs.Tree.{index_or_axis}
use Rattle.meaning.proofs.Decoding.{op_is}

module _ (p : List ℕ) (r op : ℕ) (is-op : op ≡ field p r 0) where
  literal_is : is_literal (op_of (field p r 0)) ≡ eqb op 1
  unfolding is_literal
  literal_is = rw (← is-op) (op_is 1 op (omega arith) (omega arith))

  step_is : is_step (op_of (field p r 0)) ≡ eqb op 24
  unfolding is_step
  step_is = rw (← is-op) (op_is 24 op (omega arith) (omega arith))

  pub axis_read_lem : (v : ℕ) → op ≡ 24 → (v ≡ field p r 3) × (v < 4294967296) → (v ≡ index_or_axis p r) × (v < 4294967296)
  unfolding index_or_axis
  axis_read_lem v e h = (rw (literal_is, ne_eqb op 1 (λ q. omega arith), step_is, eq-eqb op 24 e) h.0, h.1)
