-- The answers of `compose::desk::paths_in`: one frame more, which is a path's or not.
use Rattle.std.proofs.Common.{◌≡◌, ℕ, ◌∙◌, ap, ◌*◌, get_or, true, false, arith}
use borrow.Author.Tests.{eq-eqb, ne_eqb}
use Rattle.text.specs.Composing.{paths_in, is_path_op}
use Rattle.compose.specs.Standing.{frames_of}
use Rattle.compose.proofs.Frames.{paths_none, paths_one, paths_other}
use Rattle.compose.proofs.desk.paths_in.Goals as goal
use Rattle.compose.proofs.desk.paths_in.Goals.{then-op-eq-RELATIVE, else-op-eq-RELATIVE+else-op-eq-ABSOLUTE, then-op-eq-RELATIVE-via-then-op-eq-RELATIVE, then-op-eq-RELATIVE-via-else-op-eq-RELATIVE+then-op-eq-ABSOLUTE}

pub loop-i-init : goal.loop-i-init
loop-i-init c = (omega arith, λ opens. paths_none c.args.ops.now opens)

pub bounds-ops-i : goal.bounds-ops-i
bounds-ops-i c = omega arith

pub loop-i-preserved : goal.loop-i-preserved
loop-i-preserved c =
    let inv = c.loop-i.invariant.1 in
    let ops = c.args.ops.now in
    elim c.if-op-eq-RELATIVE.branch [
      | then-op-eq-RELATIVE w ↦
          let path : is_path_op (get_or ops (4 * c.loop-i.i) 0) ≡ true =
          elim w.then-op-eq-RELATIVE.branch [
            | then-op-eq-RELATIVE-via-then-op-eq-RELATIVE v ↦ rw (eq-eqb _ 22 v.if-op-eq-RELATIVE.true)
            | then-op-eq-RELATIVE-via-else-op-eq-RELATIVE+then-op-eq-ABSOLUTE v ↦ rw (ne_eqb _ 22 v.if-op-eq-RELATIVE.false, eq-eqb _ 23 v.if-op-eq-ABSOLUTE.true)
          ] in
          (omega arith, λ opens. w.count-is ∙ paths_one ops opens _ _ (inv opens) path)
      | else-op-eq-RELATIVE+else-op-eq-ABSOLUTE w ↦
          let other : is_path_op (get_or ops (4 * c.loop-i.i) 0) ≡ false =
          rw (ne_eqb _ 22 w.if-op-eq-RELATIVE.false, ne_eqb _ 23 w.if-op-eq-ABSOLUTE.false) in
          (omega arith, λ opens. w.count-is ∙ paths_other ops opens _ _ (inv opens) other)
    ]

pub returns : goal.returns
returns c =
    let e : c.loop-i.i ≡ c.args.height = omega arith in
    let ops = c.args.ops.now in
    (λ opens. c.loop-i.invariant.1 opens ∙ ap (λ (n : ℕ). paths_in (frames_of ops opens n)) e, omega arith)
