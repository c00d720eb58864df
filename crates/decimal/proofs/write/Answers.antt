-- The answers of `decimal::write`: what its code leaves to show, by the invariants beside this file. Assumes nothing.
use Prim.Native.Nat.{◌+◌, ◌/◌, ◌%◌, ◌<◌}
use native.Mathlib.Omega.{arith}
use mathlib.Core.Path.{◌≡◌, refl}
use mathlib.Core.List.{[], ◌∷◌, ◌++◌}
use lib.ListN.{length, length-set}
use Rattle.decimal.specs.Decimal.{digits}
use Rattle.decimal.proofs.Decimals.{digits_few, digits_more, width_few, width_more, width_some}
use Rattle.decimal.proofs.Laid.{laid_before, laid_one}
use Rattle.decimal.proofs.write.Goals as goal

pub loop-rest-init : goal.loop-rest-init
loop-rest-init c = (omega arith, refl, omega arith, refl)

pub overflow_sub-last-in-loop-rest : goal.overflow_sub-last-in-loop-rest
overflow_sub-last-in-loop-rest c = omega (arith, width_more c.loop-rest.rest c.loop-rest-test.true, width_some (c.loop-rest.rest / 10))

pub loop-rest-smaller : goal.loop-rest-smaller
loop-rest-smaller c = omega arith

pub loop-rest-preserved : goal.loop-rest-preserved
loop-rest-preserved c =
    let rest = c.loop-rest.rest in
    let out = c.loop-rest.out in
    let at = c.args.at in
    let w : length (digits rest) ≡ length (digits (rest / 10)) + 1 = width_more rest c.loop-rest-test.true in
    let s : 0 < length (digits (rest / 10)) = width_some (rest / 10) in
    let e : c.loop-rest.last ≡ at + length (digits (rest / 10)) = omega arith in
    let h : at + length (digits (rest / 10)) < length out = omega arith in
    let d : digits rest ≡ digits (rest / 10) ++ ((48 + rest % 10) ∷ []) = digits_more rest c.loop-rest-test.true in (
      omega arith,
      rw length-set c.loop-rest.invariant.1,
      omega arith,
      rw (e, laid_before out at (digits (rest / 10)) (48 + rest % 10) h, ← d) c.loop-rest.invariant.3,
    )

pub shape_of-out : goal.shape_of-out
shape_of-out c = simp length-set c.loop-rest.invariant.1

pub returns : goal.returns
returns c =
    let rest = c.loop-rest.rest in
    let out = c.loop-rest.out in
    let at = c.args.at in
    let d : digits rest ≡ (48 + rest) ∷ [] = digits_few rest c.loop-rest-test.false in
    let w : length (digits rest) ≡ 1 = width_few rest c.loop-rest-test.false in
    let e : c.loop-rest.last ≡ at = omega arith in
    let h : at < length out = omega arith in
    (omega arith, rw (e, laid_one out at (48 + rest) h) (rw d at c.loop-rest.invariant.3))
