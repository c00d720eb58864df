-- `remainder::remainder` meets its contract: what is no finite size is decided first; the rest of two sizes is the remainder's.
-- Assumes nothing.
use native.Mathlib.Omega.{arith}
use native.Mathlib.Nat.{mul-pos}
use mathlib.Core.Path.{◌≡◌, sym, ap, ◌∙◌, subst}
use mathlib.Core.Bool.{Bool, true, false}
use Prim.Native.Nat.{ℕ, ◌/◌, ◌%◌, ◌^◌, ◌<◌}
use lib.Dec.{T, leb}
use lib.Pow.{pow_pos}
use lib.Ieee.{Float, binary64, to_bits, of_fields, round, fits, neg, rem}
use Rattle.std.specs.Float.{is_sign_negative}
use lib.Ieee.Exact.{HasValue}
use Rattle.std.proofs.num.Patterns.{differs, tested}
use Rattle.std.proofs.num.Values.{neg-round}
use Rattle.remainder.specs.Units.{size_of}
use Rattle.remainder.proofs.Units.{not_itself, nan_first, nan_second, as_fields, finite_is, infinite_is, of_infinite, by_infinite, by_zero, rem_is, sign_is, size_low}
use Rattle.remainder.proofs.remainder.Goals as goal

pub returns-then-x : goal.returns-then-x
returns-then-x c = nan_first _ _ (not_itself _ c.if-x.true)

pub returns-then-y : goal.returns-then-y
returns-then-y c = nan_second _ _ (not_itself _ c.if-y.true)

pub float_to_bits-a : goal.float_to_bits-a
float_to_bits-a c = tested _ _ (differs c.args.x) c.if-x.false

pub float_to_bits-b : goal.float_to_bits-b
float_to_bits-b c = tested _ _ (differs c.args.y) c.if-y.false

pub returns-then-a-ge-INFINITY : goal.returns-then-a-ge-INFINITY
returns-then-a-ge-INFINITY c =
    let fits_x : T (fits binary64 c.args.x) = subst T (sym c.well_formed.0.1) tt in
    let i = infinite_is c.args.x fits_x (tested _ _ (differs c.args.x) c.if-x.false) c.if-a-ge-INFINITY.true in
    of_infinite _ c.args.y i.0 i.1

pub returns-then-b-ge-INFINITY : goal.returns-then-b-ge-INFINITY
returns-then-b-ge-INFINITY c =
    let fits_x : T (fits binary64 c.args.x) = subst T (sym c.well_formed.0.1) tt in
    let fits_y : T (fits binary64 c.args.y) = subst T (sym c.well_formed.1.0.1) tt in
    let a = finite_is c.args.x fits_x c.if-a-ge-INFINITY.false in
    let i = infinite_is c.args.y fits_y (tested _ _ (differs c.args.y) c.if-y.false) c.if-b-ge-INFINITY.true in
    by_infinite c.args.x c.args.y _ i.0 a.0 (2 ^ 1074) a.1 i.1

pub returns-then-b-eq0 : goal.returns-then-b-eq0
returns-then-b-eq0 c =
    let fits_x : T (fits binary64 c.args.x) = subst T (sym c.well_formed.0.1) tt in
    let fits_y : T (fits binary64 c.args.y) = subst T (sym c.well_formed.1.0.1) tt in
    let a = finite_is c.args.x fits_x c.if-a-ge-INFINITY.false in
    let b = to_bits binary64 c.args.y % 2 ^ 63 in
    let t = leb (2 ^ 63) (to_bits binary64 c.args.y) in
    let none : b ≡ 0 = c.if-b-eq0.true in
    by_zero c.args.x c.args.y _ t a.0 (size_of b 0) (2 ^ 1074) (pow_pos 1074) (omega arith) a.1
    (subst (λ (z : Float). HasValue z t (size_of b 0) (2 ^ 1074)) (sym (as_fields c.args.y fits_y)) (size_low b (omega arith) t))

pub is_sign_negative-requires : goal.is_sign_negative-requires
is_sign_negative-requires c = tested _ _ (differs c.args.x) c.if-x.false

-- the remainder of two doubles with these sizes, where the rest of the sizes was found
found : (x y r : Float) (a b n : ℕ) → T (fits binary64 x) → T (fits binary64 y) → 0 < b
    → ((s : Bool) → HasValue (of_fields binary64 s (to_bits binary64 x % 2 ^ 63 / 2 ^ 52) (to_bits binary64 x % 2 ^ 63 % 2 ^ 52)) s a (2 ^ 1074))
    → ((s : Bool) → HasValue (of_fields binary64 s (to_bits binary64 y % 2 ^ 63 / 2 ^ 52) (to_bits binary64 y % 2 ^ 63 % 2 ^ 52)) s b (2 ^ 1074))
    → n ≡ a % b → r ≡ round binary64 false n (2 ^ 1074)
    → (is_sign_negative x ≡ true → neg r ≡ rem binary64 x y) × (is_sign_negative x ≡ false → r ≡ rem binary64 x y)
found x y r a b n fx fy some at_x at_y e f =
    let s = leb (2 ^ 63) (to_bits binary64 x) in
    let t = leb (2 ^ 63) (to_bits binary64 y) in
    let hx : HasValue x s a (2 ^ 1074) = subst (λ (z : Float). HasValue z s a (2 ^ 1074)) (sym (as_fields x fx)) (at_x s) in
    let hy : HasValue y t b (2 ^ 1074) = subst (λ (z : Float). HasValue z t b (2 ^ 1074)) (sym (as_fields y fy)) (at_y t) in
    let is = rem_is x y s t a b (2 ^ 1074) (pow_pos 1074) some hx hy in
    let same : r ≡ round binary64 false (a % b) (2 ^ 1074) = f ∙ ap (λ (z : ℕ). round binary64 false z (2 ^ 1074)) e in
    let signed : (k : Bool) → is_sign_negative x ≡ k → round binary64 k (a % b) (2 ^ 1074) ≡ rem binary64 x y = λ k h.
    ap (λ (z : Bool). round binary64 z (a % b) (2 ^ 1074)) (sym h ∙ sign_is x s a (2 ^ 1074) hx) ∙ sym is in (
      λ h. ap neg same ∙ neg-round binary64 (a % b) (2 ^ 1074) ∙ signed true h,
      λ h. same ∙ signed false h,
    )

pub returns-then-is_sign_negative : goal.returns-then-is_sign_negative
returns-then-is_sign_negative c =
    let fits_x : T (fits binary64 c.args.x) = subst T (sym c.well_formed.0.1) tt in
    let fits_y : T (fits binary64 c.args.y) = subst T (sym c.well_formed.1.0.1) tt in
    let some : 0 < size_of c.from_bits-2.result.digits c.from_bits-2.result.shift = mul-pos (c.from_bits-2.ensures.above (omega arith)) (pow_pos c.from_bits-2.result.shift) in
    (found c.args.x c.args.y _ _ _ _ fits_x fits_y some c.from_bits.ensures.value c.from_bits-2.ensures.value c.rest_by.ensures c.from-rest.ensures).0 (sym c.is_sign_negative.ensures ∙ c.if-is_sign_negative.true)

pub returns-else-is_sign_negative : goal.returns-else-is_sign_negative
returns-else-is_sign_negative c =
    let fits_x : T (fits binary64 c.args.x) = subst T (sym c.well_formed.0.1) tt in
    let fits_y : T (fits binary64 c.args.y) = subst T (sym c.well_formed.1.0.1) tt in
    let some : 0 < size_of c.from_bits-2.result.digits c.from_bits-2.result.shift = mul-pos (c.from_bits-2.ensures.above (omega arith)) (pow_pos c.from_bits-2.result.shift) in
    (found c.args.x c.args.y _ _ _ _ fits_x fits_y some c.from_bits.ensures.value c.from_bits-2.ensures.value c.rest_by.ensures c.from-rest.ensures).1 (sym c.is_sign_negative.ensures ∙ c.if-is_sign_negative.false)
