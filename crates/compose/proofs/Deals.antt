-- What the code does to the desk, one thing after the other: brackets, calls and operators.
-- Assumes nothing.
use Prim.Native.Nat.{ℕ, zero, suc, ◌+◌, ◌<◌, ◌≤◌}
use native.Mathlib.Omega.{arith}
use mathlib.Core.Path.{◌≡◌, refl, ◌∙◌, ap}
use mathlib.Core.Bool.{true, false}
use mathlib.Core.List.{List}
use borrow.Author.Tests.{ne_eqb, le-leb, lt-leb}
use Rattle.text.specs.declared.Sort.TheVariants.{Numeral}
use Rattle.text.specs.declared.Function.{Function}
use Rattle.text.specs.declared.Function.TheVariants.{PositionCall, LastCall, CountCall, NotCall, BooleanCall, OtherCall}
use Rattle.text.specs.Machine.{has, beginning, signing, ending}
use Rattle.text.specs.Survey.{function_at}
use Rattle.text.specs.Composing.{Pen, Desk, desk, put, truthful, strength_of, settled, with_pen, push, open_group, open_truth, close_round, close_square}
use Rattle.compose.specs.declared.Hand.{Hand}
use Rattle.compose.specs.declared.Bench.{Bench}
use Rattle.compose.specs.Standing.{pen_of, frames_of, desk_of, mode_of, Penned, Worked, Opened}
use Rattle.compose.specs.Deals.{opened, closed, squared, called, wanted, operated, signed}

-- ---- one after the other

pub worked_kept : (b : Bench) (rows ops opens : List ℕ) → Worked b rows ops opens (λ d. d) b rows ops opens 0
worked_kept b rows ops opens = record { desk_is = refl; grown = omega arith; most = omega arith }

pub worked_then :
    {b m r : Bench} {rows ops opens rows₁ ops₁ opens₁ rows' ops' opens' : List ℕ} {f g : Desk → Desk} {k j : ℕ}
    → Worked b rows ops opens f m rows₁ ops₁ opens₁ k → Worked m rows₁ ops₁ opens₁ g r rows' ops' opens' j
    → Worked b rows ops opens (λ d. g (f d)) r rows' ops' opens' (k + j)
worked_then {g = g} v w =
    record {
      desk_is = w.desk_is ∙ ap g v.desk_is;
      grown = omega (arith, v.grown, w.grown);
      most = omega (arith, v.most, w.most);
    }

-- what the pen did
pub penned_desk :
    (b : Bench) {r : Hand} {rows rows' : List ℕ} {f : Pen → Pen} {k : ℕ} (ops opens : List ℕ) → Penned b.hand rows f r rows' k
    → Worked b rows ops opens (with_pen f) (record { hand = r; height = b.height }) rows' ops opens k
unfolding desk_of with_pen
penned_desk b ops opens p =
    record { desk_is = ap (desk (frames_of ops opens b.height)) p.pen_is; grown = p.grown; most = omega (arith, p.most) }

-- what a change of the brackets did
pub opened_desk :
    (b : Bench) (f : Desk → Desk) (rows ops opens opens' : List ℕ) → Opened f b.height opens opens'
    → Worked b rows ops opens f b rows ops opens' 0
unfolding Opened desk_of
opened_desk b f rows ops opens opens' o = record { desk_is = o ops (pen_of b.hand rows); grown = omega arith; most = omega arith }

-- ---- brackets

module _ (mode height : ℕ) (opens opens' : List ℕ) where
  pub group_opened : has beginning (mode_of mode) ≡ true → Opened open_group height opens opens' → Opened (opened mode) height opens opens'
  unfolding Opened opened
  group_opened e o ops p = rw e (o ops p)

pub group_not_opened : (mode height : ℕ) (opens : List ℕ) → has beginning (mode_of mode) ≡ false → Opened (opened mode) height opens opens
unfolding Opened opened
group_not_opened mode height opens e ops p = rw e

pub does_close : (mode : ℕ) (d : Desk) → has ending (mode_of mode) ≡ true → close_round (settled 1 d) ≡ closed mode d
unfolding closed
does_close mode d e = rw e

pub does_not_close : (mode : ℕ) (d : Desk) → has ending (mode_of mode) ≡ false → d ≡ closed mode d
unfolding closed
does_not_close mode d e = rw e

pub does_square : (d : Desk) → close_square (settled 1 d) ≡ squared d
unfolding squared
does_square d = refl

-- ---- calls

-- what a function's name does to the desk
abbrev pub call_of : Function → Desk → Desk
call_of PositionCall d = with_pen (put 2 0 0 0 0 Numeral) d
call_of LastCall d = with_pen (put 3 0 0 0 0 Numeral) d
call_of CountCall d = push 21 0 0 d
call_of NotCall d = push 18 0 0 d
call_of BooleanCall d = open_truth d
call_of OtherCall d = d

called_at : (n : ℕ) (d : Desk) → call_of (function_at n) d ≡ called n d
unfolding called
called_at zero d = refl
called_at (suc zero) d = refl
called_at (suc (suc zero)) d = refl
called_at (suc (suc (suc zero))) d = refl
called_at (suc (suc (suc (suc zero)))) d = refl
called_at (suc (suc (suc (suc (suc n))))) d =
    let m : ℕ = (suc (suc (suc (suc (suc n))))) in
    rw (ne_eqb m 0 (λ e. omega arith), ne_eqb m 1 (λ e. omega arith), ne_eqb m 2 (λ e. omega arith), ne_eqb m 3 (λ e. omega arith), ne_eqb m 4 (λ e. omega arith))

-- the function with a number is called
pub called_by : {f : Function} (n : ℕ) (d : Desk) → f ≡ function_at n → call_of f d ≡ called n d
called_by n d e = ap (λ (f : Function). call_of f d) e ∙ called_at n d

-- ---- operators

desk_itself : (d : Desk) → d ≡ with_pen (λ p. p) d
unfolding with_pen
desk_itself (desk fs p) = refl

pub wants_nothing : (k : ℕ) (d : Desk) → 2 < k → d ≡ wanted k d
unfolding wanted
wants_nothing k d h = rw (lt-leb k 2 h) (desk_itself d)

pub wants_truth : (k : ℕ) (d : Desk) → k ≤ 2 → with_pen truthful d ≡ wanted k d
unfolding wanted
wants_truth k d h = rw (le-leb k 2 h)

pub does_operate : (op : ℕ) {k : ℕ} (d : Desk) → k ≡ strength_of op → push op 0 0 (wanted k (settled k d)) ≡ operated op d
unfolding operated
does_operate op d e = rw e

pub does_sign : (mode : ℕ) (d : Desk) → has signing (mode_of mode) ≡ true → push 9 0 0 d ≡ signed mode d
unfolding signed
does_sign mode d e = rw e

pub does_subtract : (mode : ℕ) (d : Desk) → has signing (mode_of mode) ≡ false → operated 5 d ≡ signed mode d
unfolding signed
does_subtract mode d e = rw e
