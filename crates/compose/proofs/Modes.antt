-- Modes by their numbers: the mode behind an act, and what may come in a mode.
-- Assumes nothing.
use Prim.Native.Nat.{ℕ, suc, ◌-◌, ◌<◌, ◌≤◌}
use native.Mathlib.Omega.{arith}
use mathlib.Core.Path.{◌≡◌, refl}
use mathlib.Core.Bool.{Bool, true, false, ◌||◌, cond}
use mathlib.Core.List.{List, [], ◌∷◌}
use lib.Dec.{T, eqb, ltb, leb}
use borrow.Author.Tests.{ne_eqb, le-leb, lt-leb}
use Rattle.text.specs.Tokens.{class_of}
use Rattle.text.specs.Machine.{Mode, operand, argument, union, root, step, axis, test, type, empty, instruction, target, call, whole, part, number, Bracket, group, arguments, predicate, Act, refuse, go, enter, leave_round, leave_square, next_argument, rows, pick, inner, has, beginning, signing, ending}
use Rattle.text.specs.Survey.{after, mode_after}
use Rattle.modes.specs.Acts.{opened, act_number, act_of}
use Rattle.modes.proofs.Table.{at}
use Rattle.compose.specs.Standing.{mode_of}

-- ---- the mode behind an act

-- the number of the mode behind the act with a number, in the mode with a number
unfoldable pub behind : ℕ → ℕ → ℕ
behind act m = cond (eqb act 0) m (cond (leb act 14) (act - 1) (cond (leb act 17) (cond (eqb act 16) 1 0) (cond (leb act 19) 13 0)))

mode_behind : (n : Mode) (m : ℕ) → mode_of (behind (suc (number n)) m) ≡ n
unfolding behind number
mode_behind operand m = refl
mode_behind argument m = refl
mode_behind union m = refl
mode_behind root m = refl
mode_behind step m = refl
mode_behind axis m = refl
mode_behind test m = refl
mode_behind type m = refl
mode_behind empty m = refl
mode_behind instruction m = refl
mode_behind target m = refl
mode_behind call m = refl
mode_behind whole m = refl
mode_behind part m = refl

entered_behind : (b : Bracket) (m : ℕ) → mode_of (behind (opened b) m) ≡ inner b
unfolding behind opened inner
entered_behind group m = refl
entered_behind arguments m = refl
entered_behind predicate m = refl

pub act_behind : (a : Act) (m : ℕ) → mode_of (behind (act_number a) m) ≡ after a (mode_of m)
unfolding behind act_number after
act_behind refuse m = refl
act_behind (go n) m = mode_behind n m
act_behind (enter b) m = entered_behind b m
act_behind leave_round m = refl
act_behind leave_square m = refl
act_behind next_argument m = refl

-- ---- what may come

-- a test as a number
abbrev bit : Bool → ℕ
bit true = 1
bit false = 0

same_bit : (a b : Bool) → T (eqb (bit a) (bit b)) → a ≡ b
same_bit true true t = refl
same_bit true false t = absurd t
same_bit false true t = absurd t
same_bit false false t = refl

-- fourteen of anything
numbers : List ℕ
numbers = 0 ∷ 0 ∷ 0 ∷ 0 ∷ 0 ∷ 0 ∷ 0 ∷ 0 ∷ 0 ∷ 0 ∷ 0 ∷ 0 ∷ 0 ∷ 0 ∷ []

pub begins_below : (m : ℕ) → m < 14 → ltb m 3 ≡ has beginning (mode_of m)
unfolding numbers has number
begins_below m h =
    same_bit (ltb m 3) (has beginning (mode_of m)) (at (λ k x. eqb (bit (ltb k 3)) (bit (has beginning (mode_of k)))) numbers tt m h)

pub signs_below : (m : ℕ) → m < 14 → ltb m 2 ≡ has signing (mode_of m)
unfolding numbers has number
signs_below m h = same_bit (ltb m 2) (has signing (mode_of m))
    (at (λ k x. eqb (bit (ltb k 2)) (bit (has signing (mode_of k)))) numbers tt m h)

pub ends_at : (m : ℕ) → m < 14 → (eqb m 3 || leb 12 m) ≡ has ending (mode_of m)
unfolding numbers has number
ends_at m h =
    same_bit (eqb m 3 || leb 12 m) (has ending (mode_of m))
    (at (λ k x. eqb (bit (eqb k 3 || leb 12 k)) (bit (has ending (mode_of k)))) numbers tt m h)

-- the mode behind a token
pub mode_next :
    (kind mode : ℕ) {act r : ℕ} → act ≡ act_of kind mode → r ≡ behind act mode → mode_of r ≡ mode_after (mode_of mode) (class_of kind)
unfolding act_of
mode_next kind mode a e = rw (e, a) (act_behind (pick (rows (class_of kind)) (mode_of mode)) mode)

module _ (act m : ℕ) where
  pub behind_refusal : act ≡ 0 → m ≡ behind act m
  unfolding behind
  behind_refusal e = rw e

  pub behind_mode : (act ≡ 0 → ⊥) → act ≤ 14 → act - 1 ≡ behind act m
  unfolding behind
  behind_mode n l = rw (ne_eqb act 0 n, le-leb act 14 l)

  pub behind_call : act ≡ 16 → 1 ≡ behind act m
  unfolding behind
  behind_call e = rw e

  pub behind_bracket : 14 < act → act ≤ 17 → (act ≡ 16 → ⊥) → 0 ≡ behind act m
  unfolding behind
  behind_bracket n l e = rw (ne_eqb act 0 (λ z. omega arith), lt-leb act 14 n, le-leb act 17 l, ne_eqb act 16 e)

  pub behind_closing : 17 < act → act ≤ 19 → 13 ≡ behind act m
  unfolding behind
  behind_closing n l = rw (ne_eqb act 0 (λ z. omega arith), lt-leb act 14 (omega arith), lt-leb act 17 n, le-leb act 19 l)

  pub behind_comma : 19 < act → 0 ≡ behind act m
  unfolding behind
  behind_comma n = rw (ne_eqb act 0 (λ z. omega arith), lt-leb act 14 (omega arith), lt-leb act 17 (omega arith), lt-leb act 19 n)
