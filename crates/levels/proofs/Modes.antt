-- Modes and classes by their numbers, and the tests on modes as tests on their numbers; which kind of act an act's number is.
-- Assumes nothing.
use Prim.Native.Nat.{ℕ, ◌-◌, ◌≤◌, ◌<◌}
use mathlib.Core.Path.{◌≡◌, refl}
use mathlib.Core.Bool.{Bool, true, false, cond}
use mathlib.Core.List.{List, [], ◌∷◌}
use lib.Dec.{T, eqb, eqb→eq}
use lib.ListN.{get_or}
use native.Mathlib.Omega.{arith}
use Rattle.text.specs.Tokens.{code, class_of}
use Rattle.text.specs.Machine.{Mode, operand, argument, union, root, step, axis, test, type, empty, instruction, target, call, whole, part, number, has, beginning, signing, continuing, group, arguments, predicate, Act, refuse, go, enter, leave_round, leave_square, next_argument, inner}
use Rattle.text.specs.Survey.{after}
use Rattle.modes.specs.Acts.{modes, opened, act_number}
use Rattle.modes.proofs.Table.{every, at}
use Rattle.levels.specs.Levels.{is_due, takes_sign, goes_on}

abbrev pub mode_at : ℕ → Mode
mode_at q = get_or modes q operand

-- ---- numbers of classes and of modes

-- as many numbers as there are classes
abbrev pub numbers : List ℕ
numbers =
    0 ∷ 1 ∷ 2 ∷ 3 ∷ 4 ∷ 5 ∷ 6 ∷ 7 ∷ 8 ∷ 9 ∷ 10 ∷ 11 ∷ 12 ∷ 13 ∷ 14 ∷ 15 ∷ 16 ∷ 17 ∷ 18 ∷ 19 ∷ 20 ∷ 21 ∷ 22 ∷ 23 ∷ 24 ∷ 25 ∷ 26 ∷ 27 ∷ 28 ∷ 29
    ∷ 30 ∷ 31 ∷ 32 ∷ 33 ∷ []

is_class : ℕ → ℕ → Bool
is_class k x = eqb (code (class_of k)) k

every_class : T (every is_class 0 numbers)
unfolding is_class code
every_class = tt

pub code_class : (k : ℕ) → k < 34 → code (class_of k) ≡ k
unfolding is_class
code_class k h = eqb→eq (code (class_of k)) k (at is_class numbers every_class k h)

is_mode : ℕ → ℕ → Bool
is_mode q x = eqb (number (mode_at q)) q

-- as many numbers as there are modes
unfoldable pub fourteen : List ℕ
fourteen = 0 ∷ 1 ∷ 2 ∷ 3 ∷ 4 ∷ 5 ∷ 6 ∷ 7 ∷ 8 ∷ 9 ∷ 10 ∷ 11 ∷ 12 ∷ 13 ∷ []

every_mode : T (every is_mode 0 fourteen)
unfolding is_mode fourteen number
every_mode = tt

pub number_mode : (q : ℕ) → q < 14 → number (mode_at q) ≡ q
unfolding is_mode fourteen
number_mode q h = eqb→eq (number (mode_at q)) q (at is_mode fourteen every_mode q h)

pub mode_number : (m : Mode) → mode_at (number m) ≡ m
unfolding number
mode_number operand = refl
mode_number argument = refl
mode_number union = refl
mode_number root = refl
mode_number step = refl
mode_number axis = refl
mode_number test = refl
mode_number type = refl
mode_number empty = refl
mode_number instruction = refl
mode_number target = refl
mode_number call = refl
mode_number whole = refl
mode_number part = refl

-- ---- tests on modes

pub record Tested (m : Mode) : Type 0 where
  pub begins : has beginning m ≡ is_due (number m)
  pub signs : has signing m ≡ takes_sign (number m)
  pub continues : has continuing m ≡ goes_on (number m)
  pub targets : has (target ∷ []) m ≡ eqb (number m) 10
  pub calls : has (call ∷ []) m ≡ eqb (number m) 11
  pub argues : has (argument ∷ []) m ≡ eqb (number m) 1

pub tested : (m : Mode) → Tested m
unfolding has number
tested operand = record { begins = refl; signs = refl; continues = refl; targets = refl; calls = refl; argues = refl }
tested argument = record { begins = refl; signs = refl; continues = refl; targets = refl; calls = refl; argues = refl }
tested union = record { begins = refl; signs = refl; continues = refl; targets = refl; calls = refl; argues = refl }
tested root = record { begins = refl; signs = refl; continues = refl; targets = refl; calls = refl; argues = refl }
tested step = record { begins = refl; signs = refl; continues = refl; targets = refl; calls = refl; argues = refl }
tested axis = record { begins = refl; signs = refl; continues = refl; targets = refl; calls = refl; argues = refl }
tested test = record { begins = refl; signs = refl; continues = refl; targets = refl; calls = refl; argues = refl }
tested type = record { begins = refl; signs = refl; continues = refl; targets = refl; calls = refl; argues = refl }
tested empty = record { begins = refl; signs = refl; continues = refl; targets = refl; calls = refl; argues = refl }
tested instruction = record { begins = refl; signs = refl; continues = refl; targets = refl; calls = refl; argues = refl }
tested target = record { begins = refl; signs = refl; continues = refl; targets = refl; calls = refl; argues = refl }
tested call = record { begins = refl; signs = refl; continues = refl; targets = refl; calls = refl; argues = refl }
tested whole = record { begins = refl; signs = refl; continues = refl; targets = refl; calls = refl; argues = refl }
tested part = record { begins = refl; signs = refl; continues = refl; targets = refl; calls = refl; argues = refl }

-- ---- acts

abbrev pub is_go : Act → Bool
is_go refuse = false
is_go (go m) = true
is_go (enter b) = false
is_go leave_round = false
is_go leave_square = false
is_go next_argument = false

abbrev pub is_enter : Act → Bool
is_enter refuse = false
is_enter (go m) = false
is_enter (enter b) = true
is_enter leave_round = false
is_enter leave_square = false
is_enter next_argument = false

abbrev pub is_leave : Act → Bool
is_leave refuse = false
is_leave (go m) = false
is_leave (enter b) = false
is_leave leave_round = true
is_leave leave_square = true
is_leave next_argument = false

abbrev pub is_next : Act → Bool
is_next refuse = false
is_next (go m) = false
is_next (enter b) = false
is_next leave_round = false
is_next leave_square = false
is_next next_argument = true

-- a number from 1 to 14 leads to a mode, 15 to 17 open a bracket, 18 and 19 close one, and 20 parts two arguments
pub goes : (a : Act) (m : Mode) → 1 ≤ act_number a → act_number a ≤ 14 → T (is_go a) × (after a m ≡ mode_at (act_number a - 1))
unfolding act_number opened number after
goes refuse m h k = absurd (omega arith)
goes (go operand) m h k = (tt, refl)
goes (go argument) m h k = (tt, refl)
goes (go union) m h k = (tt, refl)
goes (go root) m h k = (tt, refl)
goes (go step) m h k = (tt, refl)
goes (go axis) m h k = (tt, refl)
goes (go test) m h k = (tt, refl)
goes (go type) m h k = (tt, refl)
goes (go empty) m h k = (tt, refl)
goes (go instruction) m h k = (tt, refl)
goes (go target) m h k = (tt, refl)
goes (go call) m h k = (tt, refl)
goes (go whole) m h k = (tt, refl)
goes (go part) m h k = (tt, refl)
goes (enter group) m h k = absurd (omega arith)
goes (enter arguments) m h k = absurd (omega arith)
goes (enter predicate) m h k = absurd (omega arith)
goes leave_round m h k = absurd (omega arith)
goes leave_square m h k = absurd (omega arith)
goes next_argument m h k = absurd (omega arith)

pub number_less : (m : Mode) → number m < 14
unfolding number
number_less operand = omega arith
number_less argument = omega arith
number_less union = omega arith
number_less root = omega arith
number_less step = omega arith
number_less axis = omega arith
number_less test = omega arith
number_less type = omega arith
number_less empty = omega arith
number_less instruction = omega arith
number_less target = omega arith
number_less call = omega arith
number_less whole = omega arith
number_less part = omega arith

pub enters : (a : Act) (m : Mode) → 15 ≤ act_number a → act_number a ≤ 17
    → T (is_enter a) × (after a m ≡ mode_at (cond (eqb (act_number a) 16) 1 0))
unfolding act_number opened after inner
enters refuse m h k = absurd (omega arith)
enters (go n) m h k = absurd (omega (arith, number_less n))
enters (enter group) m h k = (tt, refl)
enters (enter arguments) m h k = (tt, refl)
enters (enter predicate) m h k = (tt, refl)
enters leave_round m h k = absurd (omega arith)
enters leave_square m h k = absurd (omega arith)
enters next_argument m h k = absurd (omega arith)

pub leaves : (a : Act) → 18 ≤ act_number a → act_number a ≤ 19 → T (is_leave a)
unfolding act_number opened
leaves refuse h k = absurd (omega arith)
leaves (go n) h k = absurd (omega (arith, number_less n))
leaves (enter group) h k = absurd (omega arith)
leaves (enter arguments) h k = absurd (omega arith)
leaves (enter predicate) h k = absurd (omega arith)
leaves leave_round h k = tt
leaves leave_square h k = tt
leaves next_argument h k = absurd (omega arith)

pub parts : (a : Act) → act_number a ≡ 20 → T (is_next a)
unfolding act_number opened
parts refuse e = absurd (omega arith)
parts (go n) e = absurd (omega (arith, number_less n))
parts (enter group) e = absurd (omega arith)
parts (enter arguments) e = absurd (omega arith)
parts (enter predicate) e = absurd (omega arith)
parts leave_round e = absurd (omega arith)
parts leave_square e = absurd (omega arith)
parts next_argument e = tt
