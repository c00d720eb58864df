-- The machine's table by numbers: token classes and modes at their numbers, and each act as a number.
-- Assumes nothing: these are definitions.
use Rattle.std.specs.Prelude.{ℕ, suc, List, [], ◌∷◌, get_or}
use Rattle.text.specs.Tokens.{class_of}
use Rattle.text.specs.Machine.{Mode, operand, argument, union, root, step, axis, test, type, empty, instruction, target, call, whole, part, number, Bracket, group, arguments, predicate, Act, refuse, go, enter, leave_round, leave_square, next_argument, rows, pick}

-- the modes, each at its number
abbrev pub modes : List Mode
modes = operand ∷ argument ∷ union ∷ root ∷ step ∷ axis ∷ test ∷ type ∷ empty ∷ instruction ∷ target ∷ call ∷ whole ∷ part ∷ []

-- 0 is a refusal, 1 + m leads to the mode m, 15 to 17 open a bracket, 18 and 19 close one, 20 parts two arguments
unfoldable pub opened : Bracket → ℕ
opened group = 15
opened arguments = 16
opened predicate = 17

unfoldable pub act_number : Act → ℕ
act_number refuse = 0
act_number (go m) = suc (number m)
act_number (enter b) = opened b
act_number leave_round = 18
act_number leave_square = 19
act_number next_argument = 20

-- what the token t does in the mode m
unfoldable pub act_of : ℕ → ℕ → ℕ
act_of t m = act_number (pick (rows (class_of t)) (get_or modes m operand))
