-- Laws of the machine: runs over appended tokens, modes by their numbers, and brackets below that nothing looks at.
-- Assumes nothing.
use Prim.Native.Nat.{ℕ}
use mathlib.Core.Path.{◌≡◌, refl, sym, ◌∙◌, ap, subst}
use mathlib.Core.Bool.{Bool, true, false, ◌||◌, ◌&&◌}
use mathlib.Core.List.{List, [], ◌∷◌, ◌++◌}
use lib.Dec.{T, eqb, eqb→eq}
use lib.ListN.{get_or}
use Rattle.text.specs.Grammar.{Token}
use Rattle.text.specs.Machine.{Mode, operand, argument, union, root, step, axis, test, type, empty, instruction, target, call, whole, part, number, Bracket, group, arguments, predicate, Act, refuse, go, enter, leave_round, leave_square, next_argument, has, State, stuck, reading, done, next, run}

-- ---- Bools

pub and_l : (a b : Bool) → T (a && b) → T a
and_l true b h = tt
and_l false b h = h

pub and_r : (a b : Bool) → T (a && b) → T b
and_r true b h = h
and_r false b h = absurd h

pub or_e : {C : Type 0} (a b : Bool) → T (a || b) → (T a → C) → (T b → C) → C
or_e true b h f g = f tt
or_e false b h f g = g h

-- ---- modes

modes : List Mode
modes = operand ∷ argument ∷ union ∷ root ∷ step ∷ axis ∷ test ∷ type ∷ empty ∷ instruction ∷ target ∷ call ∷ whole ∷ part ∷ []

decoded : (m : Mode) → get_or modes (number m) operand ≡ m
unfolding modes number
decoded operand = refl
decoded argument = refl
decoded union = refl
decoded root = refl
decoded step = refl
decoded axis = refl
decoded test = refl
decoded type = refl
decoded empty = refl
decoded instruction = refl
decoded target = refl
decoded call = refl
decoded whole = refl
decoded part = refl

pub number_tells : (m n : Mode) → T (eqb (number m) (number n)) → m ≡ n
number_tells m n h = sym (decoded m) ∙ ap (λ (k : ℕ). get_or modes k operand) (eqb→eq (number m) (number n) h) ∙ decoded n

-- what holds at each of these modes holds at m if it is one of them
abbrev pub Each : (Mode → Type 0) → List Mode → Type 0
Each P [] = Unit {0}
Each P (m ∷ ms) = P m × Each P ms

pub each : (P : Mode → Type 0) (ms : List Mode) (m : Mode) → Each P ms → T (has ms m) → P m
unfolding has
each P [] m e h = absurd h
each P (n ∷ ms) m e h =
    or_e (eqb (number n) (number m)) (has ms m) h (λ k. subst P (number_tells n m k) e.0) (λ k. each P ms m e.1 k)

-- ---- runs

pub run_append : (s : State) (ts us : List Token) → run s (ts ++ us) ≡ run (run s ts) us
unfolding run
run_append s [] us = refl
run_append s (t ∷ ts) us = run_append (next s t) ts us

pub run_stuck : (ts : List Token) → run stuck ts ≡ stuck
unfolding run next
run_stuck [] = refl
run_stuck (t ∷ ts) = run_stuck ts

-- ---- brackets that nothing looks at

abbrev pub over : List Bracket → State → State
over below stuck = stuck
over below (reading m around) = reading m (around ++ below)

abbrev pub Alive : State → Type 0
Alive stuck = ⊥
Alive (reading m around) = Unit {0}

pub done_over : (a : Act) (around below : List Bracket) → Alive (done a around) → done a (around ++ below) ≡ over below (done a around)
unfolding done
done_over refuse around below h = absurd h
done_over (go m) around below h = refl
done_over (enter b) around below h = refl
done_over leave_round [] below h = absurd h
done_over leave_round (group ∷ around) below h = refl
done_over leave_round (arguments ∷ around) below h = refl
done_over leave_round (predicate ∷ around) below h = absurd h
done_over leave_square [] below h = absurd h
done_over leave_square (group ∷ around) below h = absurd h
done_over leave_square (arguments ∷ around) below h = absurd h
done_over leave_square (predicate ∷ around) below h = refl
done_over next_argument [] below h = absurd h
done_over next_argument (group ∷ around) below h = absurd h
done_over next_argument (arguments ∷ around) below h = refl
done_over next_argument (predicate ∷ around) below h = absurd h
