-- Where a token leads the machine: behind a token after which an operator is due, to modes in which one is; and behind a name, to a mode
-- whose end begins with what makes the name what it is.
-- Assumes nothing.
use Prim.Native.Nat.{ℕ, zero, suc}
use mathlib.Core.Path.{◌≡◌, refl, subst}
use mathlib.Core.Bool.{Bool, true, ◌&&◌, ◌||◌, not, cond}
use mathlib.Core.List.{List, [], ◌∷◌, ◌++◌}
use lib.Dec.{T, eqb, leb}
use lib.ListN.{get_or}
use Rattle.meaning.proofs.Bools.{and_i}
use Rattle.text.specs.Grammar.{Token, opening, NameTest, AxisName, unknown}
use Rattle.text.specs.Tokens.{code, classes, operator_due}
use Rattle.text.specs.Machine.{Mode, operand, part, Bracket, group, arguments, predicate, Act, refuse, go, enter, leave_round, leave_square, next_argument, Row, on, rows, has, number, inner, pick, State, stuck, reading, done, next, run}
use Rattle.text.proofs.Machine.{and_l, and_r}
use Rattle.text.proofs.Lexemes.{choice, class_of_code}
use Rattle.text.proofs.Spelling.{due_mode, look}

-- ---- where a token leads

abbrev pub all : {A : Type 0} → (A → Bool) → List A → Bool
all p [] = true
all p (x ∷ xs) = p x && all p xs

all_front : {A : Type 0} (p : A → Bool) (xs ys : List A) → T (all p (xs ++ ys)) → T (all p xs)
all_front p [] ys h = tt
all_front p (x ∷ xs) ys h = and_i (p x) (all p xs) (and_l (p x) (all p (xs ++ ys)) h) (all_front p xs ys (and_r (p x) (all p (xs ++ ys)) h))

all_back : {A : Type 0} (p : A → Bool) (xs ys : List A) → T (all p (xs ++ ys)) → T (all p ys)
all_back p [] ys h = h
all_back p (x ∷ xs) ys h = all_back p xs ys (and_r (p x) (all p (xs ++ ys)) h)

pub all_at : {A : Type 0} (p : A → Bool) (l : List A) (n : ℕ) (d : A) → T (all p l) → T (p d) → T (p (get_or l n d))
all_at p [] n d h k = k
all_at p (x ∷ xs) zero d h k = and_l (p x) (all p xs) h
all_at p (x ∷ xs) (suc n) d h k = all_at p xs n d (and_r (p x) (all p xs) h) k

-- what holds of each class in the list of classes holds of each class
every : (p : Token → Bool) → T (all p classes) → (t : Token) → T (p t)
every p h t =
    let other : T (p unknown) = all_at p classes 33 opening h (and_l (p opening) _ h) in
    subst (λ (t : Token). T (p t)) (class_of_code t) (all_at p classes (code t) unknown h other)

-- the modes that an act leads to, and those that rows lead to
reached : Act → List Mode
reached refuse = []
reached (go m) = m ∷ []
reached (enter b) = inner b ∷ []
reached leave_round = part ∷ []
reached leave_square = part ∷ []
reached next_argument = operand ∷ []

reached_by : List Row → List Mode
reached_by [] = []
reached_by (on ms a ∷ rest) = reached a ++ reached_by rest

-- p holds of the mode
abbrev pub Holds : (Mode → Bool) → State → Type 0
Holds p stuck = Unit {0}
Holds p (reading m around) = T (p m)

pick_reached : (p : Mode → Bool) (rs : List Row) (m : Mode) → T (all p (reached_by rs)) → T (all p (reached (pick rs m)))
unfolding reached reached_by pick
pick_reached p [] m h = tt
pick_reached p (on ms a ∷ rest) m h =
    choice (λ a. T (all p (reached a))) (has ms m)
    (λ _. all_front p (reached a) (reached_by rest) h)
    (λ _. pick_reached p rest m (all_back p (reached a) (reached_by rest) h))

done_reached : (p : Mode → Bool) (a : Act) (around : List Bracket) → T (all p (reached a)) → Holds p (done a around)
unfolding reached done
done_reached p refuse around h = tt
done_reached p (go m) around h = and_l (p m) true h
done_reached p (enter b) around h = and_l (p (inner b)) true h
done_reached p leave_round [] h = tt
done_reached p leave_round (group ∷ around) h = and_l (p part) true h
done_reached p leave_round (arguments ∷ around) h = and_l (p part) true h
done_reached p leave_round (predicate ∷ around) h = tt
done_reached p leave_square [] h = tt
done_reached p leave_square (group ∷ around) h = tt
done_reached p leave_square (arguments ∷ around) h = tt
done_reached p leave_square (predicate ∷ around) h = and_l (p part) true h
done_reached p next_argument [] h = tt
done_reached p next_argument (group ∷ around) h = tt
done_reached p next_argument (arguments ∷ around) h = and_l (p operand) true h
done_reached p next_argument (predicate ∷ around) h = tt

next_reached : (p : Mode → Bool) (s : State) (t : Token) → T (all p (reached_by (rows t))) → Holds p (next s t)
unfolding next
next_reached p stuck t h = tt
next_reached p (reading m around) t h = done_reached p (pick (rows t) m) around (pick_reached p (rows t) m h)

-- a class of names, and what follows a name of it: `(` is 1, `::` is 2, all else 0
abbrev pub is_name : Token → Bool
is_name t = leb (code NameTest) (code t) && leb (code t) (code AxisName)

abbrev pub look_of : Token → ℕ
look_of t = cond (eqb (code t) (code NameTest)) 0 (cond (eqb (code t) (code AxisName)) 2 1)

-- an operator is due in these modes only, and names are followed by what makes them so
abbrev pub due_fits : Bool → Mode → Bool
due_fits due m = not due || due_mode m

abbrev pub look_fits : Token → ℕ → Bool
look_fits t k = not (is_name t) || eqb k (look_of t)

due_table : T (all (λ t. all (due_fits (operator_due (code t))) (reached_by (rows t))) classes)
unfolding reached reached_by rows has number inner operator_due code
due_table = tt

look_table : T (all (λ t. all (λ m. look_fits t (look m)) (reached_by (rows t))) classes)
unfolding reached reached_by rows has number inner code
look_table = tt

next_due : (s : State) (t : Token) → Holds (due_fits (operator_due (code t))) (next s t)
next_due s t =
    next_reached (due_fits (operator_due (code t))) s t
    (every (λ t. all (due_fits (operator_due (code t))) (reached_by (rows t))) due_table t)

pub next_look : (s : State) (t : Token) → Holds (λ m. look_fits t (look m)) (next s t)
next_look s t = next_reached (λ m. look_fits t (look m)) s t (every (λ t. all (λ m. look_fits t (look m)) (reached_by (rows t))) look_table t)

-- is an operator due behind these tokens?
unfoldable pub due_after : Bool → List Token → Bool
due_after due [] = due
due_after due (t ∷ ts) = due_after (operator_due (code t)) ts

pub due_last : (due : Bool) (ts : List Token) (t : Token) → due_after due (ts ++ (t ∷ [])) ≡ operator_due (code t)
unfolding due_after
due_last due [] t = refl
due_last due (s ∷ ts) t = due_last (operator_due (code s)) ts t

pub run_due : (due : Bool) (s : State) (ts : List Token) → Holds (due_fits due) s → Holds (due_fits (due_after due ts)) (run s ts)
unfolding due_after run
run_due due s [] h = h
run_due due s (t ∷ ts) h = run_due (operator_due (code t)) (next s t) ts (next_due s t)
