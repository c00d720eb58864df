-- The levels of the survey are the open brackets of the grammar's machine: while the machine takes the tokens, its mode is the survey's,
-- and its brackets are the kinds of the survey's levels but for the last, which is the whole text.
-- Assumes nothing.
use Prim.Native.Nat.{ℕ, suc, ◌+◌, ◌≤◌}
use mathlib.Core.Path.{◌≡◌, refl, ◌∙◌, ap, sym, subst}
use mathlib.Core.Bool.{Bool, true, false, ◌&&◌, ◌||◌, cond, true≢false}
use mathlib.Core.List.{List, [], ◌∷◌}
use lib.Dec.{T, eqb, leb, le→leb}
use lib.ListN.{length}
use native.Mathlib.Omega.{arith}
use borrow.Author.Tests.{ne_eqb}
use Rattle.meaning.proofs.Bools.{and_l, and_r, and_i, or_i_l, or_i_r, or_e, eq→eqb}
use Rattle.names.specs.Names.{same, position}
use Rattle.text.specs.declared.Level.{Level}
use Rattle.text.specs.declared.Sort.{Sort}
use Rattle.text.specs.Grammar.{Token, opening, closing, '[', ']', dot, dots, at, comma, '::', NameTest, NodeType, 'processing_instruction', FunctionName, AxisName, Literal, Number, VariableReference, '/', '//', '|', '+', '-', '=', '!=', '<', '<=', '>', '>=', MultiplyOperator, 'and', 'or', 'div', 'mod', unknown}
use Rattle.text.specs.Tokens.{code}
use Rattle.text.specs.Machine.{Mode, operand, argument, union, root, step, axis, test, type, empty, instruction, target, call, whole, part, number, has, Bracket, group, arguments, predicate, Act, refuse, go, enter, leave_round, leave_square, next_argument, rows, pick, State, stuck, reading, inner, done, next, run, start, is_stuck}
use Rattle.text.specs.Syntax.{read_all}
use Rattle.text.specs.Limited.{Source, place, word_at, function_names}
use Rattle.text.specs.Survey.{fresh, Survey, survey, after, mode_after, left, comma_read, survey_token, unread}
use Rattle.text.proofs.Machine.{run_stuck}
use Rattle.modes.specs.Acts.{opened, act_number}
use Rattle.levels.specs.Levels.{group_of, tightness_of, level_in, name_in}
use Rattle.levels.proofs.Modes.{is_go, is_enter, is_leave, is_next}
use Rattle.levels.proofs.Acting.{pick_some, kind_of, sort_of, Goes, Enters, goes_behind, enters_behind, leaves_behind, parts_behind}
use Rattle.levels.proofs.Bounds.{level_kept}

-- what the bracket of a level's kind is
unfoldable pub bracket_of : ℕ → Bracket
bracket_of kind = cond (eqb kind 1) group (cond (eqb kind 2) predicate arguments)

-- the open brackets, innermost first: the last level is the whole text
unfoldable pub brackets_of : Level → List Level → List Bracket
brackets_of l [] = []
brackets_of l (o ∷ ls) = bracket_of l.kind ∷ brackets_of o ls

-- the kinds of brackets
abbrev pub is_bracket : ℕ → Bool
is_bracket kind = eqb kind 1 || (eqb kind 2 || (leb 4 kind && leb kind 9))

-- the kinds of levels, innermost first
unfoldable pub nested : Level → List Level → Bool
nested l [] = eqb l.kind 0
nested l (o ∷ ls) = is_bracket l.kind && nested o ls

-- the machine's state
abbrev pub state_of : Survey → State
state_of (survey m l ls v n x) = reading m (brackets_of l ls)

-- the levels have such kinds, and behind a function's name there is its number
abbrev pub Nested : Survey → Type 0
Nested (survey m l ls v n x) = T (nested l ls) × (number m ≡ 11 → n ≤ 5)

-- the survey stands where the machine does
abbrev pub Stands : State → Survey → Type 0
Stands z y = (z ≡ state_of y) × Nested y

-- a kind of a bracket is one that closes
pub bracket_closes : (kind : ℕ) → T (is_bracket kind) → T (eqb kind 1 || (eqb kind 2 || leb 4 kind))
bracket_closes kind h =
    or_e (eqb kind 1) (eqb kind 2 || (leb 4 kind && leb kind 9)) h (or_i_l (eqb kind 1) (eqb kind 2 || leb 4 kind))
    (λ k.
    or_i_r (eqb kind 1) (eqb kind 2 || leb 4 kind)
    (or_e (eqb kind 2) (leb 4 kind && leb kind 9) k (or_i_l (eqb kind 2) (leb 4 kind))
    (λ j. or_i_r (eqb kind 2) (leb 4 kind) (and_l (leb 4 kind) (leb kind 9) j))))

-- with no bracket open there is the whole text alone
pub no_brackets : (l : Level) (ls : List Level) → brackets_of l ls ≡ [] → ls ≡ []
unfolding brackets_of
no_brackets l [] e = refl
no_brackets l (o ∷ ls) e = absurd (let z : ◌≡◌ {A = ℕ} 0 1 = cc in omega arith)

-- ---- a level counts by its kind alone

same_brackets : (k l : Level) (ls : List Level) → k.kind ≡ l.kind → brackets_of k ls ≡ brackets_of l ls
unfolding brackets_of
same_brackets k l [] e = refl
same_brackets k l (o ∷ ls) e = ap (λ (d : ℕ). bracket_of d ∷ brackets_of o ls) e

same_nested : (k l : Level) (ls : List Level) → k.kind ≡ l.kind → nested k ls ≡ nested l ls
unfolding nested
same_nested k l [] e = ap (λ (d : ℕ). eqb d 0) e
same_nested k l (o ∷ ls) e = ap (λ (d : ℕ). is_bracket d && nested o ls) e

-- ---- names of functions

pub position_most : (ws : List (List ℕ)) (w : List ℕ) → position ws w ≤ length ws
unfolding position
position_most [] w = omega arith
position_most (v ∷ vs) w = by (same v w) (position_most vs w)
  where
    by : (b : Bool) → position vs w ≤ length vs → cond b 0 (suc (position vs w)) ≤ suc (length vs)
    by true h = omega arith
    by false h = omega arith

-- a call is entered from the mode behind a function's name alone, which a function's name alone leads to
is_call : Act → Bool
is_call refuse = false
is_call (go m) = eqb (number m) 11
is_call (enter b) = false
is_call leave_round = false
is_call leave_square = false
is_call next_argument = false

is_called : Act → Bool
is_called refuse = false
is_called (go m) = false
is_called (enter group) = false
is_called (enter arguments) = true
is_called (enter predicate) = false
is_called leave_round = false
is_called leave_square = false
is_called next_argument = false

named : (s : Source) (t : Token) (m : Mode) (b n : ℕ) → T (is_call (pick (rows t) m)) → name_in s (code t) b n ≤ 5
unfolding rows is_call number code name_in
named s opening m b n h = absurd (pick_some is_call refl (rows opening) m h)
named s closing m b n h = absurd (pick_some is_call refl (rows closing) m h)
named s '[' m b n h = absurd (pick_some is_call refl (rows '[') m h)
named s ']' m b n h = absurd (pick_some is_call refl (rows ']') m h)
named s dot m b n h = absurd (pick_some is_call refl (rows dot) m h)
named s dots m b n h = absurd (pick_some is_call refl (rows dots) m h)
named s at m b n h = absurd (pick_some is_call refl (rows at) m h)
named s comma m b n h = absurd (pick_some is_call refl (rows comma) m h)
named s '::' m b n h = absurd (pick_some is_call refl (rows '::') m h)
named s NameTest m b n h = absurd (pick_some is_call refl (rows NameTest) m h)
named s NodeType m b n h = absurd (pick_some is_call refl (rows NodeType) m h)
named s 'processing_instruction' m b n h = absurd (pick_some is_call refl (rows 'processing_instruction') m h)
named s FunctionName m b n h = position_most function_names (word_at s.text b)
named s AxisName m b n h = absurd (pick_some is_call refl (rows AxisName) m h)
named s Literal m b n h = absurd (pick_some is_call refl (rows Literal) m h)
named s Number m b n h = absurd (pick_some is_call refl (rows Number) m h)
named s VariableReference m b n h = absurd (pick_some is_call refl (rows VariableReference) m h)
named s '/' m b n h = absurd (pick_some is_call refl (rows '/') m h)
named s '//' m b n h = absurd (pick_some is_call refl (rows '//') m h)
named s '|' m b n h = absurd (pick_some is_call refl (rows '|') m h)
named s '+' m b n h = absurd (pick_some is_call refl (rows '+') m h)
named s '-' m b n h = absurd (pick_some is_call refl (rows '-') m h)
named s '=' m b n h = absurd (pick_some is_call refl (rows '=') m h)
named s '!=' m b n h = absurd (pick_some is_call refl (rows '!=') m h)
named s '<' m b n h = absurd (pick_some is_call refl (rows '<') m h)
named s '<=' m b n h = absurd (pick_some is_call refl (rows '<=') m h)
named s '>' m b n h = absurd (pick_some is_call refl (rows '>') m h)
named s '>=' m b n h = absurd (pick_some is_call refl (rows '>=') m h)
named s MultiplyOperator m b n h = absurd (pick_some is_call refl (rows MultiplyOperator) m h)
named s 'and' m b n h = absurd (pick_some is_call refl (rows 'and') m h)
named s 'or' m b n h = absurd (pick_some is_call refl (rows 'or') m h)
named s 'div' m b n h = absurd (pick_some is_call refl (rows 'div') m h)
named s 'mod' m b n h = absurd (pick_some is_call refl (rows 'mod') m h)
named s unknown m b n h = absurd (pick_some is_call refl (rows unknown) m h)

opening_called : (m : Mode) → T (is_called (pick (rows opening) m)) → number m ≡ 11
unfolding rows pick has number is_called
opening_called operand h = absurd h
opening_called argument h = absurd h
opening_called union h = absurd h
opening_called root h = absurd h
opening_called step h = absurd h
opening_called axis h = absurd h
opening_called test h = absurd h
opening_called type h = absurd h
opening_called empty h = absurd h
opening_called instruction h = absurd h
opening_called target h = absurd h
opening_called call h = refl
opening_called whole h = absurd h
opening_called part h = absurd h

called : (t : Token) (m : Mode) → T (is_called (pick (rows t) m)) → number m ≡ 11
unfolding rows is_called
called opening m h = opening_called m h
called closing m h = absurd (pick_some is_called refl (rows closing) m h)
called '[' m h = absurd (pick_some is_called refl (rows '[') m h)
called ']' m h = absurd (pick_some is_called refl (rows ']') m h)
called dot m h = absurd (pick_some is_called refl (rows dot) m h)
called dots m h = absurd (pick_some is_called refl (rows dots) m h)
called at m h = absurd (pick_some is_called refl (rows at) m h)
called comma m h = absurd (pick_some is_called refl (rows comma) m h)
called '::' m h = absurd (pick_some is_called refl (rows '::') m h)
called NameTest m h = absurd (pick_some is_called refl (rows NameTest) m h)
called NodeType m h = absurd (pick_some is_called refl (rows NodeType) m h)
called 'processing_instruction' m h = absurd (pick_some is_called refl (rows 'processing_instruction') m h)
called FunctionName m h = absurd (pick_some is_called refl (rows FunctionName) m h)
called AxisName m h = absurd (pick_some is_called refl (rows AxisName) m h)
called Literal m h = absurd (pick_some is_called refl (rows Literal) m h)
called Number m h = absurd (pick_some is_called refl (rows Number) m h)
called VariableReference m h = absurd (pick_some is_called refl (rows VariableReference) m h)
called '/' m h = absurd (pick_some is_called refl (rows '/') m h)
called '//' m h = absurd (pick_some is_called refl (rows '//') m h)
called '|' m h = absurd (pick_some is_called refl (rows '|') m h)
called '+' m h = absurd (pick_some is_called refl (rows '+') m h)
called '-' m h = absurd (pick_some is_called refl (rows '-') m h)
called '=' m h = absurd (pick_some is_called refl (rows '=') m h)
called '!=' m h = absurd (pick_some is_called refl (rows '!=') m h)
called '<' m h = absurd (pick_some is_called refl (rows '<') m h)
called '<=' m h = absurd (pick_some is_called refl (rows '<=') m h)
called '>' m h = absurd (pick_some is_called refl (rows '>') m h)
called '>=' m h = absurd (pick_some is_called refl (rows '>=') m h)
called MultiplyOperator m h = absurd (pick_some is_called refl (rows MultiplyOperator) m h)
called 'and' m h = absurd (pick_some is_called refl (rows 'and') m h)
called 'or' m h = absurd (pick_some is_called refl (rows 'or') m h)
called 'div' m h = absurd (pick_some is_called refl (rows 'div') m h)
called 'mod' m h = absurd (pick_some is_called refl (rows 'mod') m h)
called unknown m h = absurd (pick_some is_called refl (rows unknown) m h)

-- ---- a step

module _ (s : Source) (i : ℕ) (t : Token) (m : Mode) (l : Level) (ls : List Level) (v : Sort) (n x : ℕ) where
  abbrev behind : Survey
  behind = survey_token s (survey m l ls v n x) i t

  level : Level
  level = level_in (group_of (code t)) (tightness_of (code t)) (number m) (place s (suc i)) l

  kind : level.kind ≡ l.kind
  unfolding level
  kind = (level_kept (place s (suc i)) l (group_of (code t)) (tightness_of (code t)) (number m)).same_kind

  -- what stands where the machine does, behind an equal survey
  moved : {z : State} {y : Survey} → behind ≡ y → Stands z y → Stands z behind
  moved {z} e h = subst (λ (y : Survey). Stands z y) (sym e) h

  -- the token leads to a mode
  go_stands : (m' : Mode) → pick (rows t) m ≡ go m' → T (nested l ls) → Stands (reading m' (brackets_of l ls)) behind
  unfolding level after is_call
  go_stands m' e h =
      let b : ℕ = place s i in
      let v' : Sort = sort_of s i l ls v n (code t) (number m) in
      let gone : Goes s i l ls v n x t m (mode_after m t) (code t) (number m) =
      goes_behind s i l ls v n x t m (subst (λ (a : Act). T (is_go a)) (sym e) tt) in
      moved (gone.equation ∙ ap (λ (a : Act). survey (after a m) level ls v' (name_in s (code t) b n) gone.urgency) e) (
        ap (reading m') (sym (same_brackets level l ls kind)),
        (
          subst T (sym (same_nested level l ls kind)) h,
          λ c. named s t m b n (subst (λ (a : Act). T (is_call a)) (sym e) (eq→eqb (number m') 11 c)),
        ),
      )

  -- it opens a bracket
  kind_entered : (b : Bracket) → bracket_of (kind_of s i l ls v n (opened b)) ≡ b
  unfolding bracket_of opened
  kind_entered group = refl
  kind_entered arguments = rw (ne_eqb (4 + n) 1 (λ e. omega arith), ne_eqb (4 + n) 2 (λ e. omega arith))
  kind_entered predicate = refl

  kind_nested : (b : Bracket) → pick (rows t) m ≡ enter b → (number m ≡ 11 → n ≤ 5) → T (is_bracket (kind_of s i l ls v n (opened b)))
  unfolding opened is_called
  kind_nested group e name = tt
  kind_nested arguments e name =
      let few : n ≤ 5 = name (called t m (subst (λ (a : Act). T (is_called a)) (sym e) tt)) in
      or_i_r (eqb (4 + n) 1) (eqb (4 + n) 2 || (leb 4 (4 + n) && leb (4 + n) 9))
      (or_i_r (eqb (4 + n) 2) (leb 4 (4 + n) && leb (4 + n) 9)
      (and_i (leb 4 (4 + n)) (leb (4 + n) 9) (le→leb 4 (4 + n) (omega arith)) (le→leb (4 + n) 9 (omega arith))))
  kind_nested predicate e name = tt

  no_call : (b : Bracket) → number (inner b) ≡ 11 → n ≤ 5
  unfolding inner number
  no_call group e = absurd (omega arith)
  no_call arguments e = absurd (omega arith)
  no_call predicate e = absurd (omega arith)

  enter_stands :
      (b : Bracket) → pick (rows t) m ≡ enter b → T (nested l ls) → (number m ≡ 11 → n ≤ 5)
      → Stands (reading (inner b) (b ∷ brackets_of l ls)) behind
  unfolding level after act_number brackets_of nested
  enter_stands b e h name =
      let p : ℕ = place s (suc i) in
      let kinded : ℕ = kind_of s i l ls v n (opened b) in
      let entered : Enters s i l ls v n x t m (mode_after m t) (act_number (pick (rows t) m)) (code t) (number m) =
      enters_behind s i l ls v n x t m (subst (λ (a : Act). T (is_enter a)) (sym e) tt) in
      let brackets : b ∷ brackets_of l ls ≡ bracket_of kinded ∷ brackets_of level ls =
      ap (λ (c : Bracket). c ∷ brackets_of l ls) (sym (kind_entered b))
      ∙ ap (λ (bs : List Bracket). bracket_of kinded ∷ bs) (sym (same_brackets level l ls kind)) in
      moved
      (entered.equation ∙ ap (λ (a : Act). survey (after a m) (fresh (kind_of s i l ls v n (act_number a)) p) (level ∷ ls) v n entered.urgency) e) (
        ap (reading (inner b)) brackets,
        (and_i (is_bracket kinded) (nested level ls) (kind_nested b e name) (subst T (sym (same_nested level l ls kind)) h), no_call b),
      )

-- it closes one, or parts two arguments; o is the level around
module _ (s : Source) (i : ℕ) (t : Token) (m : Mode) (l o : Level) (ls : List Level) (v : Sort) (n x : ℕ) (h : T (nested l (o ∷ ls))) where
  around : T (nested o ls)
  unfolding nested
  around = and_r (is_bracket l.kind) (nested o ls) h

  leave_stands : T (is_leave (pick (rows t) m)) → Stands (reading part (brackets_of o ls)) (survey_token s (survey m l (o ∷ ls) v n x) i t)
  unfolding left number
  leave_stands a =
      subst (λ (y : Survey). Stands (reading part (brackets_of o ls)) y) (sym (leaves_behind s i l (o ∷ ls) v n x t m a))
      (refl, (around, λ e. absurd (omega arith)))

  next_stands : T (is_next (pick (rows t) m))
      → Stands (reading operand (arguments ∷ brackets_of o ls)) (survey_token s (survey m l (o ∷ ls) v n x) i t)
  unfolding comma_read number brackets_of nested bracket_of
  next_stands a =
      subst (λ (y : Survey). Stands (reading operand (arguments ∷ brackets_of o ls)) y) (sym (parts_behind s i l (o ∷ ls) v n x t m a))
      (refl, (around, λ e. absurd (omega arith)))

-- the machine behind a bracket that closes, and behind an argument
round_state : (b : Bracket) (bs : List Bracket) → is_stuck (done leave_round (b ∷ bs)) ≡ false → done leave_round (b ∷ bs) ≡ reading part bs
unfolding done is_stuck
round_state group bs e = refl
round_state arguments bs e = refl
round_state predicate bs e = absurd (true≢false e)

square_state : (b : Bracket) (bs : List Bracket) → is_stuck (done leave_square (b ∷ bs)) ≡ false → done leave_square (b ∷ bs) ≡ reading part bs
unfolding done is_stuck
square_state group bs e = absurd (true≢false e)
square_state arguments bs e = absurd (true≢false e)
square_state predicate bs e = refl

comma_state : (b : Bracket) (bs : List Bracket) → is_stuck (done next_argument (b ∷ bs)) ≡ false
    → done next_argument (b ∷ bs) ≡ reading operand (arguments ∷ bs)
unfolding done is_stuck
comma_state group bs e = absurd (true≢false e)
comma_state arguments bs e = refl
comma_state predicate bs e = absurd (true≢false e)

-- an act that the machine takes is the survey's
act_stands :
    (s : Source) (i : ℕ) (t : Token) (m : Mode) (l : Level) (ls : List Level) (v : Sort) (n x : ℕ) (a : Act) → pick (rows t) m ≡ a
    → T (nested l ls)
    → (number m ≡ 11 → n ≤ 5) → is_stuck (done a (brackets_of l ls)) ≡ false
    → Stands (done a (brackets_of l ls)) (survey_token s (survey m l ls v n x) i t)
unfolding done is_stuck brackets_of
act_stands s i t m l ls v n x refuse e h name free = absurd (true≢false free)
act_stands s i t m l ls v n x (go m') e h name free = go_stands s i t m l ls v n x m' e h
act_stands s i t m l ls v n x (enter b) e h name free = enter_stands s i t m l ls v n x b e h name
act_stands s i t m l [] v n x leave_round e h name free = absurd (true≢false free)
act_stands s i t m l [] v n x leave_square e h name free = absurd (true≢false free)
act_stands s i t m l [] v n x next_argument e h name free = absurd (true≢false free)
act_stands s i t m l (o ∷ ls) v n x leave_round e h name free =
    subst (λ (z : State). Stands z (survey_token s (survey m l (o ∷ ls) v n x) i t)) (sym (round_state (bracket_of l.kind) (brackets_of o ls) free))
    (leave_stands s i t m l o ls v n x h (subst (λ (a : Act). T (is_leave a)) (sym e) tt))
act_stands s i t m l (o ∷ ls) v n x leave_square e h name free =
    subst (λ (z : State). Stands z (survey_token s (survey m l (o ∷ ls) v n x) i t)) (sym (square_state (bracket_of l.kind) (brackets_of o ls) free))
    (leave_stands s i t m l o ls v n x h (subst (λ (a : Act). T (is_leave a)) (sym e) tt))
act_stands s i t m l (o ∷ ls) v n x next_argument e h name free =
    subst (λ (z : State). Stands z (survey_token s (survey m l (o ∷ ls) v n x) i t)) (sym (comma_state (bracket_of l.kind) (brackets_of o ls) free))
    (next_stands s i t m l o ls v n x h (subst (λ (a : Act). T (is_next a)) (sym e) tt))

-- a step that the machine takes is the survey's
pub step_stands :
    (s : Source) (i : ℕ) (t : Token) (y : Survey) → Nested y → is_stuck (next (state_of y) t) ≡ false
    → Stands (next (state_of y) t) (survey_token s y i t)
unfolding next
step_stands s i t (survey m l ls v n x) h free = act_stands s i t m l ls v n x (pick (rows t) m) refl h.0 h.1 free

-- ---- all the tokens

-- a machine that is free at the end was free before
free_before : (z : State) (ts : List Token) → is_stuck (run z ts) ≡ false → is_stuck z ≡ false
unfolding is_stuck
free_before stuck ts free = absurd (true≢false (subst (λ (z : State). is_stuck z ≡ false) (run_stuck ts) free))
free_before (reading m bs) ts free = refl

pub run_stands :
    (s : Source) (ts : List Token) (i : ℕ) (y : Survey) → Nested y → is_stuck (run (state_of y) ts) ≡ false
    → Stands (run (state_of y) ts) (read_all (survey_token s) y i ts)
unfolding run read_all
run_stands s [] i y h free = (refl, h)
run_stands s (t ∷ ts) i y h free =
    let stands : Stands (next (state_of y) t) (survey_token s y i t) = step_stands s i t y h (free_before (next (state_of y) t) ts free) in
    subst (λ (z : State). Stands (run z ts) (read_all (survey_token s) (survey_token s y i t) (suc i) ts)) (sym stands.0)
    (run_stands s ts (suc i) (survey_token s y i t) stands.1 (subst (λ (z : State). is_stuck (run z ts) ≡ false) stands.0 free))

-- from nothing read on: the machine's mode and brackets are those of the survey
pub brackets_stand :
    (s : Source) (ts : List Token) → is_stuck (run start ts) ≡ false → Stands (run start ts) (read_all (survey_token s) (unread s) 0 ts)
unfolding brackets_of nested number
brackets_stand s ts free = run_stands s ts 0 (unread s) (tt, λ e. absurd (omega arith)) free
