-- One token of the survey, by its class and the mode: what kind of act it is tells which part of the survey goes on, and the level, the
-- operand's sort and the fault behind it are those of the definitions by numbers.
-- Assumes nothing.
use Prim.Native.Nat.{ℕ, suc, ◌+◌, ◌≤◌, max}
use mathlib.Core.Path.{◌≡◌, refl, sym, subst}
use mathlib.Core.Bool.{Bool, true, false, ◌&&◌, ◌||◌, not, cond}
use mathlib.Core.List.{List, [], ◌∷◌}
use lib.Dec.{T, eqb, ltb}
use lib.ListN.{length}
use Rattle.std.specs.Prelude.{Option, None, Some}
use native.Mathlib.Nat.{max-zero, zero-max}
use borrow.Author.Tests.{eqb-true}
use Rattle.meaning.proofs.Bools.{or_i_l, or_i_r, untrue}
use native.Mathlib.Omega.{arith}
use Rattle.names.specs.Names.{is_named}
use Rattle.text.specs.declared.Fault.{Fault}
use Rattle.text.specs.declared.Level.{Level}
use Rattle.text.specs.declared.Sort.{Sort}
use Rattle.text.specs.declared.Sort.TheVariants.{Nodes, Unheld}
use Rattle.text.specs.Grammar.{Token, opening, closing, '[', ']', dot, dots, at, comma, '::', NameTest, NodeType, 'processing_instruction', FunctionName, AxisName, Literal, Number, VariableReference, '/', '//', '|', '+', '-', '=', '!=', '<', '<=', '>', '>=', MultiplyOperator, 'and', 'or', 'div', 'mod', unknown}
use Rattle.text.specs.Tokens.{code}
use Rattle.text.specs.Machine.{Mode, operand, argument, union, root, step, axis, test, type, empty, instruction, target, call, whole, part, number, has, Act, refuse, Row, on, rows, pick}
use Rattle.text.specs.Limited.{Source, place, word_of, is_star, has_prefix, holds_axis, most_digits, digits, number_at, fault, name_faults, digit_faults}
use Rattle.text.specs.Survey.{urgency, worst, noted, fresh, path_begun, other_begun, joined_on, operator_faults, sign_faults, Survey, survey, after, mode_after, step_read, operand_read, slash_read, bracket_read, opening_read, closing_read, comma_read, bar_read, operator_read, minus_read, string_read, name_read, left, survey_token}
use Rattle.modes.specs.Acts.{opened, act_number}
use Rattle.levels.specs.Levels.{is_due, takes_sign, goes_on, group_of, tightness_of, stepped, slashed, grouped, bracketed, quoted, level_in, sort_in, sooner, lowered, with_own, own_of, name_in, fault_in}
use Rattle.levels.proofs.Modes.{tested, is_go, is_enter, is_leave, is_next}
use Rattle.levels.proofs.Urgent.{Tells, Inside, sooner_tells, lowered_tells, operator_faults_tell, sign_faults_tell}

-- ---- which acts a token has

-- some row's act passes
abbrev pub some_act : (Act → Bool) → List Row → Bool
some_act f [] = false
some_act f (on ms a ∷ rest) = f a || some_act f rest

-- what is picked stands in a row, or is a refusal
pub pick_some : (f : Act → Bool) → f refuse ≡ false → (rs : List Row) (m : Mode) → T (f (pick rs m)) → T (some_act f rs)
unfolding pick
pick_some f none [] m h = untrue none h
pick_some f none (on ms a ∷ rest) m h = by (has ms m) (pick_some f none rest m) h
  where
    by : (b : Bool) → (T (f (pick rest m)) → T (some_act f rest)) → T (f (cond b a (pick rest m))) → T (f a || some_act f rest)
    by true later k = or_i_l (f a) (some_act f rest) k
    by false later k = or_i_r (f a) (some_act f rest) (later k)

-- ---- a token's own faults

module _ (s : Source) (i : ℕ) (here : place s i ≤ length s.text) {f : Option Fault} {x : ℕ} (told : Tells s f x) where
  -- no fault, or one at the token
  none_tells : Tells s f (max (worst s []) x)
  unfolding worst
  none_tells = subst (λ (y : ℕ). Tells s f y) (sym (zero-max x)) told

  one_tells : (n : ℕ) → 24 ≤ n → n ≤ 26 → Tells s (sooner n (place s i) f) (max (worst s (fault s n i)) x)
  unfolding worst
  one_tells n least most =
      subst (λ (y : ℕ). Tells s (sooner n (place s i) f) (max y x)) (sym (max-zero (urgency s n (place s i))))
      (sooner_tells s (record { least = least; most = most; within = here }) told)

  name_by : (a b c : Bool)
      → Tells s (with_own (cond a None (cond b (Some 26) (cond c None (Some 24)))) (place s i) f)
      (max (worst s (cond a [] (cond b (fault s 26 i) (cond c [] (fault s 24 i))))) x)
  unfolding with_own worst
  name_by true b c = none_tells
  name_by false true c = one_tells 26 (omega arith) (omega arith)
  name_by false false true = none_tells
  name_by false false false = one_tells 24 (omega arith) (omega arith)

  name_tells : Tells s (with_own (own_of s 9 (place s i)) (place s i) f) (max (worst s (name_faults s i)) x)
  unfolding own_of name_faults
  name_tells = name_by (is_star s.text (place s i)) (has_prefix s.text (place s i)) (is_named s.names (word_of s i))

  axis_by : (a : Bool) → Tells s (with_own (cond a None (Some 26)) (place s i) f) (max (worst s (cond a [] (fault s 26 i))) x)
  unfolding with_own worst
  axis_by true = none_tells
  axis_by false = one_tells 26 (omega arith) (omega arith)

  axis_tells : Tells s (with_own (own_of s 13 (place s i)) (place s i) f) (max (worst s (cond (holds_axis (word_of s i)) [] (fault s 26 i))) x)
  unfolding own_of
  axis_tells = axis_by (holds_axis (word_of s i))

  number_by : (a : Bool) → Tells s (with_own (cond a (Some 25) None) (place s i) f) (max (worst s (cond a (fault s 25 i) [])) x)
  unfolding with_own worst
  number_by true = one_tells 25 (omega arith) (omega arith)
  number_by false = none_tells

  number_tells : Tells s (with_own (own_of s 15 (place s i)) (place s i) f) (max (worst s (digit_faults s i)) x)
  unfolding own_of digit_faults
  number_tells = number_by (ltb most_digits (length (digits (number_at s.text (place s i)))))

  variable_tells : Tells s (with_own (own_of s 16 (place s i)) (place s i) f) (max (worst s (fault s 26 i)) x)
  unfolding own_of with_own
  variable_tells = one_tells 26 (omega arith) (omega arith)

-- ---- a token, by its class and the mode

-- what has to be known of the bytes where token i is read in mode q: they lie in the text
pub record Known (s : Source) (i : ℕ) (l : Level) (n q : ℕ) : Type 0 where
  pub inside : Inside s l
  pub here : place s i ≤ length s.text
  pub name : q ≡ 10 → n ≤ length s.text

module _ (s : Source) (i : ℕ) (l : Level) (ls : List Level) (v : Sort) (n : ℕ) where
  -- the survey behind token i of class t in mode m
  abbrev pub survey_behind : Token → Mode → ℕ → Survey
  survey_behind t m x = survey_token s (survey m l ls v n x) i t

  -- what is behind a token of class k in mode q by the definitions by numbers: the level, the operand's sort, the last name, the fault
  abbrev pub level_of : ℕ → ℕ → Level
  level_of k q = level_in (group_of k) (tightness_of k) q (place s (suc i)) l

  abbrev pub sort_of : ℕ → ℕ → Sort
  sort_of k q = sort_in (group_of k) k q v

  abbrev pub name_of : ℕ → ℕ
  name_of k = name_in s k (place s i) n

  abbrev pub fault_of : ℕ → ℕ → Option Fault → Option Fault
  fault_of k q f = fault_in (group_of k) k (tightness_of k) q l v n (place s i) (own_of s k (place s i)) f

  -- the kind of the level that an act opens, by its number
  abbrev pub kind_of : ℕ → ℕ
  kind_of a = cond (eqb a 15) 1 (cond (eqb a 16) (4 + n) 2)

  -- behind the `(` of a call a bracket closes with no argument
  abbrev pub arity_of : ℕ → ℕ
  arity_of q = cond (eqb q 1) 0 1

  module _ (x : ℕ) where
    -- the survey behind the token is y with an urgency, and the fault by numbers tells it
    pub record Behind (k q : ℕ) (y : ℕ → Survey) (z : Survey) : Type 0 where
      pub urgency : ℕ
      pub equation : z ≡ y urgency
      pub tells : (f : Option Fault) → Tells s f x → Known s i l n q → Tells s (fault_of k q f) urgency

    -- a token leads to the mode m'
    abbrev pub Goes : Token → Mode → Mode → ℕ → ℕ → Type 0
    Goes t m m' k q = Behind k q (survey m' (level_of k q) ls (sort_of k q) (name_of k)) (survey_behind t m x)

    -- a token opens a bracket with the act a
    abbrev pub Enters : Token → Mode → Mode → ℕ → ℕ → ℕ → Type 0
    Enters t m m' a k q = Behind k q (survey m' (fresh (kind_of a) (place s (suc i))) (level_of k q ∷ ls) v n) (survey_behind t m x)

    gone : {k q : ℕ} {y : ℕ → Survey} {z : Survey} (u : ℕ)
        → z ≡ y u → ((f : Option Fault) → Tells s f x → Known s i l n q → Tells s (fault_of k q f) u) → Behind k q y z
    gone u e h = record { urgency = u; equation = e; tells = h }

    none_told : {q : ℕ} (f : Option Fault) → Tells s f x → Known s i l n q → Tells s f (max (worst s []) x)
    none_told f told known = none_tells s i known.here told

    operator_told : (t : ℕ) {q : ℕ} (f : Option Fault) → Tells s f x → Known s i l n q
        → Tells s (operator_faults lowered t l v f) (operator_faults (noted s) t l v x)
    operator_told t f told known = operator_faults_tell s t v known.inside told

    slash_by : (d b : Bool) (m' : Mode)
        → cond d (survey m' (path_begun l) ls Nodes n x)
        (cond b (survey m' (path_begun (joined_on l)) ls v n (noted s true l.m x)) (survey m' l ls v n x))
        ≡ survey m' (cond d (path_begun l) (cond b (path_begun (joined_on l)) l)) ls (cond d Nodes v) n (noted s (not d && b) l.m x)
    unfolding noted
    slash_by true b m' = refl
    slash_by false true m' = refl
    slash_by false false m' = refl

    slash_goes : (t : Token) (m : Mode)
        → slash_read (mode_after m t) s (survey m l ls v n x)
        ≡ survey (mode_after m t) (slashed (number m) l) ls (cond (is_due (number m)) Nodes v) n
        (noted s (not (is_due (number m)) && (goes_on (number m) && not l.inpath)) l.m x)
    unfolding slash_read slashed
    slash_goes t m = rw ((tested m).begins, (tested m).continues) (slash_by (is_due (number m)) (goes_on (number m) && not l.inpath) (mode_after m t))

    choose : (b : Bool) {m' : Mode} {k : Level} (y z : ℕ)
        → cond b (survey m' k ls v n y) (survey m' k ls v n z) ≡ survey m' k ls v n (cond b y z)
    choose true y z = refl
    choose false y z = refl

    sign_tells : (b : Bool) {f : Option Fault} → Tells s f x → Inside s l
        → Tells s (cond b (sign_faults lowered l f) (operator_faults lowered 5 l v f)) (cond b (sign_faults (noted s) l x) (operator_faults (noted s) 5 l v x))
    sign_tells true told inside = sign_faults_tell s inside told
    sign_tells false told inside = operator_faults_tell s 5 v inside told

    string_by : (b : Bool) (m' : Mode)
        → cond b (survey m' l ls v n (noted s true n x)) (survey m' (other_begun l) ls Unheld n (noted s true (place s i) x))
        ≡ survey m' (cond b l (other_begun l)) ls (cond (not b) Unheld v) n (noted s true (cond b n (place s i)) x)
    string_by true m' = refl
    string_by false m' = refl

    string_place : (q : ℕ) → Known s i l n q → cond (eqb q 10) n (place s i) ≤ length s.text
    string_place q known = by (eqb q 10) refl
      where
        by : (b : Bool) → eqb q 10 ≡ b → cond b n (place s i) ≤ length s.text
        by true e = known.name (eqb-true q 10 e)
        by false e = known.here

    -- a token that leads to a mode
    opening_goes : (m : Mode) → T (is_go (pick (rows opening) m)) → Goes opening m (mode_after m opening) (code opening) (number m)
    unfolding survey_token group_of tightness_of code level_in sort_in name_in fault_in opening_read grouped pick rows has number
    opening_goes operand h = absurd h
    opening_goes argument h = absurd h
    opening_goes union h = absurd h
    opening_goes root h = absurd h
    opening_goes step h = absurd h
    opening_goes axis h = absurd h
    opening_goes test h = absurd h
    opening_goes type h = gone x refl (λ f told known. told)
    opening_goes empty h = absurd h
    opening_goes instruction h = gone x refl (λ f told known. told)
    opening_goes target h = absurd h
    opening_goes call h = absurd h
    opening_goes whole h = absurd h
    opening_goes part h = absurd h

    closing_goes : (m : Mode) → T (is_go (pick (rows closing) m)) → Goes closing m (mode_after m closing) (code closing) (number m)
    unfolding survey_token group_of tightness_of code level_in sort_in name_in fault_in closing_read pick rows has number
    closing_goes operand h = absurd h
    closing_goes argument h = absurd h
    closing_goes union h = absurd h
    closing_goes root h = absurd h
    closing_goes step h = absurd h
    closing_goes axis h = absurd h
    closing_goes test h = absurd h
    closing_goes type h = absurd h
    closing_goes empty h = gone x refl (λ f told known. told)
    closing_goes instruction h = absurd h
    closing_goes target h = gone x refl (λ f told known. told)
    closing_goes call h = absurd h
    closing_goes whole h = absurd h
    closing_goes part h = absurd h

    pub goes_behind : (t : Token) (m : Mode) → T (is_go (pick (rows t) m)) → Goes t m (mode_after m t) (code t) (number m)
    unfolding survey_token group_of tightness_of code level_in sort_in name_in fault_in step_read operand_read bar_read operator_read minus_read string_read name_read stepped quoted own_of with_own lowered rows
    goes_behind opening m h = opening_goes m h
    goes_behind closing m h = closing_goes m h
    goes_behind '[' m h = absurd (pick_some is_go refl (rows '[') m h)
    goes_behind ']' m h = absurd (pick_some is_go refl (rows ']') m h)
    goes_behind dot m h = gone (max (worst s []) x) (rw (tested m).begins) none_told
    goes_behind dots m h = gone (max (worst s []) x) (rw (tested m).begins) none_told
    goes_behind at m h = gone (max (worst s []) x) (rw (tested m).begins) none_told
    goes_behind comma m h = absurd (pick_some is_go refl (rows comma) m h)
    goes_behind '::' m h = gone (max (worst s []) x) (rw (tested m).begins) none_told
    goes_behind NameTest m h =
        gone (max (worst s (name_faults s i)) x)
        (rw (tested m).begins)
        (λ f told known. name_tells s i known.here told)
    goes_behind NodeType m h = gone (max (worst s []) x) (rw (tested m).begins) none_told
    goes_behind 'processing_instruction' m h = gone (max (worst s []) x) (rw (tested m).begins) none_told
    goes_behind FunctionName m h = gone x refl (λ f told known. told)
    goes_behind AxisName m h =
        gone (max (worst s (cond (holds_axis (word_of s i)) [] (fault s 26 i))) x)
        (rw (tested m).begins)
        (λ f told known. axis_tells s i known.here told)
    goes_behind Literal m h =
        gone (noted s true (cond (eqb (number m) 10) n (place s i)) x)
        (rw (tested m).targets (string_by (eqb (number m) 10) (mode_after m Literal)))
        (λ f told known. lowered_tells s true (string_place (number m) known) told)
    goes_behind Number m h =
        gone (max (worst s (digit_faults s i)) x)
        refl
        (λ f told known. number_tells s i known.here told)
    goes_behind VariableReference m h =
        gone (max (worst s (fault s 26 i)) x)
        refl
        (λ f told known. variable_tells s i known.here told)
    goes_behind '/' m h =
        gone (noted s (not (is_due (number m)) && (goes_on (number m) && not l.inpath)) l.m x)
        (slash_goes '/' m)
        (λ f told known. lowered_tells s (not (is_due (number m)) && (goes_on (number m) && not l.inpath)) known.inside.m_inside told)
    goes_behind '//' m h =
        gone (noted s (not (is_due (number m)) && (goes_on (number m) && not l.inpath)) l.m x)
        (slash_goes '//' m)
        (λ f told known. lowered_tells s (not (is_due (number m)) && (goes_on (number m) && not l.inpath)) known.inside.m_inside told)
    goes_behind '|' m h =
        gone (noted s (not l.joined) l.m x)
        refl
        (λ f told known. lowered_tells s (not l.joined) known.inside.m_inside told)
    goes_behind '+' m h = gone (operator_faults (noted s) 5 l v x) refl (operator_told 5)
    goes_behind '-' m h =
        gone (cond (takes_sign (number m)) (sign_faults (noted s) l x) (operator_faults (noted s) 5 l v x))
        (rw (tested m).signs (choose (takes_sign (number m)) (sign_faults (noted s) l x) (operator_faults (noted s) 5 l v x)))
        (λ f told known. sign_tells (takes_sign (number m)) told known.inside)
    goes_behind '=' m h = gone (operator_faults (noted s) 3 l v x) refl (operator_told 3)
    goes_behind '!=' m h = gone (operator_faults (noted s) 3 l v x) refl (operator_told 3)
    goes_behind '<' m h = gone (operator_faults (noted s) 4 l v x) refl (operator_told 4)
    goes_behind '<=' m h = gone (operator_faults (noted s) 4 l v x) refl (operator_told 4)
    goes_behind '>' m h = gone (operator_faults (noted s) 4 l v x) refl (operator_told 4)
    goes_behind '>=' m h = gone (operator_faults (noted s) 4 l v x) refl (operator_told 4)
    goes_behind MultiplyOperator m h = gone (operator_faults (noted s) 6 l v x) refl (operator_told 6)
    goes_behind 'and' m h = gone (operator_faults (noted s) 2 l v x) refl (operator_told 2)
    goes_behind 'or' m h = gone (operator_faults (noted s) 1 l v x) refl (operator_told 1)
    goes_behind 'div' m h = gone (operator_faults (noted s) 6 l v x) refl (operator_told 6)
    goes_behind 'mod' m h = gone (operator_faults (noted s) 6 l v x) refl (operator_told 6)
    goes_behind unknown m h = absurd (pick_some is_go refl (rows unknown) m h)

    -- a token that opens a bracket
    opening_enters :
        (m : Mode) → T (is_enter (pick (rows opening) m))
        → Enters opening m (mode_after m opening) (act_number (pick (rows opening) m)) (code opening) (number m)
    unfolding survey_token group_of tightness_of code level_in sort_in name_in fault_in opening_read grouped act_number opened pick rows has number
    opening_enters operand h = gone x refl (λ f told known. told)
    opening_enters argument h = gone x refl (λ f told known. told)
    opening_enters union h = gone x refl (λ f told known. told)
    opening_enters root h = absurd h
    opening_enters step h = absurd h
    opening_enters axis h = absurd h
    opening_enters test h = absurd h
    opening_enters type h = absurd h
    opening_enters empty h = absurd h
    opening_enters instruction h = absurd h
    opening_enters target h = absurd h
    opening_enters call h = gone x refl (λ f told known. told)
    opening_enters whole h = absurd h
    opening_enters part h = absurd h

    bracket_by : (b : Bool) (m' : Mode) (p : ℕ)
        → cond b (survey m' (fresh 2 p) (l ∷ ls) v n x) (survey m' (fresh 2 p) (joined_on l ∷ ls) v n (noted s true l.m x))
        ≡ survey m' (fresh 2 p) (cond b l (joined_on l) ∷ ls) v n (noted s (not b) l.m x)
    unfolding noted
    bracket_by true m' p = refl
    bracket_by false m' p = refl

    bracket_enters :
        (m : Mode) → T (is_enter (pick (rows '[') m)) → Enters '[' m (mode_after m '[') (act_number (pick (rows '[') m)) (code '[') (number m)
    unfolding survey_token group_of tightness_of code level_in sort_in name_in fault_in bracket_read bracketed act_number opened pick rows has number
    bracket_enters operand h = absurd h
    bracket_enters argument h = absurd h
    bracket_enters union h = absurd h
    bracket_enters root h = absurd h
    bracket_enters step h = absurd h
    bracket_enters axis h = absurd h
    bracket_enters test h = absurd h
    bracket_enters type h = absurd h
    bracket_enters empty h = absurd h
    bracket_enters instruction h = absurd h
    bracket_enters target h = absurd h
    bracket_enters call h = absurd h
    bracket_enters whole h = absurd h
    bracket_enters part h =
        gone (noted s (not l.inpath) l.m x)
        (bracket_by l.inpath (mode_after part '[') (place s (suc i)))
        (λ f told known. lowered_tells s (not l.inpath) known.inside.m_inside told)

    pub enters_behind :
        (t : Token) (m : Mode) → T (is_enter (pick (rows t) m)) → Enters t m (mode_after m t) (act_number (pick (rows t) m)) (code t) (number m)
    unfolding rows
    enters_behind opening m h = opening_enters m h
    enters_behind closing m h = absurd (pick_some is_enter refl (rows closing) m h)
    enters_behind '[' m h = bracket_enters m h
    enters_behind ']' m h = absurd (pick_some is_enter refl (rows ']') m h)
    enters_behind dot m h = absurd (pick_some is_enter refl (rows dot) m h)
    enters_behind dots m h = absurd (pick_some is_enter refl (rows dots) m h)
    enters_behind at m h = absurd (pick_some is_enter refl (rows at) m h)
    enters_behind comma m h = absurd (pick_some is_enter refl (rows comma) m h)
    enters_behind '::' m h = absurd (pick_some is_enter refl (rows '::') m h)
    enters_behind NameTest m h = absurd (pick_some is_enter refl (rows NameTest) m h)
    enters_behind NodeType m h = absurd (pick_some is_enter refl (rows NodeType) m h)
    enters_behind 'processing_instruction' m h = absurd (pick_some is_enter refl (rows 'processing_instruction') m h)
    enters_behind FunctionName m h = absurd (pick_some is_enter refl (rows FunctionName) m h)
    enters_behind AxisName m h = absurd (pick_some is_enter refl (rows AxisName) m h)
    enters_behind Literal m h = absurd (pick_some is_enter refl (rows Literal) m h)
    enters_behind Number m h = absurd (pick_some is_enter refl (rows Number) m h)
    enters_behind VariableReference m h = absurd (pick_some is_enter refl (rows VariableReference) m h)
    enters_behind '/' m h = absurd (pick_some is_enter refl (rows '/') m h)
    enters_behind '//' m h = absurd (pick_some is_enter refl (rows '//') m h)
    enters_behind '|' m h = absurd (pick_some is_enter refl (rows '|') m h)
    enters_behind '+' m h = absurd (pick_some is_enter refl (rows '+') m h)
    enters_behind '-' m h = absurd (pick_some is_enter refl (rows '-') m h)
    enters_behind '=' m h = absurd (pick_some is_enter refl (rows '=') m h)
    enters_behind '!=' m h = absurd (pick_some is_enter refl (rows '!=') m h)
    enters_behind '<' m h = absurd (pick_some is_enter refl (rows '<') m h)
    enters_behind '<=' m h = absurd (pick_some is_enter refl (rows '<=') m h)
    enters_behind '>' m h = absurd (pick_some is_enter refl (rows '>') m h)
    enters_behind '>=' m h = absurd (pick_some is_enter refl (rows '>=') m h)
    enters_behind MultiplyOperator m h = absurd (pick_some is_enter refl (rows MultiplyOperator) m h)
    enters_behind 'and' m h = absurd (pick_some is_enter refl (rows 'and') m h)
    enters_behind 'or' m h = absurd (pick_some is_enter refl (rows 'or') m h)
    enters_behind 'div' m h = absurd (pick_some is_enter refl (rows 'div') m h)
    enters_behind 'mod' m h = absurd (pick_some is_enter refl (rows 'mod') m h)
    enters_behind unknown m h = absurd (pick_some is_enter refl (rows unknown) m h)

    -- a token that closes the innermost bracket
    closing_leaves :
        (m : Mode) → T (is_leave (pick (rows closing) m)) → survey_behind closing m x ≡ left part (arity_of (number m)) s (survey m l ls v n x)
    unfolding survey_token closing_read after pick rows has number
    closing_leaves operand h = absurd h
    closing_leaves argument h = refl
    closing_leaves union h = absurd h
    closing_leaves root h = refl
    closing_leaves step h = absurd h
    closing_leaves axis h = absurd h
    closing_leaves test h = absurd h
    closing_leaves type h = absurd h
    closing_leaves empty h = absurd h
    closing_leaves instruction h = absurd h
    closing_leaves target h = absurd h
    closing_leaves call h = absurd h
    closing_leaves whole h = refl
    closing_leaves part h = refl

    square_leaves : (m : Mode) → T (is_leave (pick (rows ']') m))
        → survey_behind ']' m x ≡ left part (arity_of (number m)) s (survey m l ls v n x)
    unfolding survey_token after pick rows has number
    square_leaves operand h = absurd h
    square_leaves argument h = absurd h
    square_leaves union h = absurd h
    square_leaves root h = refl
    square_leaves step h = absurd h
    square_leaves axis h = absurd h
    square_leaves test h = absurd h
    square_leaves type h = absurd h
    square_leaves empty h = absurd h
    square_leaves instruction h = absurd h
    square_leaves target h = absurd h
    square_leaves call h = absurd h
    square_leaves whole h = refl
    square_leaves part h = refl

    pub leaves_behind : (t : Token) (m : Mode) → T (is_leave (pick (rows t) m))
        → survey_behind t m x ≡ left part (arity_of (number m)) s (survey m l ls v n x)
    unfolding rows
    leaves_behind opening m h = absurd (pick_some is_leave refl (rows opening) m h)
    leaves_behind closing m h = closing_leaves m h
    leaves_behind '[' m h = absurd (pick_some is_leave refl (rows '[') m h)
    leaves_behind ']' m h = square_leaves m h
    leaves_behind dot m h = absurd (pick_some is_leave refl (rows dot) m h)
    leaves_behind dots m h = absurd (pick_some is_leave refl (rows dots) m h)
    leaves_behind at m h = absurd (pick_some is_leave refl (rows at) m h)
    leaves_behind comma m h = absurd (pick_some is_leave refl (rows comma) m h)
    leaves_behind '::' m h = absurd (pick_some is_leave refl (rows '::') m h)
    leaves_behind NameTest m h = absurd (pick_some is_leave refl (rows NameTest) m h)
    leaves_behind NodeType m h = absurd (pick_some is_leave refl (rows NodeType) m h)
    leaves_behind 'processing_instruction' m h = absurd (pick_some is_leave refl (rows 'processing_instruction') m h)
    leaves_behind FunctionName m h = absurd (pick_some is_leave refl (rows FunctionName) m h)
    leaves_behind AxisName m h = absurd (pick_some is_leave refl (rows AxisName) m h)
    leaves_behind Literal m h = absurd (pick_some is_leave refl (rows Literal) m h)
    leaves_behind Number m h = absurd (pick_some is_leave refl (rows Number) m h)
    leaves_behind VariableReference m h = absurd (pick_some is_leave refl (rows VariableReference) m h)
    leaves_behind '/' m h = absurd (pick_some is_leave refl (rows '/') m h)
    leaves_behind '//' m h = absurd (pick_some is_leave refl (rows '//') m h)
    leaves_behind '|' m h = absurd (pick_some is_leave refl (rows '|') m h)
    leaves_behind '+' m h = absurd (pick_some is_leave refl (rows '+') m h)
    leaves_behind '-' m h = absurd (pick_some is_leave refl (rows '-') m h)
    leaves_behind '=' m h = absurd (pick_some is_leave refl (rows '=') m h)
    leaves_behind '!=' m h = absurd (pick_some is_leave refl (rows '!=') m h)
    leaves_behind '<' m h = absurd (pick_some is_leave refl (rows '<') m h)
    leaves_behind '<=' m h = absurd (pick_some is_leave refl (rows '<=') m h)
    leaves_behind '>' m h = absurd (pick_some is_leave refl (rows '>') m h)
    leaves_behind '>=' m h = absurd (pick_some is_leave refl (rows '>=') m h)
    leaves_behind MultiplyOperator m h = absurd (pick_some is_leave refl (rows MultiplyOperator) m h)
    leaves_behind 'and' m h = absurd (pick_some is_leave refl (rows 'and') m h)
    leaves_behind 'or' m h = absurd (pick_some is_leave refl (rows 'or') m h)
    leaves_behind 'div' m h = absurd (pick_some is_leave refl (rows 'div') m h)
    leaves_behind 'mod' m h = absurd (pick_some is_leave refl (rows 'mod') m h)
    leaves_behind unknown m h = absurd (pick_some is_leave refl (rows unknown) m h)

    -- a token that parts two arguments
    comma_parts : (m : Mode) → T (is_next (pick (rows comma) m))
        → survey_behind comma m x ≡ comma_read operand (place s (suc i)) s (survey m l ls v n x)
    unfolding survey_token after pick rows has number
    comma_parts operand h = absurd h
    comma_parts argument h = absurd h
    comma_parts union h = absurd h
    comma_parts root h = refl
    comma_parts step h = absurd h
    comma_parts axis h = absurd h
    comma_parts test h = absurd h
    comma_parts type h = absurd h
    comma_parts empty h = absurd h
    comma_parts instruction h = absurd h
    comma_parts target h = absurd h
    comma_parts call h = absurd h
    comma_parts whole h = refl
    comma_parts part h = refl

    pub parts_behind : (t : Token) (m : Mode) → T (is_next (pick (rows t) m))
        → survey_behind t m x ≡ comma_read operand (place s (suc i)) s (survey m l ls v n x)
    unfolding rows
    parts_behind opening m h = absurd (pick_some is_next refl (rows opening) m h)
    parts_behind closing m h = absurd (pick_some is_next refl (rows closing) m h)
    parts_behind '[' m h = absurd (pick_some is_next refl (rows '[') m h)
    parts_behind ']' m h = absurd (pick_some is_next refl (rows ']') m h)
    parts_behind dot m h = absurd (pick_some is_next refl (rows dot) m h)
    parts_behind dots m h = absurd (pick_some is_next refl (rows dots) m h)
    parts_behind at m h = absurd (pick_some is_next refl (rows at) m h)
    parts_behind comma m h = comma_parts m h
    parts_behind '::' m h = absurd (pick_some is_next refl (rows '::') m h)
    parts_behind NameTest m h = absurd (pick_some is_next refl (rows NameTest) m h)
    parts_behind NodeType m h = absurd (pick_some is_next refl (rows NodeType) m h)
    parts_behind 'processing_instruction' m h = absurd (pick_some is_next refl (rows 'processing_instruction') m h)
    parts_behind FunctionName m h = absurd (pick_some is_next refl (rows FunctionName) m h)
    parts_behind AxisName m h = absurd (pick_some is_next refl (rows AxisName) m h)
    parts_behind Literal m h = absurd (pick_some is_next refl (rows Literal) m h)
    parts_behind Number m h = absurd (pick_some is_next refl (rows Number) m h)
    parts_behind VariableReference m h = absurd (pick_some is_next refl (rows VariableReference) m h)
    parts_behind '/' m h = absurd (pick_some is_next refl (rows '/') m h)
    parts_behind '//' m h = absurd (pick_some is_next refl (rows '//') m h)
    parts_behind '|' m h = absurd (pick_some is_next refl (rows '|') m h)
    parts_behind '+' m h = absurd (pick_some is_next refl (rows '+') m h)
    parts_behind '-' m h = absurd (pick_some is_next refl (rows '-') m h)
    parts_behind '=' m h = absurd (pick_some is_next refl (rows '=') m h)
    parts_behind '!=' m h = absurd (pick_some is_next refl (rows '!=') m h)
    parts_behind '<' m h = absurd (pick_some is_next refl (rows '<') m h)
    parts_behind '<=' m h = absurd (pick_some is_next refl (rows '<=') m h)
    parts_behind '>' m h = absurd (pick_some is_next refl (rows '>') m h)
    parts_behind '>=' m h = absurd (pick_some is_next refl (rows '>=') m h)
    parts_behind MultiplyOperator m h = absurd (pick_some is_next refl (rows MultiplyOperator) m h)
    parts_behind 'and' m h = absurd (pick_some is_next refl (rows 'and') m h)
    parts_behind 'or' m h = absurd (pick_some is_next refl (rows 'or') m h)
    parts_behind 'div' m h = absurd (pick_some is_next refl (rows 'div') m h)
    parts_behind 'mod' m h = absurd (pick_some is_next refl (rows 'mod') m h)
    parts_behind unknown m h = absurd (pick_some is_next refl (rows unknown) m h)
