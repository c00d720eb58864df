-- The survey: the lowest fault of a text of the grammar, found token by token, with a few numbers for each open bracket. It is a way to
-- compute, and need not be believed: a law says that it finds the least of `text_faults`.
-- Assumes nothing: these are definitions.
use Rattle.text.specs.declared.Function.{Function}
use Rattle.text.specs.declared.Function.TheVariants.{OtherCall}
use Rattle.std.specs.Prelude.{ℕ, suc, ◌+◌, ◌-◌, ◌*◌, max, Bool, true, false, ◌&&◌, ◌||◌, not, cond, List, [], ◌∷◌, length, get_or, eqb, ltb, leb}
use Rattle.names.specs.Names.{position}
use Rattle.text.specs.declared.Fault.{Fault}
use Rattle.text.specs.declared.Sort.{Sort}
use Rattle.text.specs.declared.Sort.TheVariants.{Numeral, Truth, Nodes, Unheld}
use Rattle.text.specs.declared.Level.{Level}
use Rattle.text.specs.Grammar.{Token, opening, closing, '[', ']', dot, dots, at, comma, '::', NameTest, NodeType, 'processing_instruction', FunctionName, AxisName, Literal, Number, VariableReference, '/', '//', '|', '+', '-', '=', '!=', '<', '<=', '>', '>=', MultiplyOperator, 'and', 'or', 'div', 'mod', unknown}
use Rattle.text.specs.Machine.{Mode, operand, argument, part, target, call, Act, refuse, go, enter, leave_round, leave_square, next_argument, rows, pick, inner, has, beginning, signing, ending, continuing}
use Rattle.text.specs.Syntax.{read_all}
use Rattle.text.specs.Limited.{Source, place, word_of, functions, function_names, holds_call, result_of, holds_axis, is_path, number_taken, path_taken, name_faults, digit_faults}

-- ---- faults as numbers

-- how urgent a fault is: the lower its byte, and at one byte its number, the greater; 0 is no fault
unfoldable pub urgency : Source → ℕ → ℕ → ℕ
urgency s n p = 32 * suc (length s.text) - (32 * p + n)

-- the most urgent of some faults
unfoldable pub worst : Source → List Fault → ℕ
worst s [] = 0
worst s (f ∷ fs) = max (urgency s f.number f.place) (worst s fs)

-- 26 at byte p, if the test holds
unfoldable pub noted : Source → Bool → ℕ → ℕ → ℕ
noted s test p found = cond test (max (urgency s 26 p) found) found

-- ---- levels

-- A level is an open bracket, or the whole text. Its kind: 0 the whole text, 1 a group, 2 a predicate, 4 + f a call of the function with
-- number f. andor: `or` or `and` stood on this level. rank, of the operators since the last of
-- those: 0 there is none, 1 signs, sums and products, 2 a comparison. joined: the operand in progress is a union, or a filter or a path from
-- one. inpath: it is a path, or goes on as one. e, g, m: the first byte of the operand in progress of `or` and `and`, of `=` and `!=`, and of
-- any operator.
abbrev pub fresh : ℕ → ℕ → Level
fresh kind p = record { kind = kind; rank = 0; joined = false; inpath = false; andor = false; e = p; g = p; m = p }

-- the whole text and count's argument have to be paths
abbrev pub wants_path : Level → Bool
wants_path l = eqb l.kind 0 || eqb l.kind 6

-- no operator stood on the level
abbrev pub bare : Level → Bool
bare l = not l.andor && eqb l.rank 0

-- the sort of the operand in progress, v if it is one by itself; and of the whole level
abbrev pub member_sort : Level → Sort → Sort
member_sort l v = cond l.joined Unheld v

unfoldable pub level_sort : Level → Sort → Sort
level_sort l v = cond (l.andor || eqb l.rank 2) Truth (cond (eqb l.rank 1) Numeral (member_sort l v))

-- a path begins, or another operand; the operand is joined; a part of a union begins at p
abbrev pub path_begun : Level → Level
path_begun l = record { kind = l.kind; rank = l.rank; joined = l.joined; inpath = true; andor = l.andor; e = l.e; g = l.g; m = l.m }

abbrev pub other_begun : Level → Level
other_begun l = record { kind = l.kind; rank = l.rank; joined = l.joined; inpath = false; andor = l.andor; e = l.e; g = l.g; m = l.m }

abbrev pub joined_on : Level → Level
joined_on l = record { kind = l.kind; rank = l.rank; joined = true; inpath = l.inpath; andor = l.andor; e = l.e; g = l.g; m = l.m }

abbrev pub union_at : ℕ → Level → Level
union_at p l = record { kind = l.kind; rank = l.rank; joined = true; inpath = false; andor = l.andor; e = l.e; g = l.g; m = p }

-- an operator of this tightness, or a sign, whose operand begins at p
unfoldable pub operated : ℕ → ℕ → Level → Level
operated k p l =
    cond (leb k 2) (record { kind = l.kind; rank = 0; joined = false; inpath = false; andor = true; e = p; g = p; m = p })
    (cond (eqb k 3) (record { kind = l.kind; rank = 2; joined = false; inpath = false; andor = l.andor; e = l.e; g = p; m = p })
    (cond (eqb k 4) (record { kind = l.kind; rank = 2; joined = false; inpath = false; andor = l.andor; e = l.e; g = l.g; m = p })
    (record { kind = l.kind; rank = max 1 l.rank; joined = false; inpath = false; andor = l.andor; e = l.e; g = l.g; m = p })))

-- the faults that an operator shows, by what notes a fault if a test holds: its left operand; the whole level; a comparison compared
unfoldable pub operator_faults : {F : Type 0} → (Bool → ℕ → F → F) → ℕ → Level → Sort → F → F
operator_faults note k l v found =
    note ((ltb 0 l.rank || leb 3 k) && not (number_taken (member_sort l v))) l.m
    (note (wants_path l && bare l) l.e
    (note (eqb k 3 && eqb l.rank 2) l.e
    (note (eqb k 4 && eqb l.rank 2) l.g found)))

-- a sign shows that the level is no path
unfoldable pub sign_faults : {F : Type 0} → (Bool → ℕ → F → F) → Level → F → F
sign_faults note l found = note (wants_path l && bare l) l.e found

-- the faults that the end of a level shows
unfoldable pub end_faults : {F : Type 0} → (Bool → ℕ → F → F) → Level → Sort → F → F
end_faults note l v found =
    note (ltb 0 l.rank && not (number_taken (member_sort l v))) l.m
    (note (wants_path l && bare l && not (path_taken (member_sort l v))) l.e found)

-- ---- the survey

-- what was read last, the innermost level and those around it, the sort of the operand in progress, what the last name before a `(` was (the
-- number of a function, or the byte of a processing-instruction), and the most urgent fault
pub data Survey : Type 0 where
  survey : Mode → Level → List Level → Sort → ℕ → ℕ → Survey

-- the mode behind a token
unfoldable pub after : Act → Mode → Mode
after refuse m = m
after (go n) m = n
after (enter b) m = inner b
after leave_round m = part
after leave_square m = part
after next_argument m = operand

abbrev pub mode_after : Mode → Token → Mode
mode_after m t = after (pick (rows t) m) m

abbrev pub begins : Mode → Bool
begins m = has beginning m

-- a token of a step at i, with these faults of its own; a path begins with it where an operand is due
unfoldable pub step_read : Mode → List Fault → Source → Survey → Survey
step_read m' fs s (survey m l ls v n found) =
    survey m' (cond (begins m) (path_begun l) l) ls (cond (begins m) Nodes v) n (max (worst s fs) found)

-- an operand of one token
unfoldable pub operand_read : Mode → Sort → List Fault → Source → Survey → Survey
operand_read m' v' fs s (survey m l ls v n found) = survey m' (other_begun l) ls v' n (max (worst s fs) found)

-- `/` and `//` begin a path where an operand is due; behind an operand that is no path they lead on from it
unfoldable pub slash_read : Mode → Source → Survey → Survey
slash_read m' s (survey m l ls v n found) =
    cond (begins m) (survey m' (path_begun l) ls Nodes n found)
    (cond (has continuing m && not l.inpath) (survey m' (path_begun (joined_on l)) ls v n (noted s true l.m found))
    (survey m' l ls v n found))

-- a bracket of this kind opens; what it holds begins at p
unfoldable pub entered : Mode → ℕ → ℕ → Survey → Survey
entered m' kind p (survey m l ls v n found) = survey m' (fresh kind p) (l ∷ ls) v n found

-- `[` is a step's where a path is read, else it is another operand's
unfoldable pub bracket_read : Mode → ℕ → Source → Survey → Survey
bracket_read m' p s (survey m l ls v n found) =
    cond l.inpath (survey m' (fresh 2 p) (l ∷ ls) v n found)
    (survey m' (fresh 2 p) (joined_on l ∷ ls) v n (noted s true l.m found))

-- `(` behind the name of a function, where an operand is due, and behind a node type
unfoldable pub opening_read : Mode → ℕ → Source → Survey → Survey
opening_read m' p s (survey m l ls v n found) =
    cond (has (call ∷ []) m) (survey m' (fresh (4 + n) p) (other_begun l ∷ ls) v n found)
    (cond (begins m) (survey m' (fresh 1 p) (other_begun l ∷ ls) v n found)
    (survey m' l ls v n found))

abbrev pub function_at : ℕ → Function
function_at f = get_or functions f OtherCall

-- behind a level of this kind, whose sort is v and which holds so many arguments: the sort of the operand that it is, and a fault at that one
unfoldable pub sort_behind : ℕ → ℕ → Sort → Sort
sort_behind kind arity v =
    cond (eqb kind 1) v
    (cond (eqb kind 2) Nodes
    (cond (holds_call (function_at (kind - 4)) arity) (result_of (function_at (kind - 4))) Unheld))

unfoldable pub fault_behind : ℕ → ℕ → Sort → Bool
fault_behind kind arity v = cond (eqb kind 1) (is_path v) (leb 4 kind && not (holds_call (function_at (kind - 4)) arity))

-- the innermost bracket closes
unfoldable pub left : Mode → ℕ → Source → Survey → Survey
left m' arity s (survey m l [] v n found) = survey m' l [] v n found
left m' arity s (survey m l (o ∷ ls) v n found) =
    survey m' o ls (sort_behind l.kind arity (level_sort l v)) n
    (noted s (fault_behind l.kind arity (level_sort l v)) o.m (cond (eqb arity 0) found (end_faults (noted s) l v found)))

-- `)` closes a group or a call, which may hold nothing, or the brackets of a node type
unfoldable pub closing_read : Mode → Source → Survey → Survey
closing_read m' s (survey m l ls v n found) =
    cond (has (argument ∷ []) m) (left m' 0 s (survey m l ls v n found))
    (cond (has ending m) (left m' 1 s (survey m l ls v n found))
    (survey m' l ls v n found))

-- `,`: no function that 01 holds takes two arguments
unfoldable pub comma_read : Mode → ℕ → Source → Survey → Survey
comma_read m' p s (survey m l [] v n found) = survey m' l [] v n found
comma_read m' p s (survey m l (o ∷ ls) v n found) = survey m' (fresh 9 p) (o ∷ ls) v n (noted s true o.m (end_faults (noted s) l v found))

-- `|`: a union is not held
unfoldable pub bar_read : Mode → ℕ → Source → Survey → Survey
bar_read m' p s (survey m l ls v n found) = survey m' (union_at p l) ls v n (noted s (not l.joined) l.m found)

unfoldable pub operator_read : Mode → ℕ → ℕ → Source → Survey → Survey
operator_read m' k p s (survey m l ls v n found) = survey m' (operated k p l) ls v n (operator_faults (noted s) k l v found)

-- `-` where an operand is due is a sign
unfoldable pub minus_read : Mode → ℕ → Source → Survey → Survey
minus_read m' p s (survey m l ls v n found) =
    cond (has signing m) (survey m' (operated 5 p l) ls v n (sign_faults (noted s) l found))
    (survey m' (operated 5 p l) ls v n (operator_faults (noted s) 5 l v found))

-- a string is an operand, or what a processing-instruction is to be called
unfoldable pub string_read : Mode → ℕ → Source → Survey → Survey
string_read m' i s (survey m l ls v n found) =
    cond (has (target ∷ []) m) (survey m' l ls v n (noted s true n found))
    (survey m' (other_begun l) ls Unheld n (noted s true (place s i) found))

-- the name before a `(`
unfoldable pub name_read : Mode → ℕ → Survey → Survey
name_read m' n' (survey m l ls v n found) = survey m' l ls v n' found

abbrev pub mode_of : Survey → Mode
mode_of (survey m l ls v n found) = m

-- token i, in the order of the classes; what follows it begins at p
unfoldable pub survey_token : Source → Survey → ℕ → Token → Survey
survey_token s y i opening = opening_read (mode_after (mode_of y) opening) (place s (suc i)) s y
survey_token s y i closing = closing_read (mode_after (mode_of y) closing) s y
survey_token s y i '[' = bracket_read (mode_after (mode_of y) '[') (place s (suc i)) s y
survey_token s y i ']' = left (mode_after (mode_of y) ']') 1 s y
survey_token s y i dot = step_read (mode_after (mode_of y) dot) [] s y
survey_token s y i dots = step_read (mode_after (mode_of y) dots) [] s y
survey_token s y i at = step_read (mode_after (mode_of y) at) [] s y
survey_token s y i comma = comma_read (mode_after (mode_of y) comma) (place s (suc i)) s y
survey_token s y i '::' = step_read (mode_after (mode_of y) '::') [] s y
survey_token s y i NameTest = step_read (mode_after (mode_of y) NameTest) (name_faults s i) s y
survey_token s y i NodeType = step_read (mode_after (mode_of y) NodeType) [] s y
survey_token s y i 'processing_instruction' =
    name_read (mode_after (mode_of y) 'processing_instruction') (place s i) (step_read (mode_of y) [] s y)
survey_token s y i FunctionName = name_read (mode_after (mode_of y) FunctionName) (position function_names (word_of s i)) y
survey_token s y i AxisName = step_read (mode_after (mode_of y) AxisName) (cond (holds_axis (word_of s i)) [] (record { number = 26; place = place s i } ∷ [])) s y
survey_token s y i Literal = string_read (mode_after (mode_of y) Literal) i s y
survey_token s y i Number = operand_read (mode_after (mode_of y) Number) Numeral (digit_faults s i) s y
survey_token s y i VariableReference = operand_read (mode_after (mode_of y) VariableReference) Unheld (record { number = 26; place = place s i } ∷ []) s y
survey_token s y i '/' = slash_read (mode_after (mode_of y) '/') s y
survey_token s y i '//' = slash_read (mode_after (mode_of y) '//') s y
survey_token s y i '|' = bar_read (mode_after (mode_of y) '|') (place s (suc i)) s y
survey_token s y i '+' = operator_read (mode_after (mode_of y) '+') 5 (place s (suc i)) s y
survey_token s y i '-' = minus_read (mode_after (mode_of y) '-') (place s (suc i)) s y
survey_token s y i '=' = operator_read (mode_after (mode_of y) '=') 3 (place s (suc i)) s y
survey_token s y i '!=' = operator_read (mode_after (mode_of y) '!=') 3 (place s (suc i)) s y
survey_token s y i '<' = operator_read (mode_after (mode_of y) '<') 4 (place s (suc i)) s y
survey_token s y i '<=' = operator_read (mode_after (mode_of y) '<=') 4 (place s (suc i)) s y
survey_token s y i '>' = operator_read (mode_after (mode_of y) '>') 4 (place s (suc i)) s y
survey_token s y i '>=' = operator_read (mode_after (mode_of y) '>=') 4 (place s (suc i)) s y
survey_token s y i MultiplyOperator = operator_read (mode_after (mode_of y) MultiplyOperator) 6 (place s (suc i)) s y
survey_token s y i 'and' = operator_read (mode_after (mode_of y) 'and') 2 (place s (suc i)) s y
survey_token s y i 'or' = operator_read (mode_after (mode_of y) 'or') 1 (place s (suc i)) s y
survey_token s y i 'div' = operator_read (mode_after (mode_of y) 'div') 6 (place s (suc i)) s y
survey_token s y i 'mod' = operator_read (mode_after (mode_of y) 'mod') 6 (place s (suc i)) s y
survey_token s y i unknown = y

-- nothing was read
abbrev pub unread : Source → Survey
unread s = survey operand (fresh 0 (place s 0)) [] Unheld 0 0

-- all was read: the most urgent fault
unfoldable pub finished : Source → Survey → ℕ
finished s (survey m l ls v n found) = end_faults (noted s) l v found

unfoldable pub surveyed : Source → List Token → ℕ
surveyed s ts = finished s (read_all (survey_token s) (unread s) 0 ts)
