-- What a token does to a level, to the sort of the operand in progress and to the fault that was found, by the numbers of the token's class
-- and of the mode. It is the survey (crates/text/specs/Survey.antt) taken apart, as the code has it.
-- Assumes nothing: these are definitions.
use Rattle.std.specs.Prelude.{ℕ, ◌-◌, Bool, true, false, ◌&&◌, ◌||◌, not, cond, List, [], ◌∷◌, length, get_or, eqb, ltb, leb, Option, None, Some}
use Rattle.levels.specs.declared.Group.{Group}
use Rattle.levels.specs.declared.Group.TheVariants.{Other, StepToken, Operand, Slash, Bar, Operator, Quoted, Round, Square}
use Rattle.levels.specs.declared.Read.{Read}
use Rattle.text.specs.declared.Fault.{Fault}
use Rattle.text.specs.declared.Level.{Level}
use Rattle.text.specs.declared.Sort.{Sort}
use Rattle.text.specs.declared.Sort.TheVariants.{Numeral, Nodes, Unheld}
use Rattle.names.specs.Names.{position, is_named}
use Rattle.text.specs.Limited.{Source, is_star, has_prefix, word_at, function_names, holds_axis, most_digits, digits, number_at}
use Rattle.text.specs.Survey.{urgency, path_begun, other_begun, joined_on, union_at, operated, operator_faults, sign_faults}

-- ---- modes by their numbers

-- an operand is due; a sign may come; a path may go on
abbrev pub is_due : ℕ → Bool
is_due m = ltb m 3

abbrev pub takes_sign : ℕ → Bool
takes_sign m = ltb m 2

abbrev pub goes_on : ℕ → Bool
goes_on m = leb 12 m

-- ---- classes in groups

-- what each class is grouped with, at its number
abbrev pub groups : List Group
groups =
    Round ∷ Other ∷ Square ∷ Other ∷ StepToken ∷ StepToken ∷ StepToken ∷ Other ∷ StepToken ∷ StepToken ∷ StepToken ∷ StepToken ∷ Other ∷ StepToken
    ∷ Quoted ∷ Operand ∷ Operand ∷ Slash ∷ Slash ∷ Bar ∷ Operator ∷ Operator ∷ Operator ∷ Operator ∷ Operator ∷ Operator ∷ Operator ∷ Operator ∷ Operator
    ∷ Operator ∷ Operator ∷ Operator ∷ Operator ∷ Other ∷ []

unfoldable pub group_of : ℕ → Group
group_of k = get_or groups k Other

-- how strongly an operator binds, from `+` on
abbrev pub tightnesses : List ℕ
tightnesses = 5 ∷ 5 ∷ 3 ∷ 3 ∷ 4 ∷ 4 ∷ 4 ∷ 4 ∷ 6 ∷ 2 ∷ 1 ∷ 6 ∷ 6 ∷ []

-- how strongly the operator of class k binds; 0 for what is none
unfoldable pub tightness_of : ℕ → ℕ
tightness_of k = cond (ltb k 20) 0 (get_or tightnesses (k - 20) 0)

-- a token of class k in the mode m, as the code has it
abbrev pub read_in : ℕ → ℕ → Read
read_in k m = record { group = group_of k; kind = k; tight = tightness_of k; mode = m }

-- ---- levels

-- behind an operator other than `or` and `and`
abbrev pub ranked : ℕ → ℕ → ℕ → Level → Level
ranked rank g p l = record { kind = l.kind; rank = rank; joined = false; inpath = false; andor = l.andor; e = l.e; g = g; m = p }

-- a token of a step; `/` and `//`; `(`, but for that of a node type; `[`; a string
unfoldable pub stepped : ℕ → Level → Level
stepped m l = cond (is_due m) (path_begun l) l

unfoldable pub slashed : ℕ → Level → Level
slashed m l = cond (is_due m) (path_begun l) (cond (goes_on m && not l.inpath) (path_begun (joined_on l)) l)

unfoldable pub grouped : ℕ → Level → Level
grouped m l = cond (is_due m || eqb m 11) (other_begun l) l

unfoldable pub bracketed : Level → Level
bracketed l = cond l.inpath l (joined_on l)

unfoldable pub quoted : ℕ → Level → Level
quoted m l = cond (eqb m 10) l (other_begun l)

-- the level behind a token of a group, with an operator's tightness t; what follows it begins at p
unfoldable pub level_in : Group → ℕ → ℕ → ℕ → Level → Level
level_in Other t m p l = l
level_in StepToken t m p l = stepped m l
level_in Operand t m p l = other_begun l
level_in Slash t m p l = slashed m l
level_in Bar t m p l = union_at p l
level_in Operator t m p l = operated t p l
level_in Quoted t m p l = quoted m l
level_in Round t m p l = grouped m l
level_in Square t m p l = bracketed l

-- ---- the sort of the operand in progress, behind a token of class k

unfoldable pub sort_in : Group → ℕ → ℕ → Sort → Sort
sort_in Other k m v = v
sort_in StepToken k m v = cond (is_due m) Nodes v
sort_in Operand k m v = cond (eqb k 15) Numeral Unheld
sort_in Slash k m v = cond (is_due m) Nodes v
sort_in Bar k m v = v
sort_in Operator k m v = v
sort_in Quoted k m v = cond (not (eqb m 10)) Unheld v
sort_in Round k m v = v
sort_in Square k m v = v

-- ---- faults

-- a fault with this number at p, unless a fault is there that is lower or as low
unfoldable pub sooner : ℕ → ℕ → Option Fault → Option Fault
sooner n p None = Some (record { number = n; place = p })
sooner n p (Some f) = cond (ltb p f.place || (eqb p f.place && ltb n f.number)) (Some (record { number = n; place = p })) (Some f)

-- 26 at p, if the test holds
unfoldable pub lowered : Bool → ℕ → Option Fault → Option Fault
lowered test p f = cond test (sooner 26 p f) f

-- a token's own fault, if it has one
unfoldable pub with_own : Option ℕ → ℕ → Option Fault → Option Fault
with_own None p f = f
with_own (Some own) p f = sooner own p f

-- the number of a token's own fault: an unknown name or a prefix, an axis that is not held, too many digits, a variable
unfoldable pub own_of : Source → ℕ → ℕ → Option ℕ
own_of s k b =
    cond (eqb k 9)
    (cond (is_star s.text b) None (cond (has_prefix s.text b) (Some 26) (cond (is_named s.names (word_at s.text b)) None (Some 24))))
    (cond (eqb k 13) (cond (holds_axis (word_at s.text b)) None (Some 26))
    (cond (eqb k 15) (cond (ltb most_digits (length (digits (number_at s.text b)))) (Some 25) None)
    (cond (eqb k 16) (Some 26) None)))

-- what the last name before a `(` was, behind a token of class k that begins at b: a processing-instruction's byte, a function's number
unfoldable pub name_in : Source → ℕ → ℕ → ℕ → ℕ
name_in s k b n = cond (eqb k 11) b (cond (eqb k 12) (position function_names (word_at s.text b)) n)

-- the fault behind a token of a group: its class is k, it begins at b and has this fault of its own, n is as in name_in before it
unfoldable pub fault_in : Group → ℕ → ℕ → ℕ → Level → Sort → ℕ → ℕ → Option ℕ → Option Fault → Option Fault
fault_in Other k t m l v n b own f = f
fault_in StepToken k t m l v n b own f = with_own own b f
fault_in Operand k t m l v n b own f = with_own own b f
fault_in Slash k t m l v n b own f = lowered (not (is_due m) && (goes_on m && not l.inpath)) l.m f
fault_in Bar k t m l v n b own f = lowered (not l.joined) l.m f
fault_in Operator k t m l v n b own f = cond (eqb k 21 && takes_sign m) (sign_faults lowered l f) (operator_faults lowered t l v f)
fault_in Quoted k t m l v n b own f = sooner 26 (cond (eqb m 10) n b) f
fault_in Round k t m l v n b own f = f
fault_in Square k t m l v n b own f = lowered (not l.inpath) l.m f

-- how urgent the fault is that was found
unfoldable pub urgency_of : Source → Option Fault → ℕ
urgency_of s None = 0
urgency_of s (Some f) = urgency s f.number f.place

-- no fault, or a number from 24 to 26 and a byte of the text
unfoldable pub sound : Source → Option Fault → Bool
sound s None = true
sound s (Some f) = leb 24 f.number && (leb f.number 26 && leb f.place (length s.text))
