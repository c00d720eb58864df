-- The tokens that lead a beginning to an end, as bytes: each with a space behind it, and read as the class that was meant.
-- Assumes nothing.
use Rattle.text.specs.declared.Run.TheVariants.{Spaces}
use Prim.Native.Nat.{ℕ, zero, suc, ◌+◌, ◌<◌}
use mathlib.Core.Path.{◌≡◌, refl, ◌∙◌, ap₂, subst}
use mathlib.Core.Bool.{Bool, true, false, ◌||◌, not, cond}
use mathlib.Core.List.{List, [], ◌∷◌, ◌++◌, map}
use lib.Dec.{T, eqb}
use lib.ListN.{length, drop, length-append}
use native.Mathlib.Omega.{arith}
use borrow.Author.Tests.{lt-ltb}
use Rattle.names.specs.Names.{position, same}
use Rattle.text.specs.Grammar.{Token, opening, closing, ']', '::', NameTest, unknown}
use Rattle.text.specs.Tokens.{code, class_of, many, run_end, class_among, pairs, pair_class, marks, mark_class, token, opens_at, punctuation, number_at, quote_at, letter_at, variable_at, lexeme, operator_due, class, tokens_from}
use Rattle.text.specs.Machine.{Mode, operand, argument, union, root, step, axis, test, type, empty, instruction, target, call, whole, part, Bracket, group, arguments, predicate, number, has}
use Rattle.text.proofs.Viable.{finish, close, shut}
use Rattle.text.proofs.Shifts.{colons_at, Meets, tokens_meet}

-- a token of a class where an operator is due or not, and its bytes
pub data Sign : Bool → Token → List ℕ → Type 0 where
  star : Sign false NameTest (42 ∷ [])
  colons : {due : Bool} → Sign due '::' (58 ∷ 58 ∷ [])
  opens : {due : Bool} → Sign due opening (40 ∷ [])
  closes : {due : Bool} → Sign due closing (41 ∷ [])
  square : {due : Bool} → Sign due ']' (93 ∷ [])

-- tokens and their bytes, a space behind each
pub data Spelled : Bool → List Token → List ℕ → Type 0 where
  none : {due : Bool} → Spelled due [] []
  more :
      {due : Bool} {t : Token} {b : List ℕ} {ts : List Token} {v : List ℕ} → Sign due t b
      → Spelled (operator_due (code t)) ts v → Spelled due (t ∷ ts) (b ++ (32 ∷ v))

-- ---- they are read so

-- behind a space, such a token is read whatever follows
record Reads (due : Bool) (t : Token) (b v : List ℕ) : Type 0 where
  begins : run_end Spaces (32 ∷ (b ++ v)) 0 ≡ 1
  is : lexeme (32 ∷ (b ++ v)) 1 due ≡ token (code t) (1 + length b)
  known : eqb (code t) (code unknown) ≡ false
  classed : class_of (code t) ≡ t
  behind : drop (1 + length b) (32 ∷ (b ++ v)) ≡ v

sign_reads : {due : Bool} {t : Token} {b : List ℕ} → Sign due t b → (v : List ℕ) → Reads due t b v
unfolding run_end many lexeme number_at quote_at letter_at variable_at punctuation pair_class mark_class class_among pairs marks position same code
sign_reads star v = record { begins = refl; is = refl; known = refl; classed = refl; behind = refl }
sign_reads colons v = record { begins = refl; is = refl; known = refl; classed = refl; behind = refl }
sign_reads opens v = record { begins = refl; is = refl; known = refl; classed = refl; behind = refl }
sign_reads closes v = record { begins = refl; is = refl; known = refl; classed = refl; behind = refl }
sign_reads square v = record { begins = refl; is = refl; known = refl; classed = refl; behind = refl }

sign_long : {due : Bool} {t : Token} {b : List ℕ} → Sign due t b → 0 < length b
sign_long star = omega arith
sign_long colons = omega arith
sign_long opens = omega arith
sign_long closes = omega arith
sign_long square = omega arith

pub spelled_reads :
    {due : Bool} {ts : List Token} {v : List ℕ} → Spelled due ts v → (fuel : ℕ) → length v < fuel
    → map class (tokens_from fuel (32 ∷ v) 0 due) ≡ ts
unfolding tokens_from run_end many
spelled_reads s zero h = absurd (omega arith)
spelled_reads none (suc fuel) h = refl
spelled_reads {due} (more {t = t} {b = b} {v = v} s r) (suc fuel) h =
    let k = sign_reads s (32 ∷ v) in
    let n = length-append b (32 ∷ v) in
    let apart : 1 + length b ≡ 1 + length b + 0 = omega arith in
    let m : Meets (32 ∷ (b ++ (32 ∷ v))) (32 ∷ v) (1 + length b) (1 + length b) 0 = record { apart = apart; alike = k.behind } in
    rw (k.begins, lt-ltb 1 (length (32 ∷ (b ++ (32 ∷ v)))) (omega arith), k.is, k.known)
    (ap₂ ◌∷◌ k.classed (tokens_meet (omega arith) fuel m (operator_due (code t)) ∙ spelled_reads {due = operator_due (code t)} r fuel (omega (arith, sign_long s))))

-- ---- what leads a mode to an end

-- the modes that a token behind which an operator is due leads to
abbrev pub due_mode : Mode → Bool
due_mode m = has (axis ∷ type ∷ empty ∷ instruction ∷ call ∷ whole ∷ part ∷ []) m

-- some bytes for these tokens
abbrev Bytes : Bool → List Token → Type 0
Bytes due ts = (v : List ℕ) × Spelled due ts v

put : {due : Bool} {t : Token} {b : List ℕ} {ts : List Token} → Sign due t b → Bytes (operator_due (code t)) ts → Bytes due (t ∷ ts)
put s (v, r) = (_, more s r)

shut_bytes : (due : Bool) (around : List Bracket) → Bytes due (shut around)
unfolding shut close
shut_bytes due [] = ([], none)
shut_bytes due (group ∷ around) = put closes (shut_bytes (operator_due (code closing)) around)
shut_bytes due (arguments ∷ around) = put closes (shut_bytes (operator_due (code closing)) around)
shut_bytes due (predicate ∷ around) = put square (shut_bytes (operator_due (code ']')) around)

pub completion_bytes :
    (due : Bool) (m : Mode) (around : List Bracket) → T (not due || due_mode m)
    → (v : List ℕ) × Spelled due (finish m ++ shut around) v
unfolding finish has number operator_due code
completion_bytes true operand around h = absurd h
completion_bytes false operand around h = put star (shut_bytes _ around)
completion_bytes true argument around h = absurd h
completion_bytes false argument around h = put star (shut_bytes _ around)
completion_bytes true union around h = absurd h
completion_bytes false union around h = put star (shut_bytes _ around)
completion_bytes due root around h = shut_bytes due around
completion_bytes true step around h = absurd h
completion_bytes false step around h = put star (shut_bytes _ around)
completion_bytes due axis around h = put colons (put star (shut_bytes _ around))
completion_bytes true test around h = absurd h
completion_bytes false test around h = put star (shut_bytes _ around)
completion_bytes due type around h = put opens (put closes (shut_bytes _ around))
completion_bytes due empty around h = put closes (shut_bytes _ around)
completion_bytes due instruction around h = put opens (put closes (shut_bytes _ around))
completion_bytes due target around h = put closes (shut_bytes _ around)
completion_bytes due call around h = put opens (put closes (shut_bytes _ around))
completion_bytes due whole around h = shut_bytes due around
completion_bytes due part around h = shut_bytes due around

-- ---- what they begin with

-- `(` is 1, `::` is 2, all else 0
abbrev pub look : Mode → ℕ
look m = cond (has (type ∷ instruction ∷ call ∷ []) m) 1 (cond (has (axis ∷ []) m) 2 0)

first_look : List Token → ℕ
first_look [] = 0
first_look (t ∷ ts) = cond (eqb (code t) (code opening)) 1 (cond (eqb (code t) (code '::')) 2 0)

shut_look : (around : List Bracket) → first_look (shut around) ≡ 0
unfolding first_look shut close code
shut_look [] = refl
shut_look (group ∷ around) = refl
shut_look (arguments ∷ around) = refl
shut_look (predicate ∷ around) = refl

finish_look : (m : Mode) (around : List Bracket) → first_look (finish m ++ shut around) ≡ look m
unfolding first_look finish code has number
finish_look operand around = refl
finish_look argument around = refl
finish_look union around = refl
finish_look root around = shut_look around
finish_look step around = refl
finish_look axis around = refl
finish_look test around = refl
finish_look type around = refl
finish_look empty around = refl
finish_look instruction around = refl
finish_look target around = refl
finish_look call around = refl
finish_look whole around = shut_look around
finish_look part around = shut_look around

-- what stands behind the spaces at the front
abbrev pub Ahead : List ℕ → ℕ → Type 0
Ahead v k = (opens_at v (run_end Spaces v 0) ≡ eqb k 1) × (colons_at v (run_end Spaces v 0) ≡ eqb k 2)

spelled_ahead : {due : Bool} {ts : List Token} {v : List ℕ} → Spelled due ts v → Ahead (32 ∷ v) (first_look ts)
unfolding first_look opens_at run_end many code
spelled_ahead none = (refl, refl)
spelled_ahead (more star r) = (refl, refl)
spelled_ahead (more colons r) = (refl, refl)
spelled_ahead (more opens r) = (refl, refl)
spelled_ahead (more closes r) = (refl, refl)
spelled_ahead (more square r) = (refl, refl)

pub completion_ahead :
    {due : Bool} {v : List ℕ} (m : Mode) (around : List Bracket) → Spelled due (finish m ++ shut around) v
    → Ahead (32 ∷ v) (look m)
completion_ahead {v = v} m around s = subst (Ahead (32 ∷ v)) (finish_look m around) (spelled_ahead s)
