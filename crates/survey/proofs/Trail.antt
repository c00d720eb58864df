-- The trail of levels that a reading leaves: every level of it can be held by the window, and where no token is refused its modes and its open
-- brackets are those of the grammar's machine.
-- Assumes nothing.
use Prim.Native.Nat.{ℕ, zero, suc, ◌+◌, ◌-◌, ◌*◌, ◌/◌, ◌%◌, ◌≤◌, ◌<◌}
use mathlib.Core.Path.{◌≡◌, refl, sym, ◌∙◌, ap, subst, subst⁻¹}
use mathlib.Core.Bool.{Bool, true, false, ◌&&◌, ◌||◌, not, cond, true≢false}
use mathlib.Core.List.{List, [], ◌∷◌}
use native.Mathlib.Omega.{arith}
use lib.Dec.{T, eqb, leb, eqb→eq, leb→le}
use borrow.Author.Tests.{eq-eqb, ne_eqb, lt-ltb, le-ltb}
use Rattle.names.specs.Names.{position, same}
use Rattle.text.specs.Limited.{word_at, function_names}
use lib.ListN.{length, get_or, take}
use lib.Seq.{take-suc}
use mathlib.Core.Logic.{⊎_elim}
use Rattle.meaning.proofs.Bools.{and_l, and_r, lt_or_ge}
use Rattle.levels.specs.declared.Group.{Group}
use Rattle.levels.specs.declared.Group.TheVariants.{Other, StepToken, Operand, Slash, Bar, Operator, Quoted, Round, Square}
use Rattle.text.specs.declared.Level.{Level}
use Rattle.text.specs.Grammar.{Token, opening, closing, '[', ']', dot, dots, at, comma, '::', NameTest, NodeType, 'processing_instruction', FunctionName, AxisName, Literal, Number, VariableReference, '/', '//', '|', '+', '-', '=', '!=', '<', '<=', '>', '>=', MultiplyOperator, 'and', 'or', 'div', 'mod', unknown}
use Rattle.text.specs.Reading.{byte_of}
use Rattle.text.proofs.Cutting.{place_inside, byte_place, byte_end}
use Rattle.text.specs.Tokens.{code, classes_of, tokens}
use Rattle.text.specs.Machine.{Mode, operand, argument, union, root, step, axis, test, type, empty, instruction, target, call, whole, part, number, Bracket, group, arguments, predicate, Act, refuse, go, enter, leave_round, leave_square, next_argument, rows, has, pick, State, stuck, reading, inner, done, next, run, start, is_stuck}
use Rattle.text.specs.Survey.{fresh, path_begun, other_begun, joined_on, union_at, operated}
use Rattle.text.proofs.Lexemes.{class_of_code}
use Rattle.text.proofs.Machine.{run_append}
use Rattle.modes.specs.Acts.{modes, opened, act_number, act_of}
use Rattle.levels.specs.Levels.{group_of, tightness_of, is_due, goes_on, level_in, stepped, slashed, grouped, bracketed, quoted}
use Rattle.survey.specs.Standing.{Trail, trail, opened_kind, name_at, outer, others, trailed, mode_in, kind_at, trail_of, Goes, Small, Smalls, none, one, Left}

-- ---- kinds of levels

abbrev kinds : List Level → List ℕ
kinds [] = []
kinds (l ∷ ls) = l.kind ∷ kinds ls

-- what a level is open for
abbrev pub bracket_of : ℕ → Bracket
bracket_of kind = cond (eqb kind 1) group (cond (eqb kind 2) predicate arguments)

-- the brackets of the levels: the outermost is the whole text, and has none
pub data Opened : List Bracket → Level → List Level → Type 0 where
  whole_text : {l : Level} → l.kind ≡ 0 → Opened [] l []
  bracket : {b : Bracket} {bs : List Bracket} {l o : Level} {ls : List Level} → 0 < l.kind → b ≡ bracket_of l.kind → Opened bs o ls → Opened (b ∷ bs) l (o ∷ ls)

-- ---- tokens within a level

choose : (P : Level → Type 0) (b : Bool) {x y : Level} → P x → P y → P (cond b x y)
choose P true h k = h
choose P false h k = k

-- what every change of a level keeps, its tokens keep
level_in_lem :
    (P : Level → Type 0) (g : Group) (t q p : ℕ) (l : Level) → P l → P (path_begun l) → P (path_begun (joined_on l)) → P (joined_on l)
    → P (other_begun l) → P (union_at p l) → P (operated t p l) → P (level_in g t q p l)
unfolding level_in stepped slashed grouped bracketed quoted
level_in_lem P Other t q p l h hp hpj hj ho hu hk = h
level_in_lem P StepToken t q p l h hp hpj hj ho hu hk = choose P (is_due q) hp h
level_in_lem P Operand t q p l h hp hpj hj ho hu hk = ho
level_in_lem P Slash t q p l h hp hpj hj ho hu hk = choose P (is_due q) hp (choose P (goes_on q && not l.inpath) hpj h)
level_in_lem P Bar t q p l h hp hpj hj ho hu hk = hu
level_in_lem P Operator t q p l h hp hpj hj ho hu hk = hk
level_in_lem P Quoted t q p l h hp hpj hj ho hu hk = choose P (eqb q 10) h ho
level_in_lem P Round t q p l h hp hpj hj ho hu hk = choose P (is_due q || eqb q 11) ho h
level_in_lem P Square t q p l h hp hpj hj ho hu hk = choose P l.inpath h hj

kind_operated : (t p : ℕ) (l : Level) → (operated t p l).kind ≡ l.kind
unfolding operated
kind_operated t p l =
    choose P (leb t 2) refl (choose P (eqb t 3) refl (choose P (eqb t 4) refl refl))
  where
    P : Level → Type 0
    P o = o.kind ≡ l.kind

pub kind_kept : (g : Group) (t q p : ℕ) (l : Level) → (level_in g t q p l).kind ≡ l.kind
kind_kept g t q p l = level_in_lem (λ o. o.kind ≡ l.kind) g t q p l refl refl refl refl refl refl (kind_operated t p l)

small_operated : (n t p : ℕ) (l : Level) → p ≤ n → Small n l → Small n (operated t p l)
unfolding operated
small_operated n t p l b h =
    choose (Small n) (leb t 2) (record { kind = h.kind; rank = omega arith; e = b; g = b; m = b })
    (choose (Small n) (eqb t 3) (record { kind = h.kind; rank = omega arith; e = h.e; g = b; m = b })
    (choose (Small n) (eqb t 4) (record { kind = h.kind; rank = omega arith; e = h.e; g = h.g; m = b })
    (record { kind = h.kind; rank = omega (arith, h.rank); e = h.e; g = h.g; m = b })))

pub small_kept : (n : ℕ) (g : Group) (t q p : ℕ) (l : Level) → p ≤ n → Small n l → Small n (level_in g t q p l)
small_kept n g t q p l b h =
    level_in_lem (Small n) g t q p l h
    (record { kind = h.kind; rank = h.rank; e = h.e; g = h.g; m = h.m })
    (record { kind = h.kind; rank = h.rank; e = h.e; g = h.g; m = h.m })
    (record { kind = h.kind; rank = h.rank; e = h.e; g = h.g; m = h.m })
    (record { kind = h.kind; rank = h.rank; e = h.e; g = h.g; m = h.m })
    (record { kind = h.kind; rank = h.rank; e = h.e; g = h.g; m = b })
    (small_operated n t p l b h)

-- ---- facts of the table

abbrev pub implies : Bool → Bool → Bool
implies a b = not a || b

-- a call's bracket opens behind a function's name, which alone leads there; so for a processing-instruction and its bracket
fact : ℕ → ℕ → ℕ → Bool
fact k q a = leb a 20 && (implies (eqb a 16) (eqb q 11) && (implies (eqb a 12) (eqb k 12) && (implies (eqb a 10) (eqb k 11) && implies (eqb a 11) (eqb q 9 && eqb k 0))))

unfoldable pub all : (ℕ → Bool) → ℕ → Bool
all f zero = true
all f (suc n) = f n && all f n

all_below : (f : ℕ → Bool) (n k : ℕ) → T (all f n) → k < n → T (f k)
unfolding all
all_below f zero k h b = absurd (omega arith)
all_below f (suc n) k h b =
    ⊎_elim
    (λ (l : k < n). all_below f n k (and_r (f n) (all f n) h) l)
    (λ (l : n ≤ k). let e : k ≡ n = omega arith in rw e (and_l (f n) (all f n) h))
    (lt_or_ge k n)

-- what a test says of all entries of the table it says of each
pub table_holds :
    (f : ℕ → ℕ → ℕ → Bool) → T (all (λ i. f (i / 14) (i % 14) (act_of (i / 14) (i % 14))) 476) → (k q : ℕ) → k < 34 → q < 14 → T (f k q (act_of k q))
table_holds f h k q a b =
    let row : (k * 14 + q) / 14 ≡ k = omega arith in
    let column : (k * 14 + q) % 14 ≡ q = omega arith in
    rw (row, column) at (all_below (λ i. f (i / 14) (i % 14) (act_of (i / 14) (i % 14))) 476 (k * 14 + q) h (omega arith))

every_fact : T (all (λ i. fact (i / 14) (i % 14) (act_of (i / 14) (i % 14))) 476)
unfolding all fact act_of act_number opened number rows has pick
every_fact = tt

table_fact : (k q : ℕ) → k < 34 → q < 14 → T (fact k q (act_of k q))
table_fact k q a b = table_holds fact every_fact k q a b

-- ---- every level of a trail is small

LeftBy : ℕ → Trail → Type 0
LeftBy n (trail q l ls name) = Left n q l ls name

fresh_small : (n kind p : ℕ) → kind < 10 → p ≤ n → Small n (fresh kind p)
fresh_small n kind p k b = record { kind = k; rank = omega arith; e = b; g = b; m = b }

outer_small : (n : ℕ) {ls : List Level} → Smalls n ls → Small n (outer ls)
outer_small n none = fresh_small n 0 0 (omega arith) (omega arith)
outer_small n (one h hs) = h

others_small : (n : ℕ) {ls : List Level} → Smalls n ls → Smalls n (others ls)
others_small n none = none
others_small n (one h hs) = hs

position_fits : (names : List (List ℕ)) (w : List ℕ) → position names w ≤ length names
unfolding position
position_fits [] w = omega arith
position_fits (v ∷ vs) w = by_test (same v w) (position_fits vs w)
  where
    by_test : (b : Bool) → position vs w ≤ length vs → cond b 0 (suc (position vs w)) ≤ suc (length vs)
    by_test true h = omega arith
    by_test false h = omega arith

-- what a fact of the table says
pub record Fact (k q a : ℕ) : Type 0 where
  pub most : a ≤ 20
  pub call_mode : a ≡ 16 → q ≡ 11
  pub name_class_lem : a ≡ 12 → k ≡ 12
  pub instruction_class : a ≡ 10 → k ≡ 11
  pub target_mode : a ≡ 11 → q ≡ 9
  pub target_class : a ≡ 11 → k ≡ 0

pub implied : (a b : Bool) → T (implies a b) → a ≡ true → T b
implied true b h e = h
implied false b h e = absurd (true≢false (sym e))

told : (k q a : ℕ) → T (fact k q a) → Fact k q a
unfolding fact
told k q a h =
    let first : Bool = implies (eqb a 16) (eqb q 11) in
    let second : Bool = implies (eqb a 12) (eqb k 12) in
    let third : Bool = implies (eqb a 10) (eqb k 11) in
    let fourth : Bool = implies (eqb a 11) (eqb q 9 && eqb k 0) in
    let h1 : T (first && (second && (third && fourth))) = and_r (leb a 20) (first && (second && (third && fourth))) h in
    let h2 : T (second && (third && fourth)) = and_r first (second && (third && fourth)) h1 in
    let h3 : T (third && fourth) = and_r second (third && fourth) h2 in
    let both : (a ≡ 11) → T (eqb q 9 && eqb k 0) = λ e. implied (eqb a 11) (eqb q 9 && eqb k 0) (and_r third fourth h3) (eq-eqb a 11 e) in
    record {
      most = leb→le a 20 (and_l (leb a 20) (first && (second && (third && fourth))) h);
      call_mode = λ e. eqb→eq q 11 (implied (eqb a 16) (eqb q 11) (and_l first (second && (third && fourth)) h1) (eq-eqb a 16 e));
      name_class_lem = λ e. eqb→eq k 12 (implied (eqb a 12) (eqb k 12) (and_l second (third && fourth) h2) (eq-eqb a 12 e));
      instruction_class = λ e. eqb→eq k 11 (implied (eqb a 10) (eqb k 11) (and_l third fourth h3) (eq-eqb a 10 e));
      target_mode = λ e. eqb→eq q 9 (and_l (eqb q 9) (eqb k 0) (both e));
      target_class = λ e. eqb→eq k 0 (and_r (eqb q 9) (eqb k 0) (both e));
    }

pub table_says : (k q : ℕ) → k < 34 → q < 14 → Fact k q (act_of k q)
table_says k q a b = told k q (act_of k q) (table_fact k q a b)

name_of_function : (text : List ℕ) (k b n : ℕ) → k ≡ 12 → name_at text k b n < 6
unfolding name_at
name_of_function text k b n e = rw e (let h = position_fits function_names (word_at text b) in omega (arith, h))

name_of_instruction : (text : List ℕ) (k b n : ℕ) → k ≡ 11 → name_at text k b n ≡ b
unfolding name_at
name_of_instruction text k b n e = rw e

name_kept : (text : List ℕ) (k b n : ℕ) → k ≡ 0 → name_at text k b n ≡ n
unfolding name_at
name_kept text k b n e = rw e

-- ---- a trail behind a token, by what the token does

module _ (text : List ℕ) (k a b p q : ℕ) (l : Level) (ls : List Level) (n : ℕ) where
  pub trailed_goes :
      a < 15 → trailed text k a b p (trail q l ls n) ≡ trail (a - 1) (level_in (group_of k) (tightness_of k) q p l) ls (name_at text k b n)
  unfolding trailed
  trailed_goes h = rw (lt-ltb a 15 h)

  pub trailed_opens :
      15 ≤ a → a < 18
      → trailed text k a b p (trail q l ls n)
      ≡ trail (cond (eqb a 16) 1 0) (fresh (opened_kind a n) p) (level_in (group_of k) (tightness_of k) q p l ∷ ls) n
  unfolding trailed
  trailed_opens h i = rw (le-ltb a 15 h, lt-ltb a 18 i)

  pub trailed_parts : a ≡ 20 → trailed text k a b p (trail q l ls n) ≡ trail 0 (fresh 9 p) ls n
  unfolding trailed
  trailed_parts e = rw e

  pub trailed_closes : 18 ≤ a → a < 20 → trailed text k a b p (trail q l ls n) ≡ trail 13 (outer ls) (others ls) n
  unfolding trailed
  trailed_closes h i = rw (le-ltb a 15 (omega arith), le-ltb a 18 h, ne_eqb a 20 (λ e. omega arith))

-- one token more
left_step :
    (text : List ℕ) (n k q b p : ℕ) (l : Level) (ls : List Level) (name : ℕ) → k < 34 → b ≤ n → p ≤ n → Left n q l ls name
    → LeftBy n (trailed text k (act_of k q) b p (trail q l ls name))
unfolding LeftBy
left_step text n k q b p l ls name hk hb hp h = decide (act_of k q) (table_says k q hk h.mode)
  where
    behind : Level
    behind = level_in (group_of k) (tightness_of k) q p l

    goes_on : (a : ℕ) → Fact k q a → a < 15 → Left n (a - 1) behind ls (name_at text k b name)
    goes_on a f c = record {
      mode = omega arith;
      small = small_kept n (group_of k) (tightness_of k) q p l hp h.small;
      smalls = h.smalls;
      function = λ e. name_of_function text k b name (f.name_class_lem (omega arith));
      byte = λ e. let z = name_of_instruction text k b name (f.instruction_class (omega arith)) in omega (arith, z, hb);
      byte_behind = λ e. let z = name_kept text k b name (f.target_class (omega arith)) in omega (arith, z, h.byte (f.target_mode (omega arith)));
    }

    kind_opened : (a : ℕ) → Fact k q a → opened_kind a name < 10
    kind_opened a f = by_test (eqb a 15) (eqb a 16) refl
      where
        by_test : (x y : Bool) → eqb a 16 ≡ y → cond x 1 (cond y (4 + name) 2) < 10
        by_test true y e = omega arith
        by_test false false e = omega arith
        by_test false true e = let c = h.function (f.call_mode (eqb→eq a 16 (rw e tt))) in omega (arith, c)

    mode_opened : (x : Bool) → cond x 1 0 < 2
    mode_opened true = omega arith
    mode_opened false = omega arith

    opens : (a : ℕ) → Fact k q a → Left n (cond (eqb a 16) 1 0) (fresh (opened_kind a name) p) (behind ∷ ls) name
    opens a f =
        let low : cond (eqb a 16) 1 0 < 2 = mode_opened (eqb a 16) in
        record {
          mode = omega (arith, low);
          small = fresh_small n (opened_kind a name) p (kind_opened a f) hp;
          smalls = one (small_kept n (group_of k) (tightness_of k) q p l hp h.small) h.smalls;
          function = λ e. absurd (omega (arith, low, e));
          byte = λ e. absurd (omega (arith, low, e));
          byte_behind = λ e. absurd (omega (arith, low, e));
        }

    parts : Left n 0 (fresh 9 p) ls name
    parts = record {
      mode = omega arith;
      small = fresh_small n 9 p (omega arith) hp;
      smalls = h.smalls;
      function = λ e. absurd (omega arith);
      byte = λ e. absurd (omega arith);
      byte_behind = λ e. absurd (omega arith);
    }

    closes : Left n 13 (outer ls) (others ls) name
    closes = record {
      mode = omega arith;
      small = outer_small n h.smalls;
      smalls = others_small n h.smalls;
      function = λ e. absurd (omega arith);
      byte = λ e. absurd (omega arith);
      byte_behind = λ e. absurd (omega arith);
    }

    decide : (a : ℕ) → Fact k q a → LeftBy n (trailed text k a b p (trail q l ls name))
    decide a f =
        ⊎_elim
        (λ (c : a < 15). subst⁻¹ (LeftBy n) (trailed_goes text k a b p q l ls name c) (goes_on a f c))
        (λ (c : 15 ≤ a).
        ⊎_elim
        (λ (d : a < 18). subst⁻¹ (LeftBy n) (trailed_opens text k a b p q l ls name c d) (opens a f))
        (λ (d : 18 ≤ a).
        ⊎_elim
        (λ (e : a < 20). subst⁻¹ (LeftBy n) (trailed_closes text k a b p q l ls name d e) closes)
        (λ (e : 20 ≤ a). subst⁻¹ (LeftBy n) (trailed_parts text k a b p q l ls name (omega (arith, f.most))) parts)
        (lt_or_ge a 20))
        (lt_or_ge a 18))
        (lt_or_ge a 15)

pub class_small : (t : Token) → code t < 34
unfolding code
class_small opening = omega arith
class_small closing = omega arith
class_small '[' = omega arith
class_small ']' = omega arith
class_small dot = omega arith
class_small dots = omega arith
class_small at = omega arith
class_small comma = omega arith
class_small '::' = omega arith
class_small NameTest = omega arith
class_small NodeType = omega arith
class_small 'processing_instruction' = omega arith
class_small FunctionName = omega arith
class_small AxisName = omega arith
class_small Literal = omega arith
class_small Number = omega arith
class_small VariableReference = omega arith
class_small '/' = omega arith
class_small '//' = omega arith
class_small '|' = omega arith
class_small '+' = omega arith
class_small '-' = omega arith
class_small '=' = omega arith
class_small '!=' = omega arith
class_small '<' = omega arith
class_small '<=' = omega arith
class_small '>' = omega arith
class_small '>=' = omega arith
class_small MultiplyOperator = omega arith
class_small 'and' = omega arith
class_small 'or' = omega arith
class_small 'div' = omega arith
class_small 'mod' = omega arith
class_small unknown = omega arith

kind_small : (text : List ℕ) (k : ℕ) → kind_at text k < 34
unfolding kind_at
kind_small text k = class_small (get_or (classes_of text) k unknown)

byte_fits : (text : List ℕ) (k : ℕ) → k ≤ length (tokens text) → byte_of text k ≤ length text
byte_fits text k h =
    ⊎_elim
    (λ (l : k < length (tokens text)). let e = place_inside text [] k l in omega (arith, byte_place text [] k, e))
    (λ (l : length (tokens text) ≤ k). let e : k ≡ length (tokens text) = omega arith in let z = byte_end text in omega (arith, z, ap (byte_of text) e))
    (lt_or_ge k (length (tokens text)))

-- every level of a trail can be held by the window
trail_left : (text : List ℕ) (k : ℕ) → k ≤ length (tokens text) → LeftBy (length text) (trail_of text k)
unfolding trail_of LeftBy
trail_left text zero h = record {
  mode = omega arith;
  small = fresh_small (length text) 0 (byte_of text 0) (omega arith) (byte_fits text 0 h);
  smalls = none;
  function = λ e. absurd (omega arith);
  byte = λ e. absurd (omega arith);
  byte_behind = λ e. absurd (omega arith);
}
trail_left text (suc k) h = grown (trail_of text k) (trail_left text k (omega arith))
  where
    grown :
        (t : Trail) → LeftBy (length text) t
        → LeftBy (length text) (trailed text (kind_at text k) (act_of (kind_at text k) (mode_in t)) (byte_of text k) (byte_of text (suc k)) t)
    grown (trail q l ls name) w =
        left_step text (length text) (kind_at text k) q (byte_of text k) (byte_of text (suc k)) l ls name (kind_small text k)
        (byte_fits text k (omega arith)) (byte_fits text (suc k) h) w

-- the same of a trail that is known
pub trail_is_left :
    (text : List ℕ) (k q : ℕ) (l : Level) (ls : List Level) (name : ℕ) → k ≤ length (tokens text) → trail_of text k ≡ trail q l ls name
    → Left (length text) q l ls name
unfolding LeftBy
trail_is_left text k q l ls name h e = subst (LeftBy (length text)) e (trail_left text k h)

-- ---- the grammar's machine

mode_back : (m : Mode) → get_or modes (number m) operand ≡ m
unfolding number
mode_back operand = refl
mode_back argument = refl
mode_back union = refl
mode_back root = refl
mode_back step = refl
mode_back axis = refl
mode_back test = refl
mode_back type = refl
mode_back empty = refl
mode_back instruction = refl
mode_back target = refl
mode_back call = refl
mode_back whole = refl
mode_back part = refl

pub number_small : (m : Mode) → number m < 14
unfolding number
number_small operand = omega arith
number_small argument = omega arith
number_small union = omega arith
number_small root = omega arith
number_small step = omega arith
number_small axis = omega arith
number_small test = omega arith
number_small type = omega arith
number_small empty = omega arith
number_small instruction = omega arith
number_small target = omega arith
number_small call = omega arith
number_small whole = omega arith
number_small part = omega arith

-- where the machine stands, as the trail has it
pub data Machine : State → Trail → Type 0 where
  stands : {bs : List Bracket} {q : ℕ} {l : Level} {ls : List Level} {n : ℕ} → Opened bs l ls → Machine (reading (get_or modes q operand) bs) (trail q l ls n)

opened_same : {bs : List Bracket} {l : Level} {ls : List Level} (o : Level) → o.kind ≡ l.kind → Opened bs l ls → Opened bs o ls
opened_same o e (whole_text h) = whole_text (e ∙ h)
opened_same o e (bracket h b w) = let positive : 0 < o.kind = omega (arith, h, e) in bracket positive (b ∙ ap bracket_of (sym e)) w

not_stuck : {A : Type 0} → true ≡ false → A
not_stuck e = absurd (true≢false e)

-- one token more, by what it does
by_act :
    (text : List ℕ) (k b p q : ℕ) (l : Level) (ls : List Level) (n : ℕ) (bs : List Bracket) → Opened bs l ls → (a : Act)
    → is_stuck (done a bs) ≡ false → Machine (done a bs) (trailed text k (act_number a) b p (trail q l ls n))
unfolding done is_stuck act_number opened inner
by_act text k b p q l ls n bs w refuse e = not_stuck e
by_act text k b p q l ls n bs w (go m) e =
    let small : number m < 14 = number_small m in
    let less : suc (number m) - 1 ≡ number m = omega arith in
    subst⁻¹ (Machine (reading m bs)) (trailed_goes text k (suc (number m)) b p q l ls n (omega arith))
    (subst⁻¹ (λ (z : ℕ). Machine (reading m bs) (trail z (level_in (group_of k) (tightness_of k) q p l) ls (name_at text k b n))) less
    (subst (λ (z : Mode). Machine (reading z bs) (trail (number m) (level_in (group_of k) (tightness_of k) q p l) ls (name_at text k b n))) (mode_back m)
    (stands (opened_same (level_in (group_of k) (tightness_of k) q p l) (kind_kept (group_of k) (tightness_of k) q p l) w))))
by_act text k b p q l ls n bs w (enter group) e =
    subst⁻¹ (Machine (reading operand (group ∷ bs))) (trailed_opens text k 15 b p q l ls n (omega arith) (omega arith))
    (stands (bracket (omega arith) refl (opened_same (level_in (group_of k) (tightness_of k) q p l) (kind_kept (group_of k) (tightness_of k) q p l) w)))
by_act text k b p q l ls n bs w (enter arguments) e =
    let kind : arguments ≡ bracket_of (4 + n) = rw (ne_eqb (4 + n) 1 (λ z. omega arith), ne_eqb (4 + n) 2 (λ z. omega arith)) in
    subst⁻¹ (Machine (reading argument (arguments ∷ bs))) (trailed_opens text k 16 b p q l ls n (omega arith) (omega arith))
    (stands (bracket (omega arith) kind (opened_same (level_in (group_of k) (tightness_of k) q p l) (kind_kept (group_of k) (tightness_of k) q p l) w)))
by_act text k b p q l ls n bs w (enter predicate) e =
    subst⁻¹ (Machine (reading operand (predicate ∷ bs))) (trailed_opens text k 17 b p q l ls n (omega arith) (omega arith))
    (stands (bracket (omega arith) refl (opened_same (level_in (group_of k) (tightness_of k) q p l) (kind_kept (group_of k) (tightness_of k) q p l) w)))
by_act text k b p q l ls n bs (whole_text h) leave_round e = not_stuck e
by_act text k b p q l ls n bs (bracket {b = group} {bs = cs} {o = o} {ls = os} h c w) leave_round e =
    subst⁻¹ (Machine (reading part cs)) (trailed_closes text k 18 b p q l (o ∷ os) n (omega arith) (omega arith)) (stands w)
by_act text k b p q l ls n bs (bracket {b = arguments} {bs = cs} {o = o} {ls = os} h c w) leave_round e =
    subst⁻¹ (Machine (reading part cs)) (trailed_closes text k 18 b p q l (o ∷ os) n (omega arith) (omega arith)) (stands w)
by_act text k b p q l ls n bs (bracket {b = predicate} h c w) leave_round e = not_stuck e
by_act text k b p q l ls n bs (whole_text h) leave_square e = not_stuck e
by_act text k b p q l ls n bs (bracket {b = group} h c w) leave_square e = not_stuck e
by_act text k b p q l ls n bs (bracket {b = arguments} h c w) leave_square e = not_stuck e
by_act text k b p q l ls n bs (bracket {b = predicate} {bs = cs} {o = o} {ls = os} h c w) leave_square e =
    subst⁻¹ (Machine (reading part cs)) (trailed_closes text k 19 b p q l (o ∷ os) n (omega arith) (omega arith)) (stands w)
by_act text k b p q l ls n bs (whole_text h) next_argument e = not_stuck e
by_act text k b p q l ls n bs (bracket {b = group} h c w) next_argument e = not_stuck e
by_act text k b p q l ls n bs (bracket {b = arguments} {bs = cs} {o = o} {ls = os} h c w) next_argument e =
    subst⁻¹ (Machine (reading operand (arguments ∷ cs))) (trailed_parts text k 20 b p q l (o ∷ os) n refl) (stands (bracket (omega arith) refl w))
by_act text k b p q l ls n bs (bracket {b = predicate} h c w) next_argument e = not_stuck e

machine_step :
    (text : List ℕ) (b p : ℕ) (t : Token) {s : State} {r : Trail} → Machine s r → is_stuck (next s t) ≡ false
    → Machine (next s t) (trailed text (code t) (act_of (code t) (mode_in r)) b p r)
unfolding next act_of
machine_step text b p t (stands {bs = bs} {q = q} {l = l} {ls = ls} {n = n} w) e =
    subst⁻¹ (λ (u : Token). Machine (done (pick (rows t) (get_or modes q operand)) bs) (trailed text (code t) (act_number (pick (rows u) (get_or modes q operand))) b p (trail q l ls n)))
    (class_of_code t) (by_act text (code t) b p q l ls n bs w (pick (rows t) (get_or modes q operand)) e)

-- no token is refused before one that is taken
alive : (s : State) (t : Token) → is_stuck (run s (t ∷ [])) ≡ false → is_stuck s ≡ false
unfolding run next is_stuck
alive stuck t e = e
alive (reading m bs) t e = refl

module _ (text : List ℕ) (k : ℕ) (h : k < length (classes_of text)) where
  run_more : run start (take (suc k) (classes_of text)) ≡ run (run start (take k (classes_of text))) (get_or (classes_of text) k unknown ∷ [])
  run_more =
      ap (run start) (take-suc (classes_of text) k unknown h)
      ∙ run_append start (take k (classes_of text)) (get_or (classes_of text) k unknown ∷ [])

  pub goes_before : Goes text (suc k) → Goes text k
  unfolding Goes
  goes_before e = alive (run start (take k (classes_of text))) (get_or (classes_of text) k unknown) (ap is_stuck (sym run_more) ∙ e)

goes_so : (text : List ℕ) (k : ℕ) → Goes text k → is_stuck (run start (take k (classes_of text))) ≡ false
unfolding Goes
goes_so text k g = g

-- behind tokens none of which is refused the machine stands as the trail has it
pub trail_machine : (text : List ℕ) (k : ℕ) → k ≤ length (classes_of text) → Goes text k → Machine (run start (take k (classes_of text))) (trail_of text k)
unfolding trail_of run kind_at
trail_machine text zero h e = stands (whole_text refl)
trail_machine text (suc k) h e =
    let before : Machine (run start (take k (classes_of text))) (trail_of text k) = trail_machine text k (omega arith) (goes_before text k (omega arith) e) in
    subst⁻¹ (λ (s : State). Machine s (trail_of text (suc k))) (run_more text k (omega arith))
    (grown (trail_of text k) before)
  where
    grown :
        (t : Trail) → Machine (run start (take k (classes_of text))) t
        → Machine (next (run start (take k (classes_of text))) (get_or (classes_of text) k unknown))
        (trailed text (kind_at text k) (act_of (kind_at text k) (mode_in t)) (byte_of text k) (byte_of text (suc k)) t)
    grown t m =
        machine_step text (byte_of text k) (byte_of text (suc k)) (get_or (classes_of text) k unknown) m
        (ap is_stuck (sym (run_more text k (omega arith))) ∙ goes_so text (suc k) e)
