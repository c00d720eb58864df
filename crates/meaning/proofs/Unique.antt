-- Uniqueness: any two outcomes that a promise allows are equal, number, place and every entry of the output alike. Each theorem cites the
-- promise (specs/Promises.antt) that the contract of its function cites. The view promises nothing of the place of an empty part, and
-- nothing of ghost names.
-- Assumes nothing.
use Prim.Native.Nat.{ℕ, ◌<◌}
use mathlib.Core.Path.{◌≡◌, refl, sym, ap, ◌∙◌}
use mathlib.Core.List.{List}
use lib.ListN.{length}
use lib.Ieee.{Float}
use denote.Ref.{Bor}
use Rattle.meaning.specs.Answers.{answer, table_answer, axis_place, path_answer, evaluation, evaluated, turning, turned_output}
use Rattle.meaning.specs.View.{part_from, part_of}
use Rattle.meaning.specs.Promises.{ChecksTable, AnswersPlace, ChecksPath, EvaluatesPath, TurnsPath, FindsPart, ShowsPart}
use Rattle.meaning.specs.declared.Answer.{Answer}

-- any two outcomes that a promise allows are equal
abbrev pub Unique : {X : Type 0} → (X → Type 0) → Type 0
Unique {X} promise = (x y : X) → promise x → promise y → x ≡ y

-- so it is of a promise that is an equation, and of one that is an equation for the answer and one for the output
pub unique : {X : Type 0} (d : X) → Unique (λ x. x ≡ d)
unique d x y p q = p ∙ sym q

unique_pair : {A B : Type 0} (a : A) (b : B) → Unique (λ (x : A × B). (x.0 ≡ a) × (x.1 ≡ b))
unique_pair a b x y p q = λ i. (unique a x.0 y.0 p.0 q.0 i, unique b x.1 y.1 p.1 q.1 i)

-- and of one that speaks of an outcome in parts
pub unique_parts : {X Y : Type 0} (promise : X → Type 0) (whole : Y → X) (parts : X → Y) → ((y : Y) → parts (whole y) ≡ y)
    → Unique promise → Unique (λ y. promise (whole y))
unique_parts promise whole parts back u x y p q = sym (back x) ∙ ap parts (u (whole x) (whole y) p q) ∙ back y

-- ---- the public functions

pub check_table_unique : (t : List ℕ) → Unique (ChecksTable t)
check_table_unique t = unique (table_answer t)

pub axis_place_unique : (t : List ℕ) (axis x y : ℕ) → Unique (AnswersPlace t axis x y)
axis_place_unique t axis x y = unique (axis_place t axis x y)

pub check_path_unique : (p : List ℕ) (literals : List Float) → Unique (ChecksPath p literals)
check_path_unique p literals = unique (path_answer p literals)

pub evaluate_unique : (edition : ℕ) (t p : List ℕ) (literals : List Float) (start : ℕ) (out : List ℕ)
    → Unique (λ (x : Answer × List ℕ). EvaluatesPath edition t p literals start out x.0 x.1)
evaluate_unique edition t p literals start out = unique_pair (evaluation edition t p literals start (length out)) (evaluated edition t p literals start out)

pub turn_unique : (p : List ℕ) (literals : List Float) (out : List ℕ) → Unique (λ (x : Answer × List ℕ). TurnsPath p literals out x.0 x.1)
turn_unique p literals out = unique_pair (turning p literals (length out)) (turned_output p literals out)

pub ends_of_unique : (t l : List ℕ) (v : ℕ) → Unique (FindsPart t l v)
ends_of_unique t l v = unique (part_of t l v)

-- two views hold the same entries and, where there are some, begin at the same place
pub view_unique : (t : List ℕ) (l : Bor (List ℕ)) (v : ℕ) (x y : Bor (List ℕ)) → ShowsPart t l v x → ShowsPart t l v y
    → (x.now ≡ y.now) × (0 < length x.now → x.ref_ptr ≡ y.ref_ptr)
view_unique t l v x y p q =
    let e : x.now ≡ y.now = unique _ x.now y.now p.entries q.entries in (
      e,
      λ h.
          let k : 0 < length y.now = rw e at h in
          let b : x.ref_ptr.0 ≡ y.ref_ptr.0 = unique _ _ _ (p.block h) (q.block k) in
          let o : x.ref_ptr.1 ≡ y.ref_ptr.1 = unique _ _ _ (p.offset h) (q.offset k) in
          λ i. (b i, o i),
    )

-- ---- the functions for C: number and place, or begin and count, and the output

pub bt_check_table_unique : (t : List ℕ) → Unique (λ (x : ℕ × ℕ). ChecksTable t (answer x.0 x.1))
bt_check_table_unique t = unique_parts (ChecksTable t) (λ x. answer x.0 x.1) (λ a. (a.number, a.place)) (λ x. refl) (check_table_unique t)

pub bt_check_path_unique : (p : List ℕ) (literals : List Float) → Unique (λ (x : ℕ × ℕ). ChecksPath p literals (answer x.0 x.1))
bt_check_path_unique p literals = unique_parts (ChecksPath p literals) (λ x. answer x.0 x.1) (λ a. (a.number, a.place)) (λ x. refl) (check_path_unique p literals)

pub bt_evaluate_unique : (edition : ℕ) (t p : List ℕ) (literals : List Float) (start : ℕ) (out : List ℕ)
    → Unique (λ (x : ℕ × ℕ × List ℕ). EvaluatesPath edition t p literals start out (answer x.0 x.1) x.2)
bt_evaluate_unique edition t p literals start out = unique_parts _ (λ x. (answer x.0 x.1, x.2)) (λ r. (r.0.number, r.0.place, r.1)) (λ x. refl) (evaluate_unique edition t p literals start out)

pub bt_turn_unique : (p : List ℕ) (literals : List Float) (out : List ℕ) → Unique (λ (x : ℕ × ℕ × List ℕ). TurnsPath p literals out (answer x.0 x.1) x.2)
bt_turn_unique p literals out = unique_parts _ (λ x. (answer x.0 x.1, x.2)) (λ r. (r.0.number, r.0.place, r.1)) (λ x. refl) (turn_unique p literals out)

pub bt_view_unique : (t l : List ℕ) (v : ℕ) → Unique (λ (x : ℕ × ℕ). FindsPart t l v (part_from x.0 x.1))
bt_view_unique t l v = unique_parts (FindsPart t l v) (λ x. part_from x.0 x.1) (λ r. (r.begin, r.length)) (λ x. refl) (ends_of_unique t l v)
