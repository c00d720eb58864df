-- Which tokens the grammar's machine takes, by the numbers of their acts and the kind of the innermost level; and the machine, and whatever
-- reads the tokens one by one, behind one token more.
-- Assumes nothing.
use Prim.Native.Nat.{ℕ, suc, ◌+◌, ◌≤◌, ◌<◌}
use mathlib.Core.Path.{◌≡◌, refl, sym, ◌∙◌, ap, subst⁻¹}
use mathlib.Core.Bool.{Bool, true, false, ◌&&◌, ◌||◌, not, cond, true≢false}
use mathlib.Core.List.{List, [], ◌∷◌}
use mathlib.Core.Logic.{⊎_elim}
use native.Mathlib.Omega.{arith}
use lib.Dec.{T, eqb, leb, eqb→eq, leb→le}
use lib.ListN.{length, take, length-take}
use borrow.Author.Tests.{ne_eqb, lt-ltb, le-ltb, le-leb}
use Rattle.meaning.proofs.Bools.{and_l, or_e, eq_or_ne}
use Rattle.text.specs.declared.Level.{Level}
use Rattle.text.specs.Grammar.{Token}
use Rattle.text.specs.Tokens.{class_of, classes_of}
use Rattle.text.specs.Machine.{group, arguments, predicate, Act, refuse, go, enter, leave_round, leave_square, next_argument, done, next, run, start, is_stuck, number}
use Rattle.text.specs.Syntax.{read_all, past}
use Rattle.text.proofs.Cutting.{Cut, Stands, cut_classes, classes_length}
use Rattle.text.proofs.Machine.{run_append}
use Rattle.text.proofs.Scheme.{read_append}
use Rattle.modes.specs.Acts.{opened, act_number}
use Rattle.levels.proofs.Nesting.{bracket_of, brackets_of, is_bracket, nested}
use Rattle.survey.specs.Standing.{taken}
use Rattle.survey.proofs.Trail.{number_small}

-- ---- what is taken

-- a level that is a bracket is a group, a predicate or a call
by_kind : (P : ℕ → Type 0) (kind : ℕ) → T (is_bracket kind) → P 1 → P 2 → ((k : ℕ) → 4 ≤ k → P k) → P kind
by_kind P kind h one two more =
    or_e (eqb kind 1) (eqb kind 2 || (leb 4 kind && leb kind 9)) h
    (λ e. subst⁻¹ P (eqb→eq kind 1 e) one)
    (λ k.
    or_e (eqb kind 2) (leb 4 kind && leb kind 9) k
    (λ e. subst⁻¹ P (eqb→eq kind 2 e) two)
    (λ e. more kind (leb→le 4 kind (and_l (leb 4 kind) (leb kind 9) e))))

-- the machine stops exactly if a token is not taken
pub act_stuck :
    (a : Act) (l : Level) (ls : List Level) → T (nested l ls) → is_stuck (done a (brackets_of l ls)) ≡ not (taken (act_number a) l.kind)
unfolding done is_stuck act_number opened taken brackets_of bracket_of nested
act_stuck refuse l ls h = refl
act_stuck (go m) l ls h = rw (lt-ltb (suc (number m)) 18 (omega (arith, number_small m)), ne_eqb (suc (number m)) 0 (λ e. omega arith))
act_stuck (enter group) l ls h = refl
act_stuck (enter arguments) l ls h = refl
act_stuck (enter predicate) l ls h = refl
act_stuck leave_round l [] h = rw (eqb→eq l.kind 0 h)
act_stuck leave_round l (o ∷ ls) h =
    by_kind (λ k. is_stuck (done leave_round (bracket_of k ∷ brackets_of o ls)) ≡ not (taken 18 k)) l.kind
    (and_l (is_bracket l.kind) (nested o ls) h) refl refl (λ k g. rw (ne_eqb k 1 (λ e. omega arith), ne_eqb k 2 (λ e. omega arith), le-leb 4 k g))
act_stuck leave_square l [] h = rw (eqb→eq l.kind 0 h)
act_stuck leave_square l (o ∷ ls) h =
    by_kind (λ k. is_stuck (done leave_square (bracket_of k ∷ brackets_of o ls)) ≡ not (taken 19 k)) l.kind
    (and_l (is_bracket l.kind) (nested o ls) h) refl refl (λ k g. rw (ne_eqb k 1 (λ e. omega arith), ne_eqb k 2 (λ e. omega arith)))
act_stuck next_argument l [] h = rw (eqb→eq l.kind 0 h)
act_stuck next_argument l (o ∷ ls) h =
    by_kind (λ k. is_stuck (done next_argument (bracket_of k ∷ brackets_of o ls)) ≡ not (taken 20 k)) l.kind
    (and_l (is_bracket l.kind) (nested o ls) h) refl refl (λ k g. rw (ne_eqb k 1 (λ e. omega arith), ne_eqb k 2 (λ e. omega arith), le-leb 4 k g))

-- what is taken does something
pub taken_some : (a kind : ℕ) → taken a kind ≡ true → 0 < a
unfolding taken
taken_some a kind e = ⊎_elim (λ (z : a ≡ 0). absurd (true≢false (sym e ∙ ap (λ (n : ℕ). taken n kind) z))) (λ z. omega arith) (eq_or_ne a 0)

-- in the whole text nothing closes
pub taken_whole : (a : ℕ) → 18 ≤ a → taken a 0 ≡ true → ⊥
unfolding taken
taken_whole a h e = true≢false (sym e ∙ (rw (le-ltb a 18 h) (by (eqb a 18) (eqb a 19))))
  where
    by : (x y : Bool) → cond x false (cond y false false) ≡ false
    by true y = refl
    by false true = refl
    by false false = refl

-- ---- one token more

past_length : (ts : List Token) (i : ℕ) → past i ts ≡ i + length ts
unfolding past
past_length [] i = omega arith
past_length (t ∷ ts) i = past_length ts (suc i) ∙ omega arith

module _
    {text : List ℕ} {k i : ℕ} {due : Bool} {kind begin behind : ℕ} (c : Cut text k i due) (n : Stands text i due kind begin behind) where
  pub run_next : run start (take (k + 1) (classes_of text)) ≡ next (run start (take k (classes_of text))) (class_of kind)
  unfolding run
  run_next = ap (run start) (cut_classes c n) ∙ run_append start (take k (classes_of text)) (class_of kind ∷ [])

  pub read_next :
      {G : Type 0} (step : G → ℕ → Token → G) (g : G)
      → read_all step g 0 (take (k + 1) (classes_of text)) ≡ step (read_all step g 0 (take k (classes_of text))) k (class_of kind)
  unfolding read_all
  read_next step g =
      let counted : past 0 (take k (classes_of text)) ≡ k =
      past_length (take k (classes_of text)) 0 ∙ omega (arith, length-take k (classes_of text), classes_length text, c.count) in
      ap (read_all step g 0) (cut_classes c n)
      ∙ (read_append step (take k (classes_of text)) (class_of kind ∷ []) g 0
      ∙ ap (λ (j : ℕ). step (read_all step g 0 (take k (classes_of text))) j (class_of kind)) counted)
