-- Tokens that change the desk alone: what was done to the desk is what the machine does with a token of the class.
-- Assumes nothing.
use Prim.Native.Nat.{ℕ, zero, suc, ◌+◌, ◌-◌, ◌<◌, ◌≤◌}
use native.Mathlib.Omega.{arith}
use mathlib.Core.Path.{◌≡◌, refl, sym, ◌∙◌, ap, subst}
use mathlib.Core.Bool.{Bool, true, false, ◌&&◌, not, cond, true≢false}
use mathlib.Core.Logic.{◌⊎◌, inl, inr, ⊎_elim}
use mathlib.Core.List.{List, [], ◌∷◌}
use lib.Dec.{T, eqb, ltb, leb, eqb→eq}
use lib.ListN.{get_or}
use lib.Ieee.{Float}
use borrow.Author.Tests.{ne_eqb, lt-leb}
use Rattle.meaning.specs.Rows as R
use Rattle.meaning.proofs.Bools.{is_true, eq_or_ne}
use Rattle.names.specs.Names.{position}
use Rattle.text.specs.Grammar.{Token, opening, closing, '[', ']', dot, dots, at, comma, '::', NameTest, NodeType, 'processing_instruction', FunctionName, AxisName, Literal, Number, VariableReference, '/', '//', '|', '+', '-', '=', '!=', '<', '<=', '>', '>=', MultiplyOperator, 'and', 'or', 'div', 'mod', unknown}
use Rattle.text.specs.Tokens.{code, class_of}
use Rattle.text.specs.Machine.{Mode, has, signing}
use Rattle.text.specs.Limited.{Source, word_of, function_names}
use Rattle.text.specs.Reading.{operation}
use Rattle.text.specs.Survey.{mode_after}
use Rattle.text.specs.Composing.{Desk, draft, push, moved, opening_read, closing_read, bracket_read, square_read, call_read, operator_read, minus_read, compose_token}
use Rattle.modes.proofs.Table as Table
use Rattle.compose.specs.declared.Bench.{Bench}
use Rattle.compose.specs.Standing.{desk_of, mode_of, Worked, word_number, Deals, Dealt}
use Rattle.compose.specs.Deals.{opened, closed, squared, called, wanted, operated, signed, of_desk}

-- what was done is what the token does
pub dealt :
    (kind number mode : ℕ) {b r : Bench} {rows ops opens rows' ops' opens' : List ℕ} {f : Desk → Desk} {k : ℕ}
    → Worked b rows ops opens f r rows' ops' opens' k → k ≤ 4 → ((d : Desk) → Deals kind number mode d (f d))
    → Dealt kind number mode b rows ops opens r rows' ops' opens'
dealt kind number mode {b} {r} {rows} {ops} {opens} w l e =
    record {
      deals = rw w.desk_is (e (desk_of b rows ops opens));
      grown = w.grown;
      most = omega (arith, w.most);
    }

four : (k : ℕ) → (k ≡ 0 → ⊥) → (k ≡ 1 → ⊥) → (k ≡ 2 → ⊥) → (k ≡ 3 → ⊥) → 3 < k
four zero a b c d = absurd (a refl)
four (suc zero) a b c d = absurd (b refl)
four (suc (suc zero)) a b c d = absurd (c refl)
four (suc (suc (suc zero))) a b c d = absurd (d refl)
four (suc (suc (suc (suc k)))) a b c d = omega arith

module _ (kind number mode : ℕ) where
  pub as_opening : kind ≡ 0 → (d : Desk) → Deals kind number mode d (opened mode d)
  unfolding Deals compose_token opening_read opened
  as_opening e d s i x l deepest n = rw e

  pub as_closing : kind ≡ 1 → (d : Desk) → Deals kind number mode d (closed mode d)
  unfolding Deals compose_token closing_read closed
  as_closing e d s i x l deepest n = rw e

  pub as_bracket : kind ≡ 2 → (d : Desk) → Deals kind number mode d (push 25 0 0 d)
  unfolding Deals compose_token bracket_read
  as_bracket e d s i x l deepest n = rw e

  pub as_square : kind ≡ 3 → (d : Desk) → Deals kind number mode d (squared d)
  unfolding Deals compose_token square_read squared
  as_square e d s i x l deepest n = rw e

  pub as_call : kind ≡ 12 → (d : Desk) → Deals kind number mode d (called number d)
  unfolding Deals compose_token call_read called word_number code
  as_call e d s i x l deepest n =
      let k : word_number s i kind ≡ position function_names (word_of s i) = rw e in
      rw (e, n ∙ k)

  pub as_minus : kind ≡ 21 → (d : Desk) → Deals kind number mode d (signed mode d)
  unfolding Deals compose_token minus_read operator_read signed operated wanted
  as_minus e d s i x l deepest n = rw e (either_way (has signing (mode_of mode)) _ _ _)
    where
      either_way :
          (t : Bool) (a b : Desk) (m : Mode) → cond t (draft m x l deepest a) (draft m x l deepest b) ≡ draft m x l deepest (cond t a b)
      either_way true a b m = refl
      either_way false a b m = refl

  pub as_moved :
      (kind ≡ 7) ⊎ ((kind ≡ 8) ⊎ ((kind ≡ 14) ⊎ ((kind ≡ 16) ⊎ (kind ≡ 19)))) → (d : Desk) → Deals kind number mode d d
  unfolding Deals compose_token moved
  as_moved o d s i x l deepest n =
      ⊎_elim (λ e. rw e) (λ o. ⊎_elim (λ e. rw e) (λ o. ⊎_elim (λ e. rw e) (λ o. ⊎_elim (λ e. rw e) (λ e. rw e) o) o) o) o

under : (k : ℕ) → k < 20 → (k ≡ 19 → ⊥) → k < 19
under k h n = omega arith

-- the tokens that change nothing but the mode
pub moved_kind :
    (kind : ℕ) → of_desk kind ≡ true → kind < 20 → (kind ≡ 0 → ⊥) → (kind ≡ 1 → ⊥) → (kind ≡ 2 → ⊥) → (kind ≡ 3 → ⊥) → (kind ≡ 12 → ⊥)
    → (kind ≡ 7) ⊎ ((kind ≡ 8) ⊎ ((kind ≡ 14) ⊎ ((kind ≡ 16) ⊎ (kind ≡ 19))))
unfolding of_desk
moved_kind kind t h n₀ n₁ n₂ n₃ n₁₂ = elim (eq_or_ne kind 7) [
  | inl e ↦ inl e
  | inr a ↦ elim (eq_or_ne kind 8) [
    | inl e ↦ inr (inl e)
    | inr b ↦ elim (eq_or_ne kind 14) [
      | inl e ↦ inr (inr (inl e))
      | inr c ↦ elim (eq_or_ne kind 16) [
        | inl e ↦ inr (inr (inr (inl e)))
        | inr d ↦ elim (eq_or_ne kind 19) [
          | inl e ↦ inr (inr (inr (inr e)))
          | inr e ↦ absurd (true≢false
              (sym t ∙ rw (
                lt-leb kind 3 (four kind n₀ n₁ n₂ n₃),
                ne_eqb kind 7 a,
                ne_eqb kind 8 b,
                ne_eqb kind 12 n₁₂,
                ne_eqb kind 14 c,
                ne_eqb kind 16 d,
                lt-leb 19 kind (under kind h e),
              )))
        ]
      ]
    ]
  ]
]

-- ---- operators

-- the binary operators but `-`
is_operator : Token → Bool
is_operator t = leb 20 (code t) && (ltb (code t) 33 && not (eqb (code t) 21))

operator_read_lem :
    (t : Token) → is_operator t ≡ true → (s : Source) (i x : ℕ) (l : List Float) (deepest : ℕ) (m : Mode) (d : Desk)
    → compose_token s (draft m x l deepest d) i t ≡ draft (mode_after m t) x l deepest (operated (R.code (operation t)) d)
unfolding is_operator compose_token operator_read operated wanted code
operator_read_lem opening e s i x l deepest m d = absurd (true≢false (sym e))
operator_read_lem closing e s i x l deepest m d = absurd (true≢false (sym e))
operator_read_lem '[' e s i x l deepest m d = absurd (true≢false (sym e))
operator_read_lem ']' e s i x l deepest m d = absurd (true≢false (sym e))
operator_read_lem dot e s i x l deepest m d = absurd (true≢false (sym e))
operator_read_lem dots e s i x l deepest m d = absurd (true≢false (sym e))
operator_read_lem at e s i x l deepest m d = absurd (true≢false (sym e))
operator_read_lem comma e s i x l deepest m d = absurd (true≢false (sym e))
operator_read_lem '::' e s i x l deepest m d = absurd (true≢false (sym e))
operator_read_lem NameTest e s i x l deepest m d = absurd (true≢false (sym e))
operator_read_lem NodeType e s i x l deepest m d = absurd (true≢false (sym e))
operator_read_lem 'processing_instruction' e s i x l deepest m d = absurd (true≢false (sym e))
operator_read_lem FunctionName e s i x l deepest m d = absurd (true≢false (sym e))
operator_read_lem AxisName e s i x l deepest m d = absurd (true≢false (sym e))
operator_read_lem Literal e s i x l deepest m d = absurd (true≢false (sym e))
operator_read_lem Number e s i x l deepest m d = absurd (true≢false (sym e))
operator_read_lem VariableReference e s i x l deepest m d = absurd (true≢false (sym e))
operator_read_lem '/' e s i x l deepest m d = absurd (true≢false (sym e))
operator_read_lem '//' e s i x l deepest m d = absurd (true≢false (sym e))
operator_read_lem '|' e s i x l deepest m d = absurd (true≢false (sym e))
operator_read_lem '+' e s i x l deepest m d = refl
operator_read_lem '-' e s i x l deepest m d = absurd (true≢false (sym e))
operator_read_lem '=' e s i x l deepest m d = refl
operator_read_lem '!=' e s i x l deepest m d = refl
operator_read_lem '<' e s i x l deepest m d = refl
operator_read_lem '<=' e s i x l deepest m d = refl
operator_read_lem '>' e s i x l deepest m d = refl
operator_read_lem '>=' e s i x l deepest m d = refl
operator_read_lem MultiplyOperator e s i x l deepest m d = refl
operator_read_lem 'and' e s i x l deepest m d = refl
operator_read_lem 'or' e s i x l deepest m d = refl
operator_read_lem 'div' e s i x l deepest m d = refl
operator_read_lem 'mod' e s i x l deepest m d = refl
operator_read_lem unknown e s i x l deepest m d = absurd (true≢false (sym e))

-- the ops of the operators, in the order of their classes
unfoldable pub operations : List ℕ
operations = 4 ∷ 5 ∷ 10 ∷ 11 ∷ 12 ∷ 13 ∷ 14 ∷ 15 ∷ 6 ∷ 16 ∷ 17 ∷ 7 ∷ 8 ∷ []

pub operation_at : (kind : ℕ) → 20 ≤ kind → kind < 33 → get_or operations (kind - 20) 0 ≡ R.code (operation (class_of kind))
unfolding operations operation code R.code
operation_at kind l h =
    let e : (kind - 20) + 20 ≡ kind = omega arith in
    eqb→eq (get_or operations (kind - 20) 0) (R.code (operation (class_of ((kind - 20) + 20))))
    (Table.at (λ k x. eqb x (R.code (operation (class_of (k + 20))))) operations tt (kind - 20) (omega arith))
    ∙ ap (λ (k : ℕ). R.code (operation (class_of k))) e

operator_at : (kind : ℕ) → 20 ≤ kind → kind < 33 → (kind ≡ 21 → ⊥) → is_operator (class_of kind) ≡ true
unfolding operations is_operator code
operator_at kind l h n =
    let e : (kind - 20) + 20 ≡ kind = omega arith in
    let t : T (cond (eqb kind 21) true (is_operator (class_of kind))) =
    subst (λ (k : ℕ). T (cond (eqb k 21) true (is_operator (class_of k)))) e
    (Table.at (λ k x. cond (eqb (k + 20) 21) true (is_operator (class_of (k + 20)))) operations tt (kind - 20) (omega arith)) in
    is_true (is_operator (class_of kind)) (rw (ne_eqb kind 21 n) at t)

pub as_operator :
    (kind number mode : ℕ) → 20 ≤ kind → kind < 33 → (kind ≡ 21 → ⊥) → (d : Desk)
    → Deals kind number mode d (operated (R.code (operation (class_of kind))) d)
unfolding Deals
as_operator kind number mode l h n d s i x l' deepest e =
    operator_read_lem (class_of kind) (operator_at kind l h n) s i x l' deepest (mode_of mode) d
