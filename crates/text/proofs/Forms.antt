-- Every text has exactly one form: the computed one; and how a loop over the tokens finds it.
-- Assumes nothing.
use Prim.Native.Nat.{ℕ, suc, ◌+◌, ◌<◌, ◌≤◌}
use mathlib.Core.Path.{◌≡◌, refl, sym, ◌∙◌, ap, subst}
use mathlib.Core.Bool.{Bool, true, false, cond, true≢false}
use mathlib.Core.List.{List, [], ◌++◌, append-nil}
use lib.ListN.{length, get_or, take}
use lib.Seq.{take-length}
use native.Mathlib.Omega.{arith}
use native.Mathlib.Numerals.{add-one}
use Rattle.meaning.proofs.Bools.{truly, untrue, is_false}
use Rattle.text.specs.Grammar.{Token, Sentence}
use Rattle.text.specs.Tokens.{classes_of}
use Rattle.text.specs.Machine.{run, start, is_stuck, accepts, readable}
use Rattle.text.specs.Syntax.{Syntax, blank}
use Rattle.text.specs.Growing.{syntax_of}
use Rattle.text.specs.Reading.{Form, outside, inside, byte_of, HasForm}
use Rattle.text.specs.Forms.{form_of}
use Rattle.text.proofs.Viable.{not_stuck_viable, viable_not_stuck, viable_before, accepts_exactly, machine_stops, one_longest}
use Rattle.text.proofs.Tree.{the_tree, one_tree}
use Rattle.text.proofs.Cutting.{Cut, Stands, cut_count, cut_byte, classes_length, byte_end}

-- a text has the computed form
pub form_of_lem : (text : List ℕ) → HasForm text (form_of text)
unfolding form_of HasForm
form_of_lem text = by (accepts (classes_of text)) refl
  where
    by :
        (b : Bool) → accepts (classes_of text) ≡ b
        → HasForm text (cond b (inside (syntax_of (classes_of text))) (outside (byte_of text (readable start (classes_of text)))))
    by true e = let d = (accepts_exactly (classes_of text)).0 (truly e) in (d, the_tree (classes_of text) d)
    by false e = ((λ d. untrue e ((accepts_exactly (classes_of text)).1 d)), (readable start (classes_of text), machine_stops (classes_of text), refl))

-- and no other
pub form_unique : (text : List ℕ) (f g : Form) → HasForm text f → HasForm text g → f ≡ g
unfolding HasForm
form_unique text (outside p) (outside q) (none, h) (none', k) =
    ap outside (h.2 ∙ ap (byte_of text) (one_longest (classes_of text) h.0 k.0 h.1 k.1) ∙ sym k.2)
form_unique text (outside p) (inside x) (none, h) (d, e) = absurd (none d)
form_unique text (inside x) (outside q) (d, e) (none, h) = absurd (none d)
form_unique text (inside x) (inside y) (d, e) (d', e') =
    ap (λ (l : List Syntax). inside (get_or l 0 blank)) (sym e ∙ one_tree (classes_of text) d d' ∙ e')

-- ---- as a loop finds it

-- the machine stops where it stands and the next token, if there is one, is refused
stopped :
    (ts : List Token) (k : ℕ) → k ≤ length ts → is_stuck (run start (take k ts)) ≡ false
    → (k < length ts → is_stuck (run start (take (suc k) ts)) ≡ true)
    → readable start ts ≡ k
stopped ts k h e f =
    one_longest ts (readable start ts) k (machine_stops ts)
    (record { fits = h; viable = not_stuck_viable (take k ts) e; stops = λ l v. true≢false (sym (f l) ∙ viable_not_stuck (take (suc k) ts) v) })

-- a text with a beginning that is refused is not accepted
refused : (ts : List Token) (k : ℕ) → k ≤ length ts → is_stuck (run start (take k ts)) ≡ true → accepts ts ≡ false
refused ts k h e =
    is_false (accepts ts) (λ a.
    let d : Sentence (take (length ts) ts ++ []) =
    subst Sentence (sym (append-nil (take (length ts) ts) ∙ take-length ts)) ((accepts_exactly ts).0 a) in
    true≢false (sym e ∙ viable_not_stuck (take k ts) (viable_before k (length ts) ts h ([], d))))

module _ (text : List ℕ) where
  pub form_accepted : accepts (classes_of text) ≡ true → form_of text ≡ inside (syntax_of (classes_of text))
  unfolding form_of
  form_accepted e = rw e

  -- all tokens were read, and the text is not whole
  pub form_unended : is_stuck (run start (classes_of text)) ≡ false → accepts (classes_of text) ≡ false → form_of text ≡ outside (length text)
  unfolding form_of
  form_unended s e =
      let n : readable start (classes_of text) ≡ length (classes_of text) =
      stopped (classes_of text) (length (classes_of text)) (omega arith) (rw (take-length (classes_of text)) s) (λ l. absurd (omega arith)) in
      rw (e, n, classes_length text) (ap outside (byte_end text))

  -- the token that stands behind the first k is refused
  pub form_refused :
      {k i kind begin behind : ℕ} {due : Bool} → Cut text k i due → Stands text i due kind begin behind
      → is_stuck (run start (take k (classes_of text))) ≡ false → is_stuck (run start (take (k + 1) (classes_of text))) ≡ true
      → form_of text ≡ outside begin
  unfolding form_of
  form_refused {k = k} c t s e =
      let l : k < length (classes_of text) = omega (arith, cut_count c t, classes_length text) in
      let n : readable start (classes_of text) ≡ k = stopped (classes_of text) k (omega arith) s (λ _. rw add-one at e) in
      rw (refused (classes_of text) (k + 1) (omega arith) e, n) (ap outside (cut_byte c t))
