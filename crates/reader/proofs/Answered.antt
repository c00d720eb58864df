-- The answer of the reader from what its parts find: a bad list of names, what is wrong in the text, and what is composed of it.
-- Assumes nothing.
use Prim.Native.Nat.{ℕ, ◌<◌, ◌≤◌}
use mathlib.Core.Path.{◌≡◌, refl, sym, ◌∙◌, ap, subst}
use Rattle.std.specs.Prelude.{Option, None, Some}
use mathlib.Core.Bool.{Bool, true, false}
use mathlib.Core.List.{List, [], ◌∷◌}
use native.Mathlib.Omega.{arith}
use borrow.Author.Tests.{lt-ltb}
use lib.ListN.{length}
use Rattle.meaning.specs.Answers.{answer}
use Rattle.meaning.specs.declared.Answer.{Answer}
use Rattle.meaning.specs.Turning.{weight}
use Rattle.meaning.specs.Tree.{Tree, depth}
use Rattle.names.specs.Names.{names_of, bad_names, bad_line_number}
use Rattle.text.specs.declared.Fault.{Fault}
use Rattle.text.specs.Tokens.{classes_of}
use Rattle.text.specs.Machine.{start, accepts, readable}
use Rattle.text.specs.Growing.{syntax_of}
use Rattle.text.specs.Limited.{Source, source, text_faults, least}
use Rattle.text.specs.Reading.{Form, outside, inside, byte_of, tree_of, literals_of, fault_check, limit_checks, room_checks, form_checks, reading}
use Rattle.text.specs.Forms.{form_of, lowest_of, found}
use Rattle.text.proofs.Viable.{accepts_exactly}
use Rattle.text.proofs.Forms.{form_accepted}
use Rattle.text.proofs.Surveying.Least.{InText, AllInText, least_in_text, faults_in_text}
use Rattle.reader.specs.Handing.{Clean, handed}

-- the lowest fault is given, if there is one
fault_given : (fs : List Fault) (next : Answer) (x : Fault) → lowest_of fs ≡ Some x → fault_check fs next ≡ answer x.number x.place
unfolding fault_check lowest_of
fault_given [] next x e = cc
fault_given (f ∷ fs) next x e = let same : least f fs ≡ x = cc in ap (λ (g : Fault). answer g.number g.place) same

none_given : (fs : List Fault) → lowest_of fs ≡ None → fs ≡ []
unfolding lowest_of
none_given [] e = refl
none_given (f ∷ fs) e = cc

-- and is a fault of the text
some_in_text : (s : Source) (fs : List Fault) (x : Fault) → AllInText s fs → lowest_of fs ≡ Some x → InText s x
unfolding lowest_of
some_in_text s [] x h e = cc
some_in_text s (f ∷ fs) x h e =
    let same : least f fs ≡ x = cc in
    subst (InText s) same (least_in_text s f fs h)

module _ (text list : List ℕ) (room literalRoom : ℕ) where
  -- the names are refused first
  pub names_refused :
      (f : Form) → bad_names (names_of list) ≡ true → reading f text list room literalRoom ≡ answer 22 (bad_line_number (names_of list))
  unfolding reading
  names_refused f e = rw e

  -- then what is wrong in the text
  pub found_refused :
      (f : Form) (x : Fault) → bad_names (names_of list) ≡ false → found f text list ≡ Some x
      → reading f text list room literalRoom ≡ answer x.number x.place
  unfolding reading form_checks found
  found_refused (outside p) x e h = rw e (let same : record { number = 23; place = p } ≡ x = cc in ap (λ (g : Fault). answer g.number g.place) same)
  found_refused (inside y) x e h = rw e (fault_given (text_faults (source text list) y) _ x h)

-- of a text that is accepted, or that isn't, the form
accepted_form : (text list : List ℕ) {x : Option Fault} → accepts (classes_of text) ≡ true → found (form_of text) text list ≡ x
    → lowest_of (text_faults (source text list) (syntax_of (classes_of text))) ≡ x
unfolding found
accepted_form text list e h = ap (λ (f : Form). found f text list) (sym (form_accepted text e)) ∙ h

refused_form : (text list : List ℕ) {x : Option Fault} → accepts (classes_of text) ≡ false → found (form_of text) text list ≡ x
    → Some (record { number = 23; place = byte_of text (readable start (classes_of text)) }) ≡ x
unfolding found form_of
refused_form text list e h =
    let f : form_of text ≡ outside (byte_of text (readable start (classes_of text))) = rw e in
    ap (λ (x : Form). found x text list) (sym f) ∙ h

all_in_text : (text list : List ℕ) → accepts (classes_of text) ≡ true
    → AllInText (source text list) (text_faults (source text list) (syntax_of (classes_of text)))
all_in_text text list e = faults_in_text text list ((accepts_exactly (classes_of text)).0 (rw e tt))

-- nothing is wrong: the text is of the grammar, and without faults
pub nothing_found : (text list : List ℕ) → found (form_of text) text list ≡ None → Clean text list
nothing_found text list h = decide (accepts (classes_of text)) refl
  where
    decide : (b : Bool) → accepts (classes_of text) ≡ b → Clean text list
    decide true e = record {
      accepted = e;
      formed = form_accepted text e;
      faultless = none_given (text_faults (source text list) (syntax_of (classes_of text))) (accepted_form text list e h);
    }
    decide false e = let none = refused_form text list e h in cc

-- what is wrong has a number from 23 to 26
pub found_between : (text list : List ℕ) (x : Fault) → found (form_of text) text list ≡ Some x → (23 ≤ x.number) × (x.number ≤ 26)
found_between text list x h = decide (accepts (classes_of text)) refl
  where
    decide : (b : Bool) → accepts (classes_of text) ≡ b → (23 ≤ x.number) × (x.number ≤ 26)
    decide true e =
        let w : InText (source text list) x =
        some_in_text (source text list) (text_faults (source text list) (syntax_of (classes_of text))) x
        (all_in_text text list e) (accepted_form text list e h) in
        (omega (arith, w.from_24), w.to_26)
    decide false e =
        let some = refused_form text list e h in
        let same : record { number = 23; place = byte_of text (readable start (classes_of text)) } ≡ x = cc in
        let n : 23 ≡ x.number = ap (λ (g : Fault). g.number) same in
        (omega arith, omega arith)

-- so not 0
pub found_numbered : (text list : List ℕ) (x : Fault) → found (form_of text) text list ≡ Some x → x.number ≡ 0 → ⊥
found_numbered text list x h z = omega (arith, (found_between text list x h).0, z)

module _ (text list : List ℕ) (room literalRoom : ℕ) where
  -- then the limits and the rooms
  pub clean_reading :
      Clean text list → bad_names (names_of list) ≡ false
      → let t : Tree = tree_of (source text list) (syntax_of (classes_of text)) in
      reading (form_of text) text list room literalRoom
      ≡ handed (weight t) (length (literals_of (source text list) (syntax_of (classes_of text)))) (depth t) room literalRoom
  unfolding reading form_checks fault_check limit_checks room_checks handed
  clean_reading c e = rw (c.formed, e, c.faultless)

-- above 256 rows nothing else matters
pub many_handed : (rows literals depth room literalRoom : ℕ) → 256 < rows → handed rows literals depth room literalRoom ≡ answer 3 0
unfolding handed
many_handed rows literals depth room literalRoom h = rw (lt-ltb 256 rows h)
