-- What the reader of path text writes is an accepted path in postorder, and its tree is the text's: document 01's path checker gives the
-- rows of a text without faults what the reader's own limits give it, and never number 5; the rows read back as the tree of the text; and where
-- the reader answers 0, the path checker gives what it wrote the same answer.
-- Assumes nothing.
use Prim.Native.Nat.{ℕ, suc, ◌*◌, ◌%◌, ◌<◌, ◌≤◌}
use mathlib.Core.Path.{◌≡◌, refl, sym, subst, ap, ◌∙◌}
use mathlib.Core.Logic.{◌⊎◌, inl, inr}
use mathlib.Core.Bool.{Bool, true, false, not}
use mathlib.Core.List.{List, [], ◌∷◌}
use lib.ListN.{length}
use lib.Dec.{ltb, leb}
use lib.Ieee.{Float}
use native.Mathlib.Omega.{arith}
use borrow.Author.Tests.{lt-ltb, le-ltb, le-leb, lt-leb, eq-eqb}
use Rattle.meaning.specs.Lists.{up_to, some, lowest}
use Rattle.meaning.specs.Rows.{is_path, takes, is_link, may_miss, most_path_rows, most_literals, path_length_allowed, bad_literal_at, broken_row}
use Rattle.meaning.specs.declared.Field.TheVariants.{PathLink}
use Rattle.meaning.specs.Rows as R
use Rattle.meaning.specs.Tree.{Tree, none, node, tree, depth, most_depth}
use Rattle.meaning.specs.Turning.{weight, written}
use Rattle.meaning.specs.Answers.{answer, check, path_tree, path_checks, path_answer}
use Rattle.meaning.specs.declared.Answer.{Answer}
use Rattle.meaning.proofs.Bools.{is_true, lt_or_ge}
use Rattle.meaning.proofs.Lists.{none_below, lowest_is, lowest_some}
use Rattle.meaning.proofs.Exactly.{GoodRows}
use Rattle.meaning.proofs.ReadBack.{length_written, written_rows, written_reads_back}
use Rattle.meaning.proofs.Made.{good_child, good_held}
use Rattle.meaning.proofs.Block.{written_whole}
use Rattle.names.specs.Names.{bad_names, names_of, bad_line_number}
use Rattle.text.specs.Grammar.{Token, Sentence}
use Rattle.text.specs.Tokens.{classes_of}
use Rattle.text.specs.Syntax.{Syntax}
use Rattle.text.specs.Growing.{syntax_of}
use Rattle.text.specs.Limited.{Source, text_faults, source, as_path, faults}
use Rattle.text.specs.Reading.{values, literals_of, tree_of, limit_checks, Form, outside, inside, HasForm, fault_check, room_checks, form_checks, reading, rows_of, literals}
use Rattle.text.proofs.Fits.{Fits}
use Rattle.text.proofs.Literals.{GoodEach, all_known}
use Rattle.text.proofs.Tree.{the_tree}
use Rattle.text.proofs.Faults.{rear_none, text_faultless, fault_free, good_literals}
use Rattle.text.proofs.Held.{text_held}

-- ---- the path checker on the rows of a tree

-- up to 64 good literals are allowed, and of more the 65th is the first that is not
few_allowed : (literals : List Float) → GoodEach literals → (i : ℕ) → i < length literals → i < most_literals → bad_literal_at literals i ≡ false
unfolding bad_literal_at
few_allowed literals good i h k = rw (lt-leb most_literals i k, good i h)

literals_checked :
    (literals : List Float) (next : Answer) → GoodEach literals
    → check (some (bad_literal_at literals) (up_to (length literals))) 4 (lowest (bad_literal_at literals) (length literals)) next
    ≡ check (ltb most_literals (length literals)) 4 most_literals next
unfolding bad_literal_at
literals_checked literals next good = elim (lt_or_ge most_literals (length literals)) [
  | inl h ↦
      let low : lowest (bad_literal_at literals) (length literals) ≡ most_literals =
      lowest_is (bad_literal_at literals) (length literals) most_literals (omega arith) (λ j k. few_allowed literals good j (omega arith) k)
      (λ k. refl) in
      rw (lowest_some (bad_literal_at literals) (length literals), low, lt-ltb most_literals (length literals) h)
  | inr h ↦
      rw (
        none_below (bad_literal_at literals) (length literals) (λ i k. few_allowed literals good i k (omega arith)),
        le-ltb most_literals (length literals) h,
      )
]

-- the rows of a tree that has some are five numbers each, so their number alone decides
length_checked : (e : Tree) → 0 < weight e → not (path_length_allowed (written 0 e)) ≡ ltb most_path_rows (weight e)
unfolding path_length_allowed
length_checked e h =
    let q : List ℕ = written 0 e in
    let five : length q % 5 ≡ 0 = omega (arith, length_written 0 e) in
    rw (eq-eqb (length q % 5) 0 five, written_rows e, le-leb 1 (weight e) h) (decide (lt_or_ge most_path_rows (weight e)))
  where
    decide : (most_path_rows < weight e) ⊎ (weight e ≤ most_path_rows) → not (leb (weight e) most_path_rows) ≡ ltb most_path_rows (weight e)
    decide (inl k) = rw (lt-leb (weight e) most_path_rows k, lt-ltb most_path_rows (weight e) k)
    decide (inr k) = rw (le-leb (weight e) most_path_rows k, le-ltb most_path_rows (weight e) k)

module _ (literals : List Float) (e : Tree) (fits : Fits (length literals) PathLink e) where
  -- a tree that fits a path's place is read back from its rows
  pub fit_read_back : path_tree (written 0 e) ≡ e
  fit_read_back = ap (tree (written 0 e)) (written_rows e) ∙ written_reads_back e fits.tidy

  -- and has rows, none of which is broken
  fit_rows : (0 < weight e) × GoodRows (written 0 e) (length literals)
  fit_rows = by e fits
    where
      by : (e : Tree) → Fits (length literals) PathLink e → (0 < weight e) × GoodRows (written 0 e) (length literals)
      by none f = absurd (unfold good_held is_link good_child may_miss in f.taken)
      by (node op a b c d) f = (
        unfold weight in omega arith,
        written_whole (length literals) op a b c d f.tidy f.made
            (is_true (is_path op) (unfold good_held is_link good_child takes in f.taken)),
      )

  -- so document 01's path checker finds in the rows what the limits find in the tree
  pub fit_checks : GoodEach literals → (next : Answer) → path_checks (written 0 e) literals next ≡ limit_checks e literals next
  unfolding path_checks limit_checks
  fit_checks good next =
      rw (
        length_checked e fit_rows.0,
        none_below (broken_row (written 0 e) (length literals)) (R.rows_of (written 0 e)) fit_rows.1,
        fit_read_back,
        literals_checked literals (check (ltb most_depth (depth e)) 6 0 next) good,
      )

-- ---- a text

module _ (s : Source) (ts : List Token) (d : Sentence ts) (no-faults : text_faults s (syntax_of ts) ≡ [])
    (good-names : bad_names s.names ≡ false) where
  -- the literals of a text without faults are good
  text_literals : GoodEach (literals_of s (syntax_of ts))
  unfolding text_faults
  text_literals = good_literals s (syntax_of ts) (rear_none (as_path s (syntax_of ts)) (faults s (syntax_of ts)) no-faults)

  -- and its tree fits a path's place
  tree_fits : Fits (length (literals_of s (syntax_of ts))) PathLink (tree_of s (syntax_of ts))
  unfolding literals_of tree_of
  tree_fits = text_held s (literals_of s (syntax_of ts)) good-names ts d no-faults (all_known [] (values s (syntax_of ts)) text_literals)

  -- the path checker's answer on the rows and literals of a text is that of the reader's limits, whatever follows: 3, 4 or 6, and never 5
  pub accepted_path :
      (next : Answer)
      → path_checks (written 0 (tree_of s (syntax_of ts))) (literals_of s (syntax_of ts)) next
      ≡ limit_checks (tree_of s (syntax_of ts)) (literals_of s (syntax_of ts)) next
  accepted_path next = fit_checks (literals_of s (syntax_of ts)) (tree_of s (syntax_of ts)) tree_fits text_literals next

  -- the rows of a text read back as its tree
  pub read_back : path_tree (written 0 (tree_of s (syntax_of ts))) ≡ tree_of s (syntax_of ts)
  read_back = fit_read_back (literals_of s (syntax_of ts)) (tree_of s (syntax_of ts)) tree_fits

-- ---- the answer

-- behind an answer of 0 no check applies
passes : (b : Bool) (m p : ℕ) (next : Answer) → (check b (suc m) p next).number ≡ 0 → (b ≡ false) × (next.number ≡ 0)
passes true m p next e = absurd (omega arith)
passes false m p next e = (refl, e)

limits_passed :
    (t : Tree) (l : List Float) (next : Answer) → (limit_checks t l next).number ≡ 0
    → ((other : Answer) → limit_checks t l other ≡ other) × (next.number ≡ 0)
unfolding limit_checks
limits_passed t l next e =
    let (rows, rest) = passes (ltb most_path_rows (weight t)) 2 0 _ e in
    let (few, last) = passes (ltb most_literals (length l)) 3 most_literals _ rest in
    let (shallow, end) = passes (ltb most_depth (depth t)) 5 0 next last in
    ((λ other. rw (rows, few, shallow)), end)

room_passed :
    (t : Tree) (l : List Float) (room literalRoom : ℕ) → (room_checks t l room literalRoom).number ≡ 0
    → room_checks t l room literalRoom ≡ answer 0 (weight t)
unfolding room_checks
room_passed t l room literalRoom e =
    let (wide, rest) = passes (ltb room (5 * weight t)) 20 (5 * weight t) _ e in
    let (wide-too, end) = passes (ltb literalRoom (length l)) 26 (length l) _ rest in
    rw (wide, wide-too)

module _ (text list : List ℕ) (room literalRoom : ℕ) where
  -- the construct of a text whose answer is 0
  inside_accepted :
      (d : Sentence (classes_of text)) → (reading (inside (syntax_of (classes_of text))) text list room literalRoom).number ≡ 0
      → path_answer (rows_of (inside (syntax_of (classes_of text))) (source text list))
      (literals (inside (syntax_of (classes_of text))) (source text list))
      ≡ reading (inside (syntax_of (classes_of text))) text list room literalRoom
  unfolding reading form_checks rows_of literals source path_answer text_faults
  inside_accepted d e =
      let s : Source = source text list in
      let x : Syntax = syntax_of (classes_of text) in
      let t : Tree = tree_of s x in
      let l : List Float = literals_of s x in
      let (names, form) = passes (bad_names (names_of list)) 21 (bad_line_number (names_of list)) _ e in
      let none_found : text_faults s x ≡ [] = text_faultless s x _ form in
      let after : Answer = limit_checks t l (room_checks t l room literalRoom) in
      let free : fault_check (text_faults s x) after ≡ after = fault_free (text_faults s x) after none_found in
      let (lets, rest) = limits_passed t l (room_checks t l room literalRoom) (sym (ap (λ (r : Answer). r.number) free) ∙ form) in
      let done : Answer = answer 0 (R.rows_of (written 0 t)) in
      let told : path_answer (written 0 t) l ≡ answer 0 (weight t) =
      accepted_path s (classes_of text) d none_found names done ∙ (lets done ∙ ap (answer 0) (written_rows t)) in
      told ∙ sym (rw names (free ∙ (lets (room_checks t l room literalRoom) ∙ room_passed t l room literalRoom rest)))

  -- what the reader writes where it answers 0 is accepted by document 01's path checker, with the same answer
  pub read_accepted :
      (f : Form) → HasForm text f → (reading f text list room literalRoom).number ≡ 0
      → path_answer (rows_of f (source text list)) (literals f (source text list)) ≡ reading f text list room literalRoom
  unfolding reading form_checks HasForm
  read_accepted (outside p) h e =
      let (names, form) = passes (bad_names (names_of list)) 21 (bad_line_number (names_of list)) _ e in
      absurd (omega arith)
  read_accepted (inside x) h e =
      let same-one : x ∷ [] ≡ syntax_of (classes_of text) ∷ [] = sym h.1 ∙ the_tree (classes_of text) h.0 in
      let same-tree : syntax_of (classes_of text) ≡ x = cc in
      let s : Source = source text list in
      let Stated : Syntax → Type 0 = λ y.
      (reading (inside y) text list room literalRoom).number ≡ 0
      → path_answer (rows_of (inside y) s) (literals (inside y) s) ≡ reading (inside y) text list room literalRoom in
      subst Stated same-tree (inside_accepted h.0) e
