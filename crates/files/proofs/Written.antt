-- Laws of writing: the lengths of lines, and how lines are laid into an output one behind the other.
-- Assumes nothing.
use Prim.Native.Nat.{ℕ, ◌+◌, ◌-◌, ◌%◌, ◌≤◌}
use native.Mathlib.Omega.{arith}
use mathlib.Core.Path.{◌≡◌, sym, ◌∙◌}
use mathlib.Core.Logic.{⊎_elim}
use mathlib.Core.List.{List, [], ◌∷◌, ◌++◌, append_assoc, append-nil}
use lib.ListN.{length, take, drop, set, length-append, length-drop}
use lib.Seq.{take-length, take_all, drop-length, drop-drop}
use borrow.Rule.Slice.PartMut.{put_mid, Post-is}
use Rattle.meaning.specs.Table.{rows}
use Rattle.decimal.specs.Decimal.{ascii, digits, laid}
use Rattle.decimal.proofs.Decimals.{width_few}
use Rattle.decimal.proofs.Laid.{length_laid, laid_laid, laid_one}
use Rattle.files.specs.Files.{line, key, number_lines, joined, bytes_of}
use Rattle.files.specs.Parts.{keyed, heading}
use Rattle.meaning.proofs.Bools.{eq_or_ne}
use Rattle.files.proofs.Lines.{key_at, last_key}

-- ---- lengths

pub keyed_length : (word : List ℕ) (n : ℕ) → length (keyed word n) ≡ length word + length (digits n) + 1
keyed_length word n = simp length-append

-- the first two lines
length_two : (a b : List ℕ) → length (joined (a ∷ (b ∷ []))) ≡ length a + length b
unfolding joined
length_two a b = rw (append-nil b, length-append)

pub heading_length : (t : List ℕ) → length (joined (heading t)) ≡ 17 + length (digits (rows t))
unfolding line
heading_length t =
    let e : length (line "edition" 1) ≡ 10 = rw (keyed_length (ascii "edition=") 1, width_few 1 (omega arith)) in
    let n : length (line "nodes" (rows t)) ≡ 7 + length (digits (rows t)) = keyed_length (ascii "nodes=") (rows t) ∙ omega arith in
    length_two (line "edition" 1) (line "nodes" (rows t)) ∙ rw (e, n) (omega arith)

-- the line of a parent is two bytes longer than the others
pub line_parent : (i n : ℕ) → i % 4 ≡ 2 → length (line (key i) n) ≡ 8 + length (digits n)
unfolding line key
line_parent i n e = rw (key_at i 2 e) (keyed_length (ascii "parent=") n ∙ omega arith)

pub line_other : (i n : ℕ) → (i % 4 ≡ 2 → ⊥) → length (line (key i) n) ≡ 6 + length (digits n)
unfolding line key
line_other i n e =
    ⊎_elim
    (λ (a : i % 4 ≡ 0). rw (key_at i 0 a) (keyed_length (ascii "kind=") n ∙ omega arith))
    (λ (a : i % 4 ≡ 0 → ⊥).
    ⊎_elim
    (λ (b : i % 4 ≡ 1). rw (key_at i 1 b) (keyed_length (ascii "name=") n ∙ omega arith))
    (λ (b : i % 4 ≡ 1 → ⊥). rw (key_at i 3 (last_key i a b e)) (keyed_length (ascii "size=") n ∙ omega arith))
    (eq_or_ne (i % 4) 1))
    (eq_or_ne (i % 4) 0)

-- ---- laying

-- what is copied to the front of a part that begins at index at is laid from there on
pub put_laid : (out word ys : List ℕ) (at : ℕ) → at + length word ≤ length out
    → ys ≡ take (length word) word ++ drop (length word) (take (length out - at) (drop at out)) → put_mid at (length out - at) out ys ≡ laid out at word
put_laid out word ys at h e =
    rw (e, take-length word, take_all (length out - at) (drop at out) (rw length-drop (omega arith)), drop-drop (length word) at out, Post-is at (length out) out (omega arith), drop-length out)
    (rw (append-nil (word ++ drop (at + length word) out)) (sym (append_assoc (take at out) word (drop (at + length word) out))))

-- a key, the digits of a number and a line feed, one behind the other
pub line_laid : (out word : List ℕ) (at n : ℕ) → at + length (keyed word n) ≤ length out
    → set (laid (laid out at word) (at + length word) (digits n)) (at + length word + length (digits n)) 10 ≡ laid out at (keyed word n)
line_laid out word at n h =
    let k : length (keyed word n) ≡ length word + length (digits n) + 1 = keyed_length word n in
    let a : laid (laid out at word) (at + length word) (digits n) ≡ laid out at (word ++ digits n) = laid_laid out at word (digits n) (omega arith) in
    let m : at + length word + length (digits n) ≡ at + length (word ++ digits n) = rw length-append (omega arith) in
    let l : length (laid out at (word ++ digits n)) ≡ length out = length_laid out at (word ++ digits n) (omega arith) in
    rw (a, m, laid_one (laid out at (word ++ digits n)) (at + length (word ++ digits n)) 10 (omega arith))
    (laid_laid out at (word ++ digits n) (10 ∷ []) (omega arith))

-- ---- a table's file: its first two lines and those of its numbers

module _ (t : List ℕ) where
  pub bytes_parts : bytes_of t ≡ (line "edition" 1 ++ line "nodes" (rows t)) ++ joined (number_lines 0 t)
  unfolding bytes_of joined
  bytes_parts = sym (append_assoc (line "edition" 1) (line "nodes" (rows t)) (joined (number_lines 0 t)))

  pub bytes_length : length (bytes_of t) ≡ length (line "edition" 1) + length (line "nodes" (rows t)) + length (joined (number_lines 0 t))
  bytes_length = rw bytes_parts (simp length-append)

  -- laid one behind the other they are the file
  pub table_laid : (out : List ℕ) → length (bytes_of t) ≤ length out
      → laid (laid (laid out 0 (line "edition" 1)) (0 + length (line "edition" 1)) (line "nodes" (rows t))) (0 + length (line "edition" 1) + length (line "nodes" (rows t))) (joined (number_lines 0 t)) ≡ laid out 0 (bytes_of t)
  table_laid out h =
      let l : length (bytes_of t) ≡ length (line "edition" 1) + length (line "nodes" (rows t)) + length (joined (number_lines 0 t)) = bytes_length in
      let n : 0 + length (line "edition" 1) + length (line "nodes" (rows t)) ≡ 0 + length (line "edition" 1 ++ line "nodes" (rows t)) = rw length-append (omega arith) in
      rw (laid_laid out 0 (line "edition" 1) (line "nodes" (rows t)) (omega arith), n, bytes_parts)
      (laid_laid out 0 (line "edition" 1 ++ line "nodes" (rows t)) (joined (number_lines 0 t)) (omega arith))
