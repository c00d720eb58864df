-- Laws of a file's first two lines, from what is read of them.
-- Assumes nothing.
use Prim.Native.Nat.{ℕ, ◌<◌, ◌≤◌}
use native.Mathlib.Omega.{arith}
use mathlib.Core.Path.{◌≡◌, refl, sym, ap, ◌∙◌}
use mathlib.Core.Logic.{◌⊎◌, ⊎_elim}
use mathlib.Core.Bool.{true, false, true≢false}
use mathlib.Core.List.{List, ◌++◌, append_assoc}
use lib.ListN.{length, drop}
use Rattle.meaning.specs.Table.{most_rows}
use Rattle.meaning.proofs.Bools.{lt_or_ge}
use Rattle.decimal.specs.Decimal.{ascii, digits, digits_of}
use Rattle.std.specs.Prelude.{None, Some, Ok, Err}
use Rattle.files.specs.declared.FileRefusal.TheVariants.{BadLine}
use Rattle.files.specs.Files.{line}
use Rattle.files.specs.Parts.{begins, LineAt, HeadOf}
use Rattle.files.proofs.Lines.{keyed_number}
use Rattle.files.proofs.Keyed.{begins_with, begins_append}
use Rattle.files.proofs.Forms.{bad_first, bad_second}

-- the first line, byte by byte
first : line "edition" 1 ≡ ascii "edition=1\n"
unfolding line digits digits_of
first = refl

pub head_first : (file : List ℕ) → begins (ascii "edition=1\n") file ≡ false → HeadOf file (Err (BadLine 1))
unfolding HeadOf
head_first file b =
    (1, refl, bad_first most_rows (omega arith) file (λ rest e. let k : file ≡ ascii "edition=1\n" ++ rest = rw first at e in true≢false (sym (ap (begins (ascii "edition=1\n")) k ∙ begins_append (ascii "edition=1\n") rest) ∙ b)))

module _ (file : List ℕ) (b : begins (ascii "edition=1\n") file ≡ true) where
  begun : file ≡ line "edition" 1 ++ drop 10 file
  begun = rw first (begins_with (ascii "edition=1\n") file b)

  pub head_length : 10 ≤ length file
  head_length = let n : length file ≡ length (ascii "edition=1\n" ++ drop 10 file) = ap length (begins_with (ascii "edition=1\n") file b) in omega arith

  pub head_none : LineAt (ascii "nodes=") file 10 None → HeadOf file (Err (BadLine 2))
  unfolding HeadOf LineAt line
  head_none none = (2, refl, bad_second most_rows (omega arith) file (drop 10 file) begun (λ n rest p q e. none n rest (omega arith) e))

  module _ (n next : ℕ) (l : LineAt (ascii "nodes=") file 10 (Some (n, next))) where
    pub head_outside : (n ≡ 0) ⊎ (most_rows < n) → HeadOf file (Err (BadLine 2))
    unfolding HeadOf LineAt line
    head_outside o = (
      2,
      refl,
      bad_second most_rows (omega arith) file (drop 10 file) begun (λ m rest p q e.
          let k : m ≡ n = keyed_number (ascii "nodes=") m n rest (drop next file) (sym e ∙ l.2) in
          ⊎_elim (λ (z : n ≡ 0). omega arith) (λ (z : most_rows < n). omega arith) o),
    )

    pub head_rows : (n ≡ 0 → ⊥) → n ≤ most_rows → HeadOf file (Ok (n, next))
    unfolding HeadOf LineAt line
    head_rows p q = (
      ⊎_elim (λ (z : n < 1). absurd (p (omega arith))) (λ (z : 1 ≤ n). z) (lt_or_ge n 1),
      q,
      l.1,
      begun ∙ rw l.2 (sym (append_assoc (line "edition" 1) (line "nodes" n) (drop next file))),
    )
