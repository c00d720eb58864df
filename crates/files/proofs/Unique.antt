-- Uniqueness: any two outcomes that a promise allows are equal, number, place and every entry of the output alike; also as the functions for
-- C give them, in parts.
-- Assumes nothing.
use Prim.Native.Nat.{ℕ}
use mathlib.Core.Path.{◌≡◌, refl, sym, ap, ◌∙◌}
use mathlib.Core.List.{List}
use lib.ListN.{length}
use Rattle.meaning.specs.Table.{most_rows}
use Rattle.meaning.specs.Answers.{answer, output}
use Rattle.meaning.specs.declared.Answer.{Answer}
use Rattle.meaning.proofs.Unique.{Unique, unique_parts}
use Rattle.files.specs.Files.{bytes_of, Form}
use Rattle.files.specs.Answers.{reading, rows_in, ReadsTable, WritesTable}
use Rattle.files.proofs.Forms.{form_unique}

pub read_table_unique : (file out : List ℕ) → Unique (λ (x : Answer × List ℕ). ReadsTable most_rows file out x.0 x.1)
read_table_unique file out x y (a, h, e, w) (b, k, f, v) =
    let s : a ≡ b = form_unique most_rows file a b h k in
    let r : x.0 ≡ y.0 = e ∙ ap (λ (form : Form). reading form (length out)) s ∙ sym f in
    λ i. (r i, (w ∙ (λ j. output (r j) (rows_in (s j)) out) ∙ sym v) i)

pub write_table_unique : (t out : List ℕ) → Unique (λ (x : Answer × List ℕ). WritesTable t out x.0 x.1)
write_table_unique t out x y (e, w) (f, v) =
    let r : x.0 ≡ y.0 = e ∙ sym f in
    λ i. (r i, (w ∙ ap (λ (a : Answer). output a (bytes_of t) out) r ∙ sym v) i)

pub bt_read_table_unique : (file out : List ℕ) → Unique (λ (x : ℕ × ℕ × List ℕ). ReadsTable most_rows file out (answer x.0 x.1) x.2)
bt_read_table_unique file out = unique_parts _ (λ x. (answer x.0 x.1, x.2)) (λ r. (r.0.number, r.0.place, r.1)) (λ x. refl) (read_table_unique file out)

pub bt_write_table_unique : (t out : List ℕ) → Unique (λ (x : ℕ × ℕ × List ℕ). WritesTable t out (answer x.0 x.1) x.2)
bt_write_table_unique t out = unique_parts _ (λ x. (answer x.0 x.1, x.2)) (λ r. (r.0.number, r.0.place, r.1)) (λ x. refl) (write_table_unique t out)
