-- The two round trips, as theorems about the two promises: reading what was written gives the same rows, and whatever the reader takes, the
-- writer writes back byte for byte.
-- Assumes nothing.
use Prim.Native.Nat.{ℕ, ◌<◌, ◌≤◌}
use native.Mathlib.Omega.{arith}
use mathlib.Core.Path.{◌≡◌, refl, sym, ap, ◌∙◌}
use mathlib.Core.Logic.{⊎_elim}
use mathlib.Core.Bool.{true}
use mathlib.Core.List.{List, ◌++◌}
use lib.ListN.{length, take, drop}
use lib.Seq.{take-append_seam}
use lib.Dec.{T}
use Rattle.meaning.specs.Table.{most_rows, accepted}
use Rattle.meaning.specs.Answers.{answer, table_answer, output}
use Rattle.meaning.specs.declared.Answer.{Answer}
use Rattle.meaning.proofs.Bools.{lt_or_ge, eq_or_ne}
use Rattle.meaning.proofs.Tables.{allowed}
use Rattle.meaning.proofs.Exactly.{table_lets}
use Rattle.files.specs.Files.{bytes_of, holdable, Form, good, bad, HasForm}
use Rattle.files.specs.Answers.{reading, rows_in, ReadsTable, WritesTable}
use Rattle.files.proofs.Forms.{holdable_from, form_unique}
use Rattle.files.proofs.Small.{numbers_small}
use Rattle.files.proofs.Outcome.{read_short, read_broken, read_whole, write_whole}

-- what stands at the front of an output that was written, and all of it
written_output : (a : Answer) (front out : List ℕ) → a.number ≡ 0 → output a front out ≡ front ++ drop (length front) out
unfolding output
written_output a front out z = rw z

-- an accepted table's answer is 0
accepted_answer : (t : List ℕ) → accepted t ≡ true → (table_answer t).number ≡ 0
unfolding table_answer
accepted_answer t acc = ap (λ (a : Answer). a.number) (table_lets t (answer 0 _) acc)

-- the bytes of rows that a file can hold are a good file
good_bytes : (t : List ℕ) → T (holdable most_rows t) → HasForm most_rows (bytes_of t) (good t)
unfolding HasForm
good_bytes t h = (h, refl)

-- rows that were read are accepted, and there was room
taken : (t : List ℕ) (room : ℕ) → (reading (good t) room).number ≡ 0 → ((table_answer t).number ≡ 0) × (length t ≤ room)
taken t room z =
    ⊎_elim
    (λ (h : room < length t). let k : ◌≡◌ {A = ℕ} 21 0 = ap (λ (a : Answer). a.number) (read_short t room h) ∙ z in absurd (omega arith))
    (λ (h : length t ≤ room).
    ⊎_elim
    (λ (e : (table_answer t).number ≡ 0). (e, h))
    (λ (e : (table_answer t).number ≡ 0 → ⊥). absurd (e (ap (λ (a : Answer). a.number) (read_broken t room h e) ∙ z)))
    (eq_or_ne (table_answer t).number 0))
    (lt_or_ge room (length t))

-- READING WHAT WAS WRITTEN GIVES THE SAME ROWS: an accepted table is written where there is room, and the bytes written, read where there is
-- room, give the table
pub read_written : (t out : List ℕ) (a : Answer) (out' : List ℕ) (room : List ℕ) (b : Answer) (room' : List ℕ)
    → accepted t ≡ true → length (bytes_of t) ≤ length out → length t ≤ length room
    → WritesTable t out a out' → ReadsTable most_rows (take a.place out') room b room'
    → (a ≡ answer 0 (length (bytes_of t))) × (b ≡ answer 0 (length t)) × (room' ≡ t ++ drop (length t) room)
unfolding rows_in
read_written t out a out' room b room' acc h k (e, w) (form, f, r, v) =
    let ok : (table_answer t).number ≡ 0 = accepted_answer t acc in
    let done : a ≡ answer 0 (length (bytes_of t)) = e ∙ sym (write_whole t (length out) ok h) in
    let all : out' ≡ bytes_of t ++ drop (length (bytes_of t)) out = w ∙ written_output a (bytes_of t) out (ap (λ (a : Answer). a.number) done) in
    let bytes : take a.place out' ≡ bytes_of t = rw (done, all) (take-append_seam (bytes_of t) (drop (length (bytes_of t)) out)) in
    let is : form ≡ good t = form_unique most_rows (bytes_of t) form (good t) (rw bytes at f) (good_bytes t (holdable_from most_rows t (allowed t acc) (λ i l. omega (arith, numbers_small t acc i)))) in
    let read : b ≡ answer 0 (length t) = r ∙ ap (λ (x : Form). reading x (length room)) is ∙ sym (read_whole t (length room) k ok) in
    (done, read, v ∙ written_output b (rows_in form) room (ap (λ (a : Answer). a.number) read) ∙ rw (ap rows_in is))

-- WHATEVER THE READER TAKES, THE WRITER WRITES BACK BYTE FOR BYTE: the rows that were read, written where there is room, give the file
pub write_read : (file room : List ℕ) (a : Answer) (room' : List ℕ) (out : List ℕ) (b : Answer) (out' : List ℕ)
    → a.number ≡ 0 → length file ≤ length out
    → ReadsTable most_rows file room a room' → WritesTable (take a.place room') out b out'
    → (b ≡ answer 0 (length file)) × (out' ≡ file ++ drop (length file) out)
unfolding HasForm reading rows_in
write_read file room a room' out b out' z h (bad k, f, r, v) (e, w) = let n : ◌≡◌ {A = ℕ} 20 0 = ap (λ (a : Answer). a.number) (sym r) ∙ z in absurd (omega arith)
write_read file room a room' out b out' z h (good t, f, r, v) (e, w) =
    let ok = taken t (length room) (ap (λ (a : Answer). a.number) (sym r) ∙ z) in
    let read : a ≡ answer 0 (length t) = r ∙ sym (read_whole t (length room) ok.1 ok.0) in
    let all : room' ≡ t ++ drop (length t) room = v ∙ written_output a t room z in
    let rows : take a.place room' ≡ t = rw (read, all) (take-append_seam t (drop (length t) room)) in
    let fits : length (bytes_of t) ≤ length out = rw f.1 at h in
    let done : b ≡ answer 0 (length (bytes_of t)) = e ∙ rw rows (sym (write_whole t (length out) ok.0 fits)) in (
      done ∙ rw f.1,
      w ∙ written_output b (bytes_of (take a.place room')) out (ap (λ (a : Answer). a.number) done) ∙ rw (rows, f.1),
    )
