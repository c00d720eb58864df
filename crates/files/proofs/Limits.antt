-- Two limits of a file's rows (document 02, W-211): what a reader with the lesser one answers, one with the greater answers too, unless line
-- 2 was bad; and line 2 is bad where it counts more rows than the limit. So every file that was valid before W-211 is, with the same rows and
-- bytes, and the reader of then refuses all that are larger.
-- Assumes nothing.
use Prim.Native.Nat.{ℕ, zero, suc, ◌<◌, ◌≤◌}
use native.Mathlib.Omega.{arith}
use mathlib.Core.Path.{◌≡◌, refl, sym, ap, ◌∙◌}
use mathlib.Core.List.{List, ◌++◌}
use lib.ListN.{length, take, drop}
use lib.Seq.{take-take}
use lib.Dec.{T}
use Rattle.meaning.specs.Table.{rows, most_rows}
use Rattle.meaning.specs.Answers.{answer, output}
use Rattle.meaning.specs.declared.Answer.{Answer}
use Rattle.meaning.proofs.Tables.{within_length}
use Rattle.decimal.specs.Decimal.{ascii}
use Rattle.files.specs.Files.{line, number_lines, table_lines, lines_of, holdable, Form, good, bad, Opens, HasForm}
use Rattle.files.specs.Answers.{reading, ReadsTable, WritesTable}
use Rattle.files.proofs.Lines.{keyed_number}
use Rattle.files.proofs.Forms.{holdable_none, holdable_rows, none_above, holdable_from, least, least_holdable, same_length, bad_second, form_unique}
use Rattle.files.proofs.RoundTrips.{write_read}

-- ---- any limits

-- rows that can be held can be held under any limit that they are within
held : (most other : ℕ) (t : List ℕ) → T (holdable most t) → rows t ≤ other → T (holdable other t)
held most other t h k =
    let r = holdable_rows most t h in
    holdable_from other t (within_length other t r.0 r.1 k) (λ i l. none_above t (holdable_none most t h) i)

module _ (less more : ℕ) (some-row : 0 < less) (le : less ≤ more) (file : List ℕ) where
  opened : (k : ℕ) → Opens less file k → Opens more file k
  opened k (t, h, e) = (t, held less more t h (omega (arith, (holdable_rows less t h).2)), e)

  -- the first two lines tell the count, so what opens behind them under one limit opens under the other
  closed : (k : ℕ) → (k ≡ 2 → ⊥) → ((j : ℕ) → j < k → Opens less file j) → Opens more file k → Opens less file k
  unfolding number_lines
  closed zero n before o = (least, least_holdable less some-row, refl)
  closed (suc zero) n before (u, g, d) = (least, least_holdable less some-row, d)
  closed (suc (suc zero)) n before o = absurd (n refl)
  closed (suc (suc (suc k))) n before (u, g, d) =
      let (t, h, e) = before 2 (omega arith) in
      let heads : take 2 (table_lines u) ≡ take 2 (table_lines t) =
      sym (take-take 2 (suc (suc (suc k))) (table_lines u) (omega arith)) ∙ ap (λ (ls : List (List ℕ)). take 2 ls) (sym d) ∙ take-take 2 (suc (suc (suc k))) (lines_of file) (omega arith) ∙ e in
      let long : length u ≡ length t = same_length less more 0 t u h g heads in
      (u, held more less u g (omega (arith, (holdable_rows less t h).2)), d)

  -- a good file stays good, with the same rows
  pub good_kept : (t : List ℕ) → HasForm less file (good t) → HasForm more file (good t)
  unfolding HasForm
  good_kept t (h, e) = (held less more t h (omega (arith, (holdable_rows less t h).2)), e)

  -- and any form stays what it is, unless line 2 was bad
  form_kept : (form : Form) → HasForm less file form → (form ≡ bad 2 → ⊥) → HasForm more file form
  unfolding HasForm
  form_kept (good t) h n = good_kept t h
  form_kept (bad k) (opens, stops) n = (λ j l. opened j (opens j l), λ o. stops (closed k (λ e. n (ap bad e)) opens o))

  -- so an answer stays, with all that is written
  pub read_kept : (out : List ℕ) (r : Answer) (out' : List ℕ) → ReadsTable less file out r out' → (r ≡ answer 20 2 → ⊥) → ReadsTable more file out r out'
  unfolding reading
  read_kept out r out' (form, h, e, w) n = (form, form_kept form h (λ z. n (e ∙ ap (λ (f : Form). reading f (length out)) z)), e, w)

-- line 2 is bad where it counts more rows than the limit
pub count_above : (most : ℕ) → 0 < most → (file rest : List ℕ) (n : ℕ) → most < n → file ≡ line "edition" 1 ++ (line "nodes" n ++ rest) → HasForm most file (bad 2)
unfolding line
count_above most some-row file rest n h e =
    bad_second most some-row file (line "nodes" n ++ rest) e (λ m others p q f.
    let k : m ≡ n = keyed_number (ascii "nodes=") m n others rest (sym f) in
    omega arith)

-- ---- the limit before W-211, and the limit

abbrev pub most_before : ℕ
most_before = 4096

-- EVERY FILE THAT WAS VALID IS VALID, WITH THE SAME ROWS
pub stays_good : (file t : List ℕ) → HasForm most_before file (good t) → HasForm most_rows file (good t)
stays_good = good_kept most_before most_rows (omega arith) (omega arith)

-- WHATEVER THE READER OF THEN ANSWERED BUT A BAD LINE 2, THE READER ANSWERS, and writes the same
pub stays_read : (file out : List ℕ) (r : Answer) (out' : List ℕ) → ReadsTable most_before file out r out' → (r ≡ answer 20 2 → ⊥) → ReadsTable most_rows file out r out'
stays_read = read_kept most_before most_rows (omega arith) (omega arith)

-- AND A FILE THAT WAS READ KEEPS ITS BYTES: its rows, written where there is room, give the file
pub keeps_bytes : (file room : List ℕ) (a : Answer) (room' : List ℕ) (out : List ℕ) (b : Answer) (out' : List ℕ)
    → a.number ≡ 0 → length file ≤ length out
    → ReadsTable most_before file room a room' → WritesTable (take a.place room') out b out'
    → (b ≡ answer 0 (length file)) × (out' ≡ file ++ drop (length file) out)
keeps_bytes file room a room' out b out' z h r w =
    write_read file room a room' out b out' z h
    (stays_read file room a room' r (λ e. let k : ◌≡◌ {A = ℕ} 20 0 = ap (λ (a : Answer). a.number) (sym e) ∙ z in omega arith))
    w

-- THE READER OF THEN REFUSES A COUNT ABOVE ITS LIMIT AS A BAD LINE, LINE 2, and writes nothing
pub refused_then : (file rest : List ℕ) (n : ℕ) → most_before < n → file ≡ line "edition" 1 ++ (line "nodes" n ++ rest)
    → (out : List ℕ) (r : Answer) (out' : List ℕ) → ReadsTable most_before file out r out' → (r ≡ answer 20 2) × (out' ≡ out)
unfolding reading output
refused_then file rest n h e out r out' (form, f, a, w) =
    let is : form ≡ bad 2 = form_unique most_before file form (bad 2) f (count_above most_before (omega arith) file rest n h e) in
    let told : r ≡ answer 20 2 = a ∙ ap (λ (f : Form). reading f (length out)) is in
    (told, w ∙ rw told)
