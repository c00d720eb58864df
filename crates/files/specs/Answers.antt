-- What the reader and the writer of table files give back, and what they promise (document 02, W-201). Each checks in the order that the
-- request lists: the reader form (20), room (21), rows (2); the writer length (1), rows (2), room (21). A place counts lines, numbers or bytes.
-- Assumes nothing: these are definitions.
use Rattle.std.specs.Prelude.{ℕ, ◌≡◌, List, [], length, ltb, Result, Ok, Err}
use Rattle.meaning.specs.Answers.{answer, refused, check, table_checks, output}
use Rattle.meaning.specs.declared.Answer.{Answer}
use Rattle.files.specs.declared.FileRefusal.{FileRefusal}
use Rattle.files.specs.declared.FileRefusal.TheVariants.{BadLine, NoRoom, Table}
use Rattle.files.specs.Files.{bytes_of, Form, good, bad, HasForm}

-- a refusal of the reader or the writer as its number and place
abbrev pub file_refused : FileRefusal → Answer
file_refused (BadLine k) = answer 20 k
file_refused (NoRoom amount) = answer 21 amount
file_refused (Table r) = refused r

-- what the reader or the writer gives back as a number and a place: 0 with its count, or its refusal
abbrev pub file_told : Result ℕ FileRefusal → Answer
file_told (Ok n) = answer 0 n
file_told (Err r) = file_refused r

-- 21: so much is needed, and the output holds less; else what follows
abbrev pub needs : ℕ → ℕ → Answer → Answer
needs amount room next = check (ltb room amount) 21 amount next

-- the reader, by the file's form. 20: the first bad line, from 1; 21: the numbers needed; 2: the lowest broken row (the length of good rows is
-- allowed, so 1 never applies); 0: the numbers written
unfoldable pub reading : Form → ℕ → Answer
reading (bad k) room = answer 20 k
reading (good t) room = needs (length t) room (table_checks t (answer 0 (length t)))

-- the rows of a good file
unfoldable pub rows_in : Form → List ℕ
rows_in (bad k) = []
rows_in (good t) = t

-- the writer. 1 and 2 as the table checker; 21: the bytes needed; 0: the bytes written
unfoldable pub writing : List ℕ → ℕ → Answer
writing t room = table_checks t (needs (length (bytes_of t)) room (answer 0 (length (bytes_of t))))

-- `files::read_table`, for files of so many rows at most: its answer is r, and what was out is out'
abbrev pub ReadsTable : ℕ → List ℕ → List ℕ → Answer → List ℕ → Type 0
ReadsTable most file out r out' =
    (form : Form) × HasForm most file form × (r ≡ reading form (length out)) × (out' ≡ output r (rows_in form) out)

-- `files::write_table`: its answer is r, and what was out is out'
abbrev pub WritesTable : List ℕ → List ℕ → Answer → List ℕ → Type 0
WritesTable t out r out' = (r ≡ writing t (length out)) × (out' ≡ output r (bytes_of t) out)
