-- What the reader gives back, as a number, a place and a count of literals.
-- Assumes nothing: these are definitions.
use Rattle.std.specs.Prelude.{ℕ, ◌≤◌, ⊤, Result, Ok, Err}
use Rattle.meaning.specs.Rows.{most_literals}
use Rattle.meaning.specs.Answers.{answer}
use Rattle.meaning.specs.declared.Answer.{Answer}
use Rattle.reader.specs.declared.Written.{Written}
use Rattle.reader.specs.declared.TextRefusal.{TextRefusal}
use Rattle.reader.specs.declared.TextRefusal.TheVariants.{BadNames, Wrong, TooManyRows, TooManyLiterals, TooDeep, NoRoom, NoRoomForLiterals}

-- a refusal as its number and place
abbrev pub refused : TextRefusal → Answer
refused (BadNames line) = answer 22 line
refused (Wrong f) = answer f.number f.place
refused TooManyRows = answer 3 0
refused TooManyLiterals = answer 4 most_literals
refused TooDeep = answer 6 0
refused (NoRoom n) = answer 21 n
refused (NoRoomForLiterals n) = answer 27 n

-- a fault has a number from 23 to 26, which no other refusal has
abbrev pub HasOwnNumber : TextRefusal → Type 0
HasOwnNumber (BadNames line) = ⊤
HasOwnNumber (Wrong f) = (23 ≤ f.number) × (f.number ≤ 26)
HasOwnNumber TooManyRows = ⊤
HasOwnNumber TooManyLiterals = ⊤
HasOwnNumber TooDeep = ⊤
HasOwnNumber (NoRoom n) = ⊤
HasOwnNumber (NoRoomForLiterals n) = ⊤

-- 0 with the number of rows, or a refusal
abbrev pub told : Result Written TextRefusal → Answer
told (Ok w) = answer 0 w.rows
told (Err r) = refused r

-- how many literals are told: none with a refusal
abbrev pub literals_of : Result Written TextRefusal → ℕ
literals_of (Ok w) = w.literals
literals_of (Err r) = 0
