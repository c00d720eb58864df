-- Uniqueness: any two outcomes that the promise of `reader::read_path` allows are equal, what is given back as it is and every entry of both
-- outputs alike: a number that no other refusal has tells which refusal it is, and 0 that it is none.
-- Assumes nothing.
use Prim.Native.Nat.{ℕ}
use mathlib.Core.Path.{◌≡◌, refl, sym, ◌∙◌}
use mathlib.Core.Bool.{false, cond}
use mathlib.Core.List.{List}
use lib.Dec.{eqb}
use lib.Ieee.{Float}
use native.Mathlib.Omega.{arith}
use borrow.Author.Tests.{ne_eqb}
use Rattle.std.specs.Prelude.{Result, Ok, Err, IfErr}
use Rattle.meaning.specs.declared.Answer.{Answer}
use Rattle.meaning.proofs.Unique.{Unique}
use Rattle.text.specs.Reading.{ReadsPath}
use Rattle.text.proofs.Limits.{reads_once}
use Rattle.reader.specs.declared.Written.{Written}
use Rattle.reader.specs.declared.TextRefusal.{TextRefusal}
use Rattle.reader.specs.declared.TextRefusal.TheVariants.{BadNames, Wrong, TooManyRows, TooManyLiterals, TooDeep, NoRoom, NoRoomForLiterals}
use Rattle.reader.specs.Told.{HasOwnNumber, told, literals_of}

-- what was told with this number, place and count of literals
abbrev outcome : Answer → ℕ → Result Written TextRefusal
outcome a n =
    cond (eqb a.number 0) (Ok (record { rows = a.place; literals = n }))
    (cond (eqb a.number 22) (Err (BadNames a.place))
    (cond (eqb a.number 3) (Err TooManyRows)
    (cond (eqb a.number 4) (Err TooManyLiterals)
    (cond (eqb a.number 6) (Err TooDeep)
    (cond (eqb a.number 21) (Err (NoRoom a.place))
    (cond (eqb a.number 27) (Err (NoRoomForLiterals a.place))
    (Err (Wrong (record { number = a.number; place = a.place })))))))))

-- it is what was given back
outcome_told : (r : Result Written TextRefusal) → IfErr r HasOwnNumber → outcome (told r) (literals_of r) ≡ r
outcome_told (Ok w) h = refl
outcome_told (Err (BadNames line)) h = refl
outcome_told (Err (Wrong f)) h =
    let other : (n : ℕ) → (f.number ≡ n → ⊥) → eqb f.number n ≡ false = ne_eqb f.number in
    rw (
      other 0 (λ e. omega (arith, h.0, e)),
      other 22 (λ e. omega (arith, h.0, e)),
      other 3 (λ e. omega (arith, h.0, e)),
      other 4 (λ e. omega (arith, h.0, e)),
      other 6 (λ e. omega (arith, h.0, e)),
      other 21 (λ e. omega (arith, h.0, e)),
      other 27 (λ e. omega (arith, h.1, e)),
    ) refl
outcome_told (Err TooManyRows) h = refl
outcome_told (Err TooManyLiterals) h = refl
outcome_told (Err TooDeep) h = refl
outcome_told (Err (NoRoom n)) h = refl
outcome_told (Err (NoRoomForLiterals n)) h = refl

-- so what is told tells what is given back
pub told_once :
    (r r' : Result Written TextRefusal) → IfErr r HasOwnNumber → IfErr r' HasOwnNumber → told r ≡ told r' → literals_of r ≡ literals_of r'
    → r ≡ r'
told_once r r' h h' e n = sym (outcome_told r h) ∙ (λ i. outcome (e i) (n i)) ∙ outcome_told r' h'

pub read_path_unique :
    (text list rows : List ℕ) (out : List Float)
    → Unique (λ (x : Result Written TextRefusal × List ℕ × List Float). ReadsPath text list rows out (told x.0) (literals_of x.0) x.1 x.2 × IfErr x.0 HasOwnNumber)
read_path_unique text list rows out x y (p, h) (q, k) =
    let once = reads_once text list rows out p q in
    let same : x.0 ≡ y.0 = told_once x.0 y.0 h k once.0 once.1 in
    λ i. (same i, once.2 i, once.3 i)
