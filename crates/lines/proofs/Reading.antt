-- A digit more in a number that fits 64 bits.
use Rattle.std.proofs.Common.{◌≡◌, ℕ, ◌+◌, ◌-◌, ◌*◌, ◌^◌, ◌<◌, ◌≤◌, List, [], ◌∷◌, Bool, true, false, arith, refl, if◌then◌else◌}
use Rattle.std.specs.Char.{is_ascii_digit}
use Rattle.lines.specs.Numbers.{number_behind, behind_number}

-- a choice is at least what both sides are
at_least : (d : Bool) (n x y : ℕ) → n ≤ x → n ≤ y → n ≤ (if d then x else y)
at_least true n x y p q = p
at_least false n x y p q = q

-- the number that digits make behind n is at least n
pub grows : (n : ℕ) (text : List ℕ) → n ≤ number_behind n text
grows n [] = omega arith
grows n (b ∷ bs) =
    let more : 10 * n + (b - 48) ≤ number_behind (10 * n + (b - 48)) bs = grows (10 * n + (b - 48)) bs in
    at_least (is_ascii_digit b) n (number_behind (10 * n + (b - 48)) bs) n (omega (arith, more)) (omega arith)

-- a digit behind a number makes what the digits behind it make behind both
digit_first : (n b : ℕ) (bs : List ℕ) → is_ascii_digit b ≡ true → number_behind n (b ∷ bs) ≡ number_behind (10 * n + (b - 48)) bs
digit_first n b bs e = rw e refl

-- one digit more keeps the number that all digits make, where that fits 64 bits
pub next_digit : (v d b r total : ℕ) (text bs : List ℕ) → text ≡ b ∷ bs → is_ascii_digit b ≡ true → b ≡ 48 + d → (10 * v + d < 2 ^ 64 → r ≡ 10 * v + d) → (total < 2 ^ 64 → number_behind v text ≡ total) → total < 2 ^ 64 → number_behind r bs ≡ total
next_digit v d b r total text bs begins is_digit digit exact whole fits =
    let first : number_behind v (b ∷ bs) ≡ number_behind (10 * v + (b - 48)) bs = digit_first v b bs is_digit in
    let same : b - 48 ≡ d = omega arith in
    let whole : number_behind v text ≡ total = whole fits in
    let rest : number_behind (10 * v + d) bs ≡ total = cc in
    let more : 10 * v + d ≤ number_behind (10 * v + d) bs = grows (10 * v + d) bs in
    let r_is : r ≡ 10 * v + d = exact (omega arith) in
    rw r_is rest

-- a digit more leaves the same text behind the number
pub digit_passed : (b : ℕ) (text bs : List ℕ) → text ≡ b ∷ bs → is_ascii_digit b ≡ true → behind_number bs ≡ behind_number text
digit_passed b text bs begins is_digit = rw (begins, is_digit) refl
