-- Decimals (document 02, W-201): a number and its digits, as bytes, without leading zeros.
-- Assumes nothing: these are definitions.
use Rattle.std.specs.Prelude.{ℕ, zero, suc, ◌+◌, ◌-◌, ◌*◌, ◌/◌, ◌%◌, Bool, true, false, ◌&&◌, not, cond, List, [], ◌∷◌, ◌++◌, length, take, drop, leb, ltb, eqb, Option, None, Some}
use Prim.Native.Char.{code}
use Prim.Native.String as Text

-- the bytes of an ASCII text
abbrev pub ascii : Text.String → List ℕ
ascii Text.[] = []
ascii (Text.◌∷◌ c s) = code c ∷ ascii s

-- the largest number that is read
abbrev pub most_number : ℕ
most_number = 4294967295

-- ---- from a number to its digits

-- the digits of n, of which there are at most so many: the last one stands behind those of a tenth of n
unfoldable pub digits_of : ℕ → ℕ → List ℕ
digits_of zero n = []
digits_of (suc most) n =
    let front : List ℕ = digits_of most (n / 10) in
    cond (ltb n 10) ((48 + n) ∷ []) (front ++ ((48 + n % 10) ∷ []))

-- the digits of n, without leading zeros: `0` for 0
unfoldable pub digits : ℕ → List ℕ
digits n = digits_of (suc n) n

-- ---- from digits to their number

-- is a byte a digit, `0` to `9`?
abbrev pub is_digit : ℕ → Bool
is_digit b = leb 48 b && leb b 57

-- the digits at the front of a text
unfoldable pub leading : List ℕ → List ℕ
leading [] = []
leading (b ∷ s) = cond (is_digit b) (b ∷ leading s) []

-- the number of digits that stand behind those of n: each makes it ten times as much, and itself more
unfoldable pub number_from : ℕ → List ℕ → ℕ
number_from n [] = n
number_from n (b ∷ s) = number_from (10 * n + (b - 48)) s

-- the number of digits
abbrev pub number : List ℕ → ℕ
number s = number_from 0 s

-- are digits a decimal: some, and no leading zero but a `0` alone?
unfoldable pub plain : List ℕ → Bool
plain [] = false
plain (b ∷ []) = true
plain (b ∷ (c ∷ s)) = not (eqb b 48)

-- the decimal at index i of a text: its number and the index behind its digits; none where no decimal up to the largest number stands there
unfoldable pub decimal_at : List ℕ → ℕ → Option (ℕ × ℕ)
decimal_at text i =
    cond (plain (leading (drop i text)) && leb (number (leading (drop i text))) most_number)
    (Some (number (leading (drop i text)), i + length (leading (drop i text))))
    None

-- ---- what is written

-- a slice with these entries from index i on in place of those that stood there
abbrev pub laid : List ℕ → ℕ → List ℕ → List ℕ
laid out i s = take i out ++ s ++ drop (i + length s) out
