-- The decimal numbers of a text: digits, and one byte behind them.
use Rattle.std.specs.Prelude.{ℕ, zero, suc, ◌+◌, ◌-◌, ◌*◌, List, [], ◌∷◌, if◌then◌else◌}
use Rattle.std.specs.Char.{is_ascii_digit}

-- the number that the digits at the front of a text make behind a number
abbrev pub number_behind : ℕ → List ℕ → ℕ
number_behind n [] = n
number_behind n (b ∷ bs) = if is_ascii_digit b then number_behind (10 * n + (b - 48)) bs else n

-- the number at the front of a text: 0 where no digit stands there
abbrev pub number_of : List ℕ → ℕ
number_of text = number_behind 0 text

-- what stands behind the digits at the front of a text and one byte more
abbrev pub behind_number : List ℕ → List ℕ
behind_number [] = []
behind_number (b ∷ bs) = if is_ascii_digit b then behind_number bs else bs

-- what stands behind the first i numbers of a text
abbrev pub behind_numbers : ℕ → List ℕ → List ℕ
behind_numbers zero text = text
behind_numbers (suc i) text = behind_number (behind_numbers i text)

-- the number behind the first i numbers of a text
abbrev pub number_at : ℕ → List ℕ → ℕ
number_at i text = number_of (behind_numbers i text)
