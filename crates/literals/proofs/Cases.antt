-- Values of number literals, against the bits of the doubles nearest to what they say, and where a value stands among literals.
-- Assumes nothing: each is computed from the definitions.
use Prim.Native.Nat.{ℕ}
use Prim.Native.String.{String}
use mathlib.Core.Path.{◌≡◌, refl}
use mathlib.Core.List.{List, [], ◌∷◌, map}
use lib.Ieee.{Float, binary64, of_bits}
use lib.Ieee as Ieee
use Rattle.meaning.specs.Lists.{keep}
use Rattle.meaning.specs.Meaning.{float}
use Rattle.decimal.specs.Decimal.{ascii, number_from}
use Rattle.text.specs.Tokens.{many, run_end, number_end}
use Rattle.text.specs.Limited.{number_at, digits, digits_behind, value_at}
use Rattle.text.specs.Reading.{index_of}

-- a text, where its literal begins, and the bits of the literal's value
pub data Case : Type 0 where
  case : String → ℕ → ℕ → Case

-- zeros in front and behind, no digit before the point or behind it, the most digits; and two inside a text that have another value if they
-- are rounded twice: as 1 and a fraction, and as a tenth of 7 tenths
abbrev pub cases : List Case
cases =
    case "0.1" 0 0x3FB999999999999A
    ∷ case "1.0" 0 0x3FF0000000000000
    ∷ case "01" 0 0x3FF0000000000000
    ∷ case ".5" 0 0x3FE0000000000000
    ∷ case "10." 0 0x4024000000000000
    ∷ case "0" 0 0x0000000000000000
    ∷ case "123456789012345" 0 0x42DC12218377DE40
    ∷ case "999999999999999" 0 0x430C6BF52633FFF8
    ∷ case ".000000000000001" 0 0x3CD203AF9EE75616
    ∷ case "a[1.14]" 2 0x3FF23D70A3D70A3D
    ∷ case "-0.07 -b" 1 0x3FB1EB851EB851EC
    ∷ []

abbrev pub given : Case → Float
given (case text p bits) = value_at (ascii text) p

abbrev pub listed : Case → Float
listed (case text p bits) = of_bits binary64 bits

pub literal_cases : map given cases ≡ map listed cases
unfolding keep number_from many run_end number_end number_at digits digits_behind value_at float Ieee.of_int Ieee.div Ieee.of_bits
literal_cases = refl

-- equal values stand at one place, however they are written; the length is the place of none
pub index_cases :
    map (index_of (map given cases)) (map (of_bits binary64) (0x3FF0000000000000 ∷ 0x3FB1EB851EB851EC ∷ 0x3FB1EB851EB851EB ∷ []))
    ≡ 1 ∷ 10 ∷ 11 ∷ []
unfolding keep number_from many run_end number_end number_at digits digits_behind value_at index_of float Ieee.of_int Ieee.div Ieee.of_bits Ieee.eq
index_cases = refl
